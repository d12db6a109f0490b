-- Division as the rules round it, and how large a signed number is.
use Rattle.std.specs.Prelude.{◌≡◌, ℕ, suc, ◌+◌, ◌-◌, ◌*◌, ◌/◌, ◌≤◌, cond, ℤ, pos, negsuc, nat_abs, ◌+ℤ◌, ◌*ℤ◌}
use Rattle.std.specs.Int.Signed.{shr_z, le_z}

-- n / d, taken up to a whole number
unfoldable pub ceiling : ℕ → ℕ → ℕ
ceiling n d = (n + (d - 1)) / d

-- n / d to the nearest whole number, a half to the larger: the floor of (2n + d) / 2d
unfoldable pub nearest : ℤ → ℕ → ℤ
nearest n d = shr_z (pos 2 *ℤ n +ℤ pos d) (2 * d)

-- the lesser of two numbers
unfoldable pub lesser : ℤ → ℤ → ℤ
lesser a b = cond (le_z a b) a b

-- how far z is above 0
abbrev pub up : ℤ → ℕ
up (pos n) = n
up (negsuc n) = 0

-- how far z is below 0
abbrev pub down : ℤ → ℕ
down (pos n) = 0
down (negsuc n) = suc n

-- z, or 0 if it is below 0
abbrev pub floored : ℤ → ℤ
floored z = pos (up z)

-- z is from −n to n
abbrev pub Within : ℕ → ℤ → Type 0
Within n z = (up z ≤ n) × (down z ≤ n)

-- z is from 0 to n
abbrev pub Upto : ℕ → ℤ → Type 0
Upto n z = (nat_abs z ≤ n) × (down z ≡ 0)
