-- Proved of the rules: "Energy and money": what rounding to the nearest, a half to the larger, promises for every number and every divisor from 1.
use Rattle.std.specs.Prelude.{◌≡◌, ℕ, ◌*◌, ◌≤◌, ℤ, pos, nat_abs, ◌-ℤ◌, ◌*ℤ◌, ◌≤ℤ◌}
use Rattle.energy.specs.Number.{nearest, lesser, floored}

-- how far the whole number q is from n / d, in dths
abbrev pub distance : ℤ → ℕ → ℤ → ℕ
distance n d q = nat_abs (n -ℤ pos d *ℤ q)

-- q is nearest to n / d, a half to the larger
pub record Nearest (n : ℤ) (d : ℕ) (q : ℤ) : Type 0 where
  -- no whole number is nearer
  pub closest : (k : ℤ) → distance n d q ≤ distance n d k
  -- and none that is as near is larger
  pub larger : (k : ℤ) → distance n d k ≡ distance n d q → k ≤ℤ q

-- all that is promised of `nearest`
pub record Rounding·theorem : Type 0 where
  -- it is such a number
  pub is : (n : ℤ) (d : ℕ) → 1 ≤ d → Nearest n d (nearest n d)
  -- and the only one
  pub only : (n : ℤ) (d : ℕ) (q : ℤ) → 1 ≤ d → Nearest n d q → q ≡ nearest n d
  -- it is off by at most half of d
  pub error : (n : ℤ) (d : ℕ) → 1 ≤ d → 2 * distance n d (nearest n d) ≤ d
  -- it keeps the order
  pub monotone : (a b : ℤ) (d : ℕ) → 1 ≤ d → a ≤ℤ b → nearest a d ≤ℤ nearest b d
  -- so the lesser of two rounded is the rounded lesser
  pub least : (a b : ℤ) (d : ℕ) → 1 ≤ d → lesser (nearest a d) (nearest b d) ≡ nearest (lesser a b) d
  -- and what is floored at 0 and then rounded is what is rounded and then floored
  pub floor : (n : ℤ) (d : ℕ) → 1 ≤ d → floored (nearest n d) ≡ nearest (floored n) d
