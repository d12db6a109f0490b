-- Rounding: the promises of specs/Rounding proved of `nearest`, and the laws by which code rounds. `nearest_by` shows that a number is the nearest,
-- `nearest-within` says where the nearest lies, both by the parts of the integer kit.
use mathlib.Core.Path.{◌≡◌, refl, sym, ap, ◌∙◌, subst}
use mathlib.Core.Logic.{◌⊎◌, inl, inr, ⊎_elim}
use Prim.Native.Nat.{ℕ, zero, suc, ◌+◌, ◌*◌, ◌-◌, ◌/◌, ◌%◌, ◌≤◌, ◌<◌, min}
use Rattle.std.proofs.lemmas.Nat.{div-mul-add}
use Rattle.std.specs.Int.{int_min, int_max}
use native.Mathlib.Nat.{mul-add, mul_comm, suc-mul, div-add-mod', mod-lt, mul-le-mul_left, lt_of_mul-lt-mul_left}
use native.Mathlib.Nat.{le_of_lt, le_of_eq, mul-le-mul, mul-zero}
use native.Mathlib.Omega.{arith}
use lib.Dec.{lit<}
use borrow.Author.Tests.{lt-ltb}
use lib.IntN.{ℤ, pos, negsuc, nat_abs, ◌+ℤ◌, ◌-ℤ◌, ◌*ℤ◌}
use lib.Signed.{shr_z, le_z, lt_z, ◌≤ℤ◌, ◌<ℤ◌}
use mathlib.Core.Bool.{Bool, true, false, cond}
use Rattle.energy.specs.Energy.{capped, kwh, payment}
use Rattle.energy.specs.Number.{ceiling, lesser, floored, nearest, up, down, Within}
use Rattle.energy.specs.Rounding.{Nearest, Rounding·theorem, distance}
use Rattle.energy.proofs.Tests.{either}
use Rattle.energy.proofs.Integers.{exact, abs-parts, order, from_parts, le_z-on, le_z_yes}
use Rattle.energy.proofs.Integers.{<-apart, ≤-apart, add_parts, diff_parts, mul-parts, arith_ℤ, tests_ℤ}

-- ---- the floor q of z / m: m q ≤ z < m q + m, by the parts
floor_bounds : (z : ℤ) (m : ℕ) → 0 < m
    → (m * up (shr_z z m) + down z ≤ up z + m * down (shr_z z m)) × (up z + m * down (shr_z z m) < m * up (shr_z z m) + down z + m)
floor_bounds (pos a) m h = omega (arith, div-add-mod' a m, mod-lt a h)
floor_bounds (negsuc a) m h = omega (arith, div-add-mod' a m, mod-lt a h)

-- ---- the nearest number, by the parts: 2 d q ≤ 2 n + d < 2 d q + 2 d
abbrev pub By : ℤ → ℕ → ℤ → Type 0
By n d q =
    (2 * (d * up q) + 2 * down n ≤ 2 * up n + d + 2 * (d * down q))
    × (2 * up n + d + 2 * (d * down q) < 2 * (d * up q) + 2 * down n + 2 * d)

pub nearest-within : (n : ℤ) (d : ℕ) → 0 < d → By n d (nearest n d)
unfolding nearest
nearest-within n d h =
    let z = pos 2 *ℤ n +ℤ pos d in
    omega (arith, floor_bounds z (2 * d) (omega arith), mul-parts (pos 2) n, add_parts (pos 2 *ℤ n) (pos d))

-- and no other number lies so
pub nearest_by : (n : ℤ) (d : ℕ) (q : ℤ) → By n d q → q ≡ nearest n d
nearest_by n d q h =
    let w : By n d (nearest n d) = nearest-within n d (omega arith) in
    ⊎_elim (λ l. absurd (omega (arith, mul-le-mul_left d (<-apart l))))
    (λ g. ⊎_elim (λ l. absurd (omega (arith, mul-le-mul_left d (<-apart l)))) (λ k. omega arith_ℤ) (order (nearest n d) q))
    (order q (nearest n d))

-- ---- the promises

-- how far off a number is, by the parts
off : (n : ℤ) (d : ℕ) (z : ℤ) → distance n d z ≡ (up n + d * down z) - (down n + d * up z) + ((down n + d * up z) - (up n + d * down z))
off n d z = omega (arith, mul-parts (pos d) z, exact (diff_parts n (pos d *ℤ z)), abs-parts (n -ℤ pos d *ℤ z))

module _ (n : ℤ) (d : ℕ) (d>0 : 1 ≤ d) (k : ℤ) where
  abbrev q : ℤ
  q = nearest n d

  -- a larger number is farther off
  above : q <ℤ k → distance n d q < distance n d k
  above h = omega (arith, nearest-within n d d>0, mul-le-mul_left d (<-apart h), off n d q, off n d k)

  -- no other is nearer
  below : k ≤ℤ q → distance n d q ≤ distance n d k
  below h =
      ⊎_elim (λ l. omega (arith, nearest-within n d d>0, mul-le-mul_left d (<-apart l), off n d q, off n d k))
      (λ g. le_of_eq (ap (distance n d) (from_parts q k (omega (arith_ℤ, h, g))))) (order k q)

pub nearest_is : (n : ℤ) (d : ℕ) → 1 ≤ d → Nearest n d (nearest n d)
nearest_is n d h =
    record {
      closest = λ k. ⊎_elim (λ a. le_of_lt (above n d h k a)) (λ b. below n d h k b) (order (nearest n d) k);
      larger = λ k e. ⊎_elim (λ a. absurd (omega (arith, above n d h k a))) (λ b. b) (order (nearest n d) k);
    }

pub nearest_only : (n : ℤ) (d : ℕ) (q : ℤ) → 1 ≤ d → Nearest n d q → q ≡ nearest n d
nearest_only n d q h f =
    let g = nearest_is n d h in
    let same : distance n d q ≡ distance n d (nearest n d) = omega (arith, f.closest (nearest n d), g.closest q) in
    omega (arith_ℤ, g.larger q same, f.larger (nearest n d) (sym same))

pub nearest_error : (n : ℤ) (d : ℕ) → 1 ≤ d → 2 * distance n d (nearest n d) ≤ d
nearest_error n d h = omega (arith, nearest-within n d h, off n d (nearest n d))

pub nearest_mono : (a b : ℤ) (d : ℕ) → 1 ≤ d → a ≤ℤ b → nearest a d ≤ℤ nearest b d
nearest_mono a b d p h =
    ⊎_elim
    (λ lt. absurd (omega (arith_ℤ, nearest-within a d p, nearest-within b d p, mul-le-mul_left d (<-apart lt))))
    (λ le. le)
    (order (nearest b d) (nearest a d))

lesser-first : (a b : ℤ) → a ≤ℤ b → lesser a b ≡ a
unfolding lesser
lesser-first a b h = rw (le_z_yes a b (≤-apart h))

lesser-second : (a b : ℤ) → b ≤ℤ a → lesser a b ≡ b
unfolding lesser
lesser-second a b h = either (le_z a b) (λ e. rw e (omega (arith_ℤ, le_z-on a b e))) (λ e. rw e)

pub lesser_cases : (a b : ℤ) → ((lesser a b ≡ a) × (a ≤ℤ b)) ⊎ ((lesser a b ≡ b) × (b ≤ℤ a))
lesser_cases a b = ⊎_elim (λ l. let h : a ≤ℤ b = omega arith_ℤ in inl (lesser-first a b h, h)) (λ h. inr (lesser-second a b h, h)) (order a b)

pub lesser-nearest : (a b : ℤ) (d : ℕ) → 1 ≤ d → lesser (nearest a d) (nearest b d) ≡ nearest (lesser a b) d
lesser-nearest a b d p =
    ⊎_elim (λ x. rw (x.0, lesser-first (nearest a d) (nearest b d) (nearest_mono a b d p x.1)))
    (λ x. rw (x.0, lesser-second (nearest a d) (nearest b d) (nearest_mono b a d p x.1))) (lesser_cases a b)

nearest_zero : (d : ℕ) → 1 ≤ d → nearest (pos 0) d ≡ pos 0
nearest_zero d h = sym (nearest_by (pos 0) d (pos 0) (omega (arith, mul-zero d)))

-- a number and what it rounds to are on the same side of 0
pub nearest_above : (n : ℤ) (d : ℕ) → 1 ≤ d → pos 0 ≤ℤ n → pos 0 ≤ℤ nearest n d
nearest_above n d h l = omega (arith_ℤ, nearest_zero d h, nearest_mono (pos 0) n d h l)

nearest_below : (n : ℤ) (d : ℕ) → 1 ≤ d → n ≤ℤ pos 0 → nearest n d ≤ℤ pos 0
nearest_below n d h l = omega (arith_ℤ, nearest_zero d h, nearest_mono n (pos 0) d h l)

pub floored_above : (z : ℤ) → pos 0 ≤ℤ z → floored z ≡ z
floored_above (pos n) h = refl
floored_above (negsuc n) h = absurd (omega arith_ℤ)

pub floored_below : (z : ℤ) → z ≤ℤ pos 0 → floored z ≡ pos 0
floored_below (pos n) h = omega arith_ℤ
floored_below (negsuc n) h = refl

pub floored-nearest : (n : ℤ) (d : ℕ) → 1 ≤ d → floored (nearest n d) ≡ nearest (floored n) d
floored-nearest (pos a) d h = floored_above (nearest (pos a) d) (nearest_above (pos a) d h (omega arith_ℤ))
floored-nearest (negsuc a) d h = floored_below (nearest (negsuc a) d) (nearest_below (negsuc a) d h (omega arith_ℤ)) ∙ sym (nearest_zero d h)

-- so it is of the lesser of two numbers, floored
pub capped-nearest : (a b : ℤ) (d : ℕ) → 1 ≤ d → capped (nearest a d) (nearest b d) ≡ nearest (capped a b) d
capped-nearest a b d h = rw (lesser-nearest a b d h, floored-nearest (lesser a b) d h)

pub rounding : Rounding·theorem
rounding =
    record { is = nearest_is; only = nearest_only; error = nearest_error; monotone = nearest_mono; least = lesser-nearest; floor = floored-nearest }

-- ---- a natural rounded in one division: half of d is added, and the quotient rounds down
pub half_up : (n d : ℕ) → 0 < d → pos ((n + d / 2) / d) ≡ nearest (pos n) d
half_up n d p =
    let a : ℕ = n + d / 2 in
    nearest_by (pos n) d (pos (a / d)) (omega (arith, div-add-mod' a d, mul_comm (a / d) d, mod-lt a p))

pub half_up_within : (n d r : ℕ) → 0 < d → pos r ≡ nearest (pos n) d → (2 * (d * r) ≤ 2 * n + d) × (2 * n + d < 2 * (d * r) + 2 * d)
half_up_within n d r p e = let w : By (pos n) d (pos r) = subst (By (pos n) d) (sym e) (nearest-within (pos n) d p) in omega arith

-- so a signed number of at most K wholes: raised by them it is not negative, and what it then rounds to is K too many
pub record Lowered (n : ℤ) (d K r : ℕ) : Type 0 where
  pub most : r ≤ 2 * K
  pub within : Within K (pos r -ℤ pos K)
  pub value : pos r -ℤ pos K ≡ nearest n d

pub record Raised (n : ℤ) (d K : ℕ) : Type 0 where
  pub low : down (n +ℤ pos (d * K)) ≡ 0
  pub size : nat_abs (n +ℤ pos (d * K)) ≤ 2 * (d * K)
  pub lowered : (r : ℕ) → pos r ≡ nearest (pos (nat_abs (n +ℤ pos (d * K)))) d → Lowered n d K r

pub raised : (n : ℤ) (d K : ℕ) → 0 < d → Within (d * K) n → Raised n d K
raised n d K p b =
    let sum = exact (add_parts n (pos (d * K))) in
    let size : nat_abs (n +ℤ pos (d * K)) ≡ up n + d * K - down n = omega (arith, abs-parts (n +ℤ pos (d * K))) in
    record { low = omega arith; size = omega arith; lowered = lowered size }
  where
    lowered : nat_abs (n +ℤ pos (d * K)) ≡ up n + d * K - down n → (r : ℕ) → pos r ≡ nearest (pos (nat_abs (n +ℤ pos (d * K)))) d → Lowered n d K r
    lowered size r e =
        let x : ℤ = pos r -ℤ pos K in
        let w = half_up_within (nat_abs (n +ℤ pos (d * K))) d r p e in
        let m : d * (up x + K) ≡ d * (r + down x) = ap (λ y. d * y) (omega (arith, diff_parts (pos r) (pos K))) in
        let most : r ≤ 2 * K = omega (arith, lt_of_mul-lt-mul_left d {m = r} {n = 2 * K + 1} (omega (arith, mul-add d (2 * K) 1))) in
        record {
          most = most;
          within = omega (arith, exact (diff_parts (pos r) (pos K)));
          value = nearest_by n d x (omega (arith, mul-add d (up x) K, mul-add d r (down x)));
        }

-- at most K wholes round to at most K
pub nearest_bound : (n : ℤ) (d K : ℕ) → 0 < d → Within (d * K) n → Within K (nearest n d)
nearest_bound n d K p b =
    let a : ℕ = nat_abs (n +ℤ pos (d * K)) in
    let l = (raised n d K p b).lowered ((a + d / 2) / d) (half_up a d p) in
    subst (Within K) l.value l.within

-- ---- how large a segment's kWh and its pence can be
pub lesser-within : (b : ℕ) (x y : ℤ) → Within b x → Within b y → Within b (lesser x y)
lesser-within b x y h k = ⊎_elim (λ e. rw e.0 h) (λ e. rw e.0 k) (lesser_cases x y)

pub capped-within : (x d : ℤ) → Within 120000000 x → Within 120000000 d → Within 500000 (capped (kwh x) (kwh d))
capped-within x d h k =
    omega (arith, lesser-within 500000 (kwh x) (kwh d) (nearest_bound x 240 500000 (lit< tt) h) (nearest_bound d 240 500000 (lit< tt) k))

pub payment-within : (c : ℤ) (rate : ℕ) → Within 500000 c → rate ≤ 1000000 → Within 500000000 (payment c rate)
payment-within c rate h k =
    nearest_bound (c *ℤ pos rate) 1000 500000000 (lit< tt) (omega (arith, mul-parts c (pos rate), mul-le-mul h.0 k, mul-le-mul h.1 k))

-- and on which side of 0 the pence are
pub payment_above : (c : ℤ) (rate : ℕ) → pos 0 ≤ℤ c → pos 0 ≤ℤ payment c rate
payment_above (pos k) rate h = nearest_above (pos (k * rate)) 1000 (lit< tt) (omega arith_ℤ)
payment_above (negsuc k) rate h = absurd (omega arith_ℤ)

-- ---- a quotient taken up to a whole number: a remainder, where there is one, makes one more
by_remainder : (q r d : ℕ) → r < d → (q * d + r + (d - 1)) / d ≡ q + min 1 r
by_remainder q zero d h =
    ap (λ n. n / d) (omega arith) ∙ div-mul-add q d (d - 1) (omega arith) ∙ omega arith
by_remainder q (suc k) d h =
    ap (λ n. n / d) (omega (arith, suc-mul q d)) ∙ div-mul-add (suc q) d k (omega arith) ∙ omega arith

pub taken_up : (n d : ℕ) → 0 < d → n / d + min 1 (n % d) ≡ ceiling n d
unfolding ceiling
taken_up n d h =
    sym (ap (λ m. (m + (d - 1)) / d) (sym (div-add-mod' n d)) ∙ by_remainder (n / d) (n % d) d (mod-lt n h))

-- ---- the library's lesser of two, and greater of one and 0, as the definitions have them
min_lesser : (a b : ℤ) → int_min a b ≡ lesser a b
unfolding lesser
min_lesser a b = by (le_z a b) (lt_z b a) refl refl
  where
    by : (s t : Bool) → le_z a b ≡ s → lt_z b a ≡ t → cond t b a ≡ cond s a b
    by true true p q = absurd (omega (arith_ℤ, tests_ℤ, p, q))
    by true false p q = refl
    by false true p q = refl
    by false false p q = absurd (omega (arith_ℤ, tests_ℤ, p, q))

max_floored : (z : ℤ) → int_max z (pos 0) ≡ floored z
max_floored (pos zero) = refl
max_floored (pos (suc n)) = ap (λ b. cond b (pos (suc n)) (pos 0)) (lt-ltb 0 (suc n) (omega arith))
max_floored (negsuc n) = refl

pub floored_lesser : (a b : ℤ) → int_max (int_min a b) (pos 0) ≡ capped a b
floored_lesser a b = ap (λ z. int_max z (pos 0)) (min_lesser a b) ∙ max_floored (lesser a b)
