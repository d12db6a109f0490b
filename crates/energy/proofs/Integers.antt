-- The integer kit: it puts ℤ in front of `omega`, which reads natural numbers only.
--
-- A signed number z is up z - down z, two naturals of which one is 0 (specs/Number). So a statement on ℤ is one on naturals: a and b are equal, or
-- in order, as up a + down b and up b + down a are. How to use it:
--
-- 1. `omega (arith_ℤ, ..)` in place of `omega (arith, ..)` reads and proves `a ≡ b`, `a ≤ℤ b` and `a <ℤ b` on ℤ.
-- 2. List what each sum, difference and product that stands in the goal or in a fact is made of, `add_parts a b`, `diff_parts a b`, `mul-parts a b`:
--        kept : (a b c : ℤ) → a ≤ℤ b → (a +ℤ c) ≤ℤ (b +ℤ c)
--        kept a b c h = omega (arith_ℤ, add_parts a c, add_parts b c)
--    Where it matters which of the two parts is 0, list `exact (add_parts a b)`; it costs a split into cases.
--    A product of two unknowns is an unknown of its own: hand over what is known of it, as `mul-le-mul h k` or `ap (λ x. d * x) e`.
-- 3. A bound, `Within n z`, is two bounds on naturals, and `omega arith` reads it as it stands.
-- 4. That a number fits a machine's width: `fits_parts w z (omega ..)`; `fits_sum`, `fits_diff` and `fits_product` ask it of the operands;
--    `parts-fit` leads back. Put an `SFits` for each number on the way into one record f; `simp (to_z-of_z, f.x, f.y) ..` then takes the machine's
--    writing and reading off a need, and leaves a statement on ℤ.
-- 5. A test of two signed numbers: with `tests_ℤ` in its list `omega` reads `le_z a b ≡ true` and its like; `le_z_yes` decides one.
-- 6. A signed number cast to an unsigned one: `non_neg_parts` that it may be, `abs-parts` what it becomes.
-- 7. `n / d` and `n % d` of a signed n: `quot_rem`.
use mathlib.Core.Path.{◌≡◌, refl, sym, ◌∙◌, ap, subst}
use mathlib.Core.Logic.{◌⊎◌, inl, inr}
use mathlib.Core.Bool.{Bool, true, false, not, cond}
use Prim.Native.Nat.{ℕ, zero, suc, ◌+◌, ◌*◌, ◌-◌, ◌/◌, ◌%◌, ◌≤◌, ◌<◌, ◌^◌}
use native.Mathlib.Omega.{arith}
use lib.Dec.{T, leb, ltb, leb-suc-suc, leb→le, le→leb, ltb→lt, lt→ltb, nltb→le}
use lib.IntN.{ℤ, pos, negsuc, neg_ℤ, nat_abs, sub_ℕ, ◌+ℤ◌, ◌-ℤ◌, ◌*ℤ◌}
use lib.Signed.{le_z, lt_z, non_neg, quot_z, rem_z, ◌≤ℤ◌, ◌<ℤ◌}
use native.Mathlib.Nat.{add-zero, zero-add, div-add-mod, div-le_self, mod-lt}
use mir.Syntax.{Width, w64}
use mir.Val.{SFits, to_z, of_z, hbits}
use mir.Facts.{to_z-of_z}
use lib.Pow.{pow_pos}
use Rattle.energy.specs.Number.{up, down, Upto}
use Rattle.energy.proofs.Tests.{either}
use borrow.Author.Tests.{leb-true, leb-false, ltb-true, ltb-false, le-leb, lt-leb, lt-ltb, le-ltb}

-- z is p - n. Then its own parts, of which one is 0, are at most p and n
pub record Is (z : ℤ) (p n : ℕ) : Type 0 where
  pub same : up z + n ≡ p + down z
  pub most : up z ≤ p
  pub least : down z ≤ n

pub is : (z : ℤ) (p n : ℕ) → up z + n ≡ p + down z → Is z p n
is (pos a) p n e = record { same = e; most = omega arith; least = omega arith }
is (negsuc a) p n e = record { same = e; most = omega arith; least = omega arith }

-- and which of the two is 0. Each `-` has `omega` split the proof: listed only where it is needed
pub exact : {z : ℤ} {p n : ℕ} → Is z p n → (up z ≡ p - n) × (down z ≡ n - p)
exact {z = pos a} i = omega arith
exact {z = negsuc a} i = omega arith

-- ---- the operations
cond_ind : (c : Bool) (x y : ℤ) (P : ℤ → Type 0) → (T c → P x) → (T (not c) → P y) → P (cond c x y)
cond_ind true x y P f g = f tt
cond_ind false x y P f g = g tt

sub_is : (a b : ℕ) → up (sub_ℕ a b) + b ≡ a + down (sub_ℕ a b)
sub_is a b = cond_ind (ltb a b) (negsuc (b - suc a)) (pos (a - b)) (λ z. up z + b ≡ a + down z)
    (λ t. omega (arith, ltb→lt a b t)) (λ t. omega (arith, nltb→le a b t))

add_is : (a b : ℤ) → up (a +ℤ b) + (down a + down b) ≡ up a + up b + down (a +ℤ b)
add_is (pos a) (pos b) = omega arith
add_is (pos a) (negsuc b) = omega (arith, sub_is a (suc b))
add_is (negsuc a) (pos b) = omega (arith, sub_is b (suc a))
add_is (negsuc a) (negsuc b) = omega arith

pub add_parts : (a b : ℤ) → Is (a +ℤ b) (up a + up b) (down a + down b)
add_parts a b = is _ _ _ (add_is a b)

pub neg_parts : (a : ℤ) → (up (neg_ℤ a) ≡ down a) × (down (neg_ℤ a) ≡ up a)
neg_parts (pos zero) = (refl, refl)
neg_parts (pos (suc n)) = (refl, refl)
neg_parts (negsuc n) = (refl, refl)

pub diff_parts : (a b : ℤ) → Is (a -ℤ b) (up a + down b) (down a + up b)
diff_parts a b = is _ _ _ (omega (arith, add_is a (neg_ℤ b), neg_parts b))

mul_is : (a b : ℤ) → up (a *ℤ b) + (up a * down b + down a * up b) ≡ up a * up b + down a * down b + down (a *ℤ b)
mul_is (pos a) (pos b) = omega arith
mul_is (pos a) (negsuc b) = omega (arith, neg_parts (pos (a * suc b)))
mul_is (negsuc a) (pos b) = omega (arith, neg_parts (pos (suc a * b)))
mul_is (negsuc a) (negsuc b) = omega arith

pub mul-parts : (a b : ℤ) → Is (a *ℤ b) (up a * up b + down a * down b) (up a * down b + down a * up b)
mul-parts a b = is _ _ _ (mul_is a b)

-- ---- equations and orders, from and to the parts
pub from_parts : (a b : ℤ) → up a + down b ≡ up b + down a → a ≡ b
from_parts (pos a) (pos b) h = ap pos (omega arith)
from_parts (pos a) (negsuc b) h = absurd (omega arith)
from_parts (negsuc a) (pos b) h = absurd (omega arith)
from_parts (negsuc a) (negsuc b) h = ap negsuc (omega arith)

pub to_parts : {a b : ℤ} → a ≡ b → up a + down b ≡ up b + down a
to_parts {a} {b} e = subst (λ (z : ℤ). up a + down z ≡ up z + down a) e refl

-- a test of two numbers is one of their parts
le_z-parts : (a b : ℤ) → le_z a b ≡ leb (up a + down b) (up b + down a)
le_z-parts (pos a) (pos b) = simp add-zero
le_z-parts (pos a) (negsuc b) = sym (lt-leb (a + suc b) (0 + 0) (omega arith))
le_z-parts (negsuc a) (pos b) = sym (le-leb (0 + 0) (b + suc a) (omega arith))
le_z-parts (negsuc a) (negsuc b) = simp (zero-add, leb-suc-suc)

lt_z-parts : (a b : ℤ) → lt_z a b ≡ ltb (up a + down b) (up b + down a)
lt_z-parts (pos a) (pos b) = simp add-zero
lt_z-parts (pos a) (negsuc b) = sym (le-ltb (a + suc b) (0 + 0) (omega arith))
lt_z-parts (negsuc a) (pos b) = sym (lt-ltb (0 + 0) (b + suc a) (omega arith))
lt_z-parts (negsuc a) (negsuc b) = simp (zero-add, leb-suc-suc)

-- of two numbers in order each part is
each_part : (a b : ℤ) → up a + down b ≤ up b + down a → (up a ≤ up b) × (down b ≤ down a)
each_part (pos a) (pos b) h = omega arith
each_part (pos a) (negsuc b) h = omega arith
each_part (negsuc a) (pos b) h = omega arith
each_part (negsuc a) (negsuc b) h = omega arith

pub ≤-from_parts : (a b : ℤ) → up a + down b ≤ up b + down a → a ≤ℤ b
≤-from_parts a b h = record { le = rw le_z-parts (le→leb _ _ h) }

pub <-from_parts : (a b : ℤ) → up a + down b < up b + down a → a <ℤ b
<-from_parts a b h = record { lt = rw lt_z-parts (lt→ltb _ _ h) }

-- the rules of `arith_ℤ`
pub ≤-apart : {a b : ℤ} → a ≤ℤ b → up a + down b ≤ up b + down a
≤-apart {a} {b} h = leb→le _ _ (rw le_z-parts at h.le)

pub <-apart : {a b : ℤ} → a <ℤ b → up a + down b < up b + down a
<-apart {a} {b} h = ltb→lt _ _ (rw lt_z-parts at h.lt)

pub ruleset arith_ℤ = (arith, from_parts, to_parts, ≤-from_parts, <-from_parts, ≤-apart, <-apart)

pub distrib : (a b c : ℤ) → a *ℤ (b +ℤ c) ≡ a *ℤ b +ℤ a *ℤ c
distrib a b c =
    omega (
      arith_ℤ,
      mul-parts a (b +ℤ c),
      mul-parts a b,
      mul-parts a c,
      add_parts (a *ℤ b) (a *ℤ c),
      ap (λ x. up a * x) (add_is b c),
      ap
          (λ x. down a * x) (add_is b c),
    )

-- ---- a signed width's range, and the magnitude
pub fits_parts : (w : Width) (z : ℤ) → (up z < 2 ^ hbits w) × (down z ≤ 2 ^ hbits w) → SFits w z
fits_parts w (pos n) h = record { sfits = h.0 }
fits_parts w (negsuc n) h = record { sfits = h.1 }

pub parts-fit : (w : Width) (z : ℤ) → SFits w z → (up z < 2 ^ hbits w) × (down z ≤ 2 ^ hbits w)
parts-fit w (pos n) h = (h.sfits, omega arith)
parts-fit w (negsuc n) h = (omega (arith, pow_pos (hbits w)), h.sfits)

-- a sum, a difference and a product fit where their parts do
pub fits_sum : (w : Width) (a b : ℤ) → (up a + up b < 2 ^ hbits w) × (down a + down b ≤ 2 ^ hbits w) → SFits w (a +ℤ b)
fits_sum w a b h = fits_parts w (a +ℤ b) (omega (arith, add_parts a b))

pub fits_diff : (w : Width) (a b : ℤ) → (up a + down b < 2 ^ hbits w) × (down a + up b ≤ 2 ^ hbits w) → SFits w (a -ℤ b)
fits_diff w a b h = fits_parts w (a -ℤ b) (omega (arith, diff_parts a b))

pub fits_product : (w : Width) (a b : ℤ)
    → (up a * up b + down a * down b < 2 ^ hbits w) × (up a * down b + down a * up b ≤ 2 ^ hbits w)
    → SFits w (a *ℤ b)
fits_product w a b h = fits_parts w (a *ℤ b) (omega (arith, mul-parts a b))

pub abs-parts : (z : ℤ) → nat_abs z ≡ up z + down z
abs-parts (pos n) = omega arith
abs-parts (negsuc n) = omega arith

-- ---- what a test of the machine tells
pub le_z-on : (a b : ℤ) → le_z a b ≡ true → up a + down b ≤ up b + down a
le_z-on a b e = leb-true _ _ (sym (le_z-parts a b) ∙ e)

pub le_z_off : (a b : ℤ) → le_z a b ≡ false → up b + down a < up a + down b
le_z_off a b e = leb-false _ _ (sym (le_z-parts a b) ∙ e)

pub lt_z-on : (a b : ℤ) → lt_z a b ≡ true → up a + down b < up b + down a
lt_z-on a b e = ltb-true _ _ (sym (lt_z-parts a b) ∙ e)

pub lt_z_off : (a b : ℤ) → lt_z a b ≡ false → up b + down a ≤ up a + down b
lt_z_off a b e = ltb-false _ _ (sym (lt_z-parts a b) ∙ e)

pub ruleset tests_ℤ = (le_z-on, le_z_off, lt_z-on, lt_z_off)

-- and of each part, where a bound on one is needed
pub le_z-true : (a b : ℤ) → le_z a b ≡ true → (up a ≤ up b) × (down b ≤ down a)
le_z-true a b e = each_part a b (le_z-on a b e)

pub lt_z-true : (a b : ℤ) → lt_z a b ≡ true → (up a ≤ up b) × (down b ≤ down a) × (up a + down b < up b + down a)
lt_z-true a b e = let h = lt_z-on a b e in omega (arith, each_part a b (omega arith))

pub lt_z-false : (a b : ℤ) → lt_z a b ≡ false → (up b ≤ up a) × (down a ≤ down b)
lt_z-false a b e = each_part b a (lt_z_off a b e)

-- what decides a test
pub le_z_yes : (a b : ℤ) → up a + down b ≤ up b + down a → le_z a b ≡ true
le_z_yes a b h = le_z-parts a b ∙ le-leb _ _ h

pub non_neg_parts : (z : ℤ) → down z ≡ 0 → T (non_neg z)
non_neg_parts (pos n) h = tt
non_neg_parts (negsuc n) h = absurd (omega arith)

-- a signed number from 0 on, as the machine holds it: it reads back as it is, and may be cast to an unsigned one
pub record Unsigned (z : ℤ) : Type 0 where
  pub plain : to_z w64 (of_z w64 z) ≡ z
  pub nonneg : T (non_neg z)

pub unsigned : (n : ℕ) (z : ℤ) → n < 2 ^ 63 → Upto n z → Unsigned z
unsigned n z l h =
    record {
      plain = to_z-of_z (fits_parts w64 z (omega (arith, abs-parts z)));
      nonneg = non_neg_parts z h.1;
    }

pub order : (a b : ℤ) → (a <ℤ b) ⊎ (b ≤ℤ a)
order a b = either (lt_z a b) (λ e. inl (<-from_parts a b (lt_z-on a b e))) (λ e. inr (≤-from_parts b a (lt_z_off a b e)))

-- ---- quotient and remainder toward zero, by a natural: z = m q + r by the parts, with r nearer 0 than m
pub record QuotRem (z : ℤ) (m : ℕ) : Type 0 where
  pub ups : m * up (quot_z z (pos m)) + up (rem_z z (pos m)) ≡ up z
  pub downs : m * down (quot_z z (pos m)) + down (rem_z z (pos m)) ≡ down z
  pub quot : (up (quot_z z (pos m)) ≤ up z) × (down (quot_z z (pos m)) ≤ down z)
  pub rem : (up (rem_z z (pos m)) < m) × (down (rem_z z (pos m)) < m)

pub quot_rem : (z : ℤ) (m : ℕ) → 0 < m → QuotRem z m
quot_rem (pos a) m h = record {
  ups = div-add-mod a m;
  downs = omega arith;
  quot = omega (arith, div-le_self a m);
  rem = omega (arith, mod-lt a h);
}
quot_rem (negsuc a) m h =
    let (qu, qd) = neg_parts (pos (suc a / m)) in
    let (ru, rd) = neg_parts (pos (suc a % m)) in
    record {
      ups = rw (qu, ru) (omega arith);
      downs = rw (qd, rd) (div-add-mod (suc a) m);
      quot = omega (arith, div-le_self (suc a) m);
      rem = omega (arith, mod-lt (suc a) h);
    }
