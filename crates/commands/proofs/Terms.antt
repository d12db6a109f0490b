-- What the ranges and ramps of a contract come to as numbers.
use mathlib.Core.Path.{◌≡◌, refl, ap}
use mathlib.Core.Bool.{true, not}
use mathlib.Core.List.{[], ◌∷◌}
use Prim.Native.Nat.{ℕ, ◌≤◌}
use lib.Dec.{T, leb, ltb, leb→le}
use native.Mathlib.Nat.{le-div_iff_mul-le}
use native.Mathlib.Omega.{arith}
use lib.IntN.{ℤ, pos, negsuc, nat_abs}
use lib.Signed.{le_z}
use borrow.Author.Tests.{ltb-false}
use Rattle.energy.specs.Number.{ceiling, down, Upto, Within}
use Rattle.energy.proofs.Integers.{le_z-true}
use Rattle.energy.proofs.Tests.{T_and, off_or, on_and}
use Rattle.commands.specs.Input.{kw_of, up_minutes, down_minutes, from_to, from_to_ℤ, in_range, is_reading, ramp_too_long}
use Rattle.commands.specs.declared.contract.Contract.{Contract}
use Rattle.commands.specs.declared.entries.Command.TheVariants.{Contract as contractᶜ}
use Rattle.commands.proofs.Chain.{apart, not_on}

-- the operands of a contract in their ranges
pub record Ranges (k : Contract) : Type 0 where
  pub days : (1 ≤ k.days) × (k.days ≤ 31)
  pub kind : k.kind ≤ 1
  pub service : k.service ≤ 1
  pub positive : k.contracted.0 ≡ pos (kw_of k)
  pub contracted : (3000 ≤ kw_of k) × (kw_of k ≤ 500000)
  pub rampup : (1 ≤ k.rampup) × (k.rampup ≤ 500000)
  pub rampdown : (1 ≤ k.rampdown) × (k.rampdown ≤ 500000)
  pub response : (1 ≤ k.response.0) × (k.response.0 ≤ 240)
  pub recovery : k.recovery.0 ≤ 1200
  pub availability : k.availability ≤ 1000000
  pub utilisation : k.utilisation ≤ 1000000
  pub optional : k.optional ≤ 1000000

-- a number between its limits
pub bounds : (a b n : ℕ) → T (from_to a b n) → (a ≤ n) × (n ≤ b)
bounds a b n t = let q = T_and (leb a n) (leb n b) t in (leb→le a n q.0, leb→le n b q.1)

-- a signed number between limits that are not negative
bounds_ℤ : (a b : ℕ) (z : ℤ) → T (from_to_ℤ (pos a) (pos b) z) → (z ≡ pos (nat_abs z)) × (a ≤ nat_abs z) × (nat_abs z ≤ b)
bounds_ℤ a b (pos n) t = let q = bounds a b n t in (refl, q.0, q.1)
bounds_ℤ a b (negsuc n) t = absurd t

-- a reading
pub reading_within : (x : ℤ) → is_reading x ≡ true → Within 500000 x
reading_within x e =
    let (l, h) = on_and (le_z (negsuc 499999) x) (le_z x (pos 500000)) e in
    omega (arith, le_z-true (negsuc 499999) x l, le_z-true x (pos 500000) h)

pub ranges : (k : Contract) → T (in_range (contractᶜ k)) → Ranges k
ranges k t =
    let q = apart (from_to 1 31 k.days)
    (from_to 0 1 k.kind
    ∷ from_to 0 1 k.service
    ∷ from_to_ℤ (pos 3000) (pos 500000) k.contracted.0
    ∷ from_to 1 500000 k.rampup
    ∷ from_to 1 500000 k.rampdown
    ∷ from_to 1 240 k.response.0
    ∷ from_to 0 1200 k.recovery.0
    ∷ from_to 0 1000000 k.availability
    ∷ from_to 0 1000000 k.utilisation
    ∷ from_to 0 1000000 k.optional
    ∷ [])
    t in
    let kw = bounds_ℤ 3000 500000 k.contracted.0 q.1.1.1.0 in
    record {
      days = bounds 1 31 k.days q.0;
      kind = (bounds 0 1 k.kind q.1.0).1;
      service = (bounds 0 1 k.service q.1.1.0).1;
      positive = kw.0;
      contracted = (kw.1, kw.2);
      rampup = bounds 1 500000 k.rampup q.1.1.1.1.0;
      rampdown = bounds 1 500000 k.rampdown q.1.1.1.1.1.0;
      response = bounds 1 240 k.response.0 q.1.1.1.1.1.1.0;
      recovery = (bounds 0 1200 k.recovery.0 q.1.1.1.1.1.1.1.0).1;
      availability = (bounds 0 1000000 k.availability q.1.1.1.1.1.1.1.1.0).1;
      utilisation = (bounds 0 1000000 k.utilisation q.1.1.1.1.1.1.1.1.1.0).1;
      optional = (bounds 0 1000000 k.optional q.1.1.1.1.1.1.1.1.1.1.0).1;
    }

-- the contracted kW are not below 0, and fit an unsigned number
pub kw_upto : (k : Contract) → Ranges k → Upto 4294967295 k.contracted.0
kw_upto k r = (omega arith, ap down r.positive)

-- a ramp takes a minute at least
pub ceiling-some : (n d : ℕ) → 1 ≤ n → 1 ≤ d → 1 ≤ ceiling n d
unfolding ceiling
ceiling-some n d h k = (le-div_iff_mul-le k).1 (omega arith)

-- a contract in its ranges whose ramps are short enough
pub record Terms (k : Contract) : Type 0 where
  pub ranges : Ranges k
  pub up : (1 ≤ up_minutes k) × (up_minutes k ≤ k.response.0)
  pub down : (1 ≤ down_minutes k) × (down_minutes k ≤ 240)

pub terms : (k : Contract) → T (in_range (contractᶜ k)) → T (not (ramp_too_long (contractᶜ k))) → Terms k
unfolding up_minutes down_minutes
terms k t s =
    let r : Ranges k = ranges k t in
    let q = off_or (ltb k.response.0 (up_minutes k)) (ltb 240 (down_minutes k)) (not_on (ramp_too_long (contractᶜ k)) s) in
    record {
      ranges = r;
      up = (ceiling-some (kw_of k) k.rampup (omega arith) r.rampup.0, ltb-false k.response.0 (up_minutes k) q.0);
      down = (ceiling-some (kw_of k) k.rampdown (omega arith) r.rampdown.0, ltb-false 240 (down_minutes k) q.1);
    }
