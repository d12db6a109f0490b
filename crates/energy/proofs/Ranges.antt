-- `(a..=b).contains(&x)` is two tests, a ≤ x and x ≤ b: of the machine's numbers and of the kinds of number that are compared. Assumes nothing.
use mathlib.Core.Bool.{Bool, false, ◌&&◌}
use mathlib.Core.Path.{◌≡◌, refl, ◌∙◌}
use native.Mathlib.Omega.{arith}
use lib.Dec.{leb, ltb}
use lib.Signed.{le_z}
use Rattle.std.proofs.lemmas.Grind.{common_steps}
use Rattle.std.specs.Prelude.{Option}
use Rattle.std.proofs.Common.{Ordering}
use Rattle.std.specs.Ordering.{partial_le, partial_lt}
use Rattle.std.specs.Range.{range_inclusive_contains, range_inclusive_start, range_inclusive_end, range_inclusive_exhausted}
use Rattle.std.specs.declared.ops.RangeInclusive.{RangeInclusive}
use Rattle.energy.specs.declared.units.Minutes.{Minutes}
use Rattle.energy.specs.contracts.units.KwPartialOrd.TheImpl as kw
use Rattle.energy.specs.contracts.units.MinutesPartialOrd.TheImpl as minutes
use Rattle.std.specs.contracts.prelude.U8PartialOrd.TheImpl as u8
use Rattle.std.specs.contracts.prelude.U32PartialOrd.TheImpl as u32

-- a comparison's order is a test
pub record Tested {A : Type 0} (cmp : A → A → Option Ordering) (le : A → A → Bool) : Type 0 where
  pub tests : (x y : A) → partial_le cmp x y ≡ le x y

-- what a range's `contains` answers, by that test
pub contains_by : {A : Type 0} {cmp : A → A → Option Ordering} {le : A → A → Bool} → Tested cmp le → {s : RangeInclusive A} {a b : A} (x : A) {t : Bool}
    → range_inclusive_start s ≡ a → range_inclusive_end s ≡ b → range_inclusive_exhausted s ≡ false
    → t ≡ range_inclusive_contains cmp s x → t ≡ (le a x && le x b)
contains_by p {a = a} {b = b} x e f g h = h ∙ rw (e, f, g, p.tests a x, p.tests x b) refl

pub u8_tested : Tested u8.partial_cmp-value.it leb
u8_tested = record { tests = λ x y. grind (arith, common_steps) }

pub u32_tested : Tested u32.partial_cmp-value.it leb
u32_tested = record { tests = λ x y. grind (arith, common_steps) }

pub minutes_tested : Tested minutes.partial_cmp-value.it (λ x y. leb x.0 y.0)
minutes_tested = record { tests = λ x y. grind (arith, common_steps) }

pub kw_tested : Tested kw.partial_cmp-value.it (λ x y. le_z x.0 y.0)
kw_tested = record { tests = λ x y. grind (arith, common_steps) }

-- and of two minutes which is before the other
pub minutes_before : (x y : Minutes) → partial_lt minutes.partial_cmp-value.it x y ≡ ltb x.0 y.0
minutes_before x y = grind (arith, common_steps)
