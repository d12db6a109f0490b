-- `watch_step::step::are_base` meets its contract: the four tests are the definition's. Assumes nothing.
use mathlib.Core.Path.{◌≡◌, refl}
use mathlib.Core.Bool.{Bool, false, ◌&&◌, and_assoc, and-true}
use mathlib.Core.List.{List}
use lib.IntN.{ℤ}
use lib.ListN.{length}
use borrow.Author.Tests.{eq-eqb, ne_eqb}
use native.Mathlib.Omega.{arith}
use borrow.Author.Rules.{rules}
use mir.Syntax.{w32}
use mir.Val.{SFits}
use mir.Facts.{to_z-of_z}
use Rattle.energy.specs.Energy.{cell}
use Rattle.energy.specs.Lists.{all, between, run}
use Rattle.commands.specs.Input.{is_reading}
use Rattle.watch_step.specs.Step.{are_base}
use Rattle.watch_step.proofs.step.are_base.Goals as goal

not-four : (base : List ℤ) → (length base ≡ 4 → ⊥) → false ≡ are_base base
unfolding are_base
not-four base h = rw (ne_eqb (length base) 4 h) refl

four : (base : List ℤ) (a b c d : Bool) → length base ≡ 4 → a ≡ is_reading (cell base 0) → b ≡ is_reading (cell base 1) → c ≡ is_reading (cell base 2)
    → d ≡ is_reading (cell base 3) → (a && b && c && d) ≡ are_base base
unfolding are_base all between run
four base a b c d h ea eb ec ed = rw (eq-eqb (length base) 4 h, ea, eb, ec, ed) (simp (and_assoc, and-true))

pub returns-in-len4 : goal.returns-in-len4
returns-in-len4 c =
    let base = c.args.base.now in
    let f0 : SFits w32 (cell base 0) = search rules in
    let f1 : SFits w32 (cell base 1) = search rules in
    let f2 : SFits w32 (cell base 2) = search rules in
    let f3 : SFits w32 (cell base 3) = search rules in
    four base _ _ _ _ (omega arith) (rw (to_z-of_z f0) at c.is_base_reading.ensures)
    (rw (to_z-of_z f1) at c.is_base_reading-in-len4.ensures) (rw (to_z-of_z f2) at c.is_base_reading-in-len4-2.ensures)
    (rw (to_z-of_z f3) at c.is_base_reading-in-len4-3.ensures)

pub returns-in_default : goal.returns-in_default
returns-in_default c = not-four c.args.base.now (λ e. omega arith)

pub returns-in_default-2 : goal.returns-in_default-2
returns-in_default-2 c = not-four c.args.base.now (λ e. omega arith)
