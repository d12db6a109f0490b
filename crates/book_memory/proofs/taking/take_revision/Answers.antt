-- `book_memory::taking::take_revision` meets its contract: a revision whose operands are in range has a number above 0.
use mathlib.Core.Path.{◌≡◌, refl}
use Rattle.commands.specs.Input.{input_refusal}
use Rattle.commands.specs.declared.entries.Command.TheVariants.{Revision as command}
use Rattle.commands.proofs.Outcomes.{outcome_err, outcome_clear}
use Rattle.book_memory.specs.Lent.{held_mut}
use Rattle.book_memory.proofs.TakenReading.{refused_not, revision_is}
use Rattle.book_memory.proofs.taking.take_revision.Goals as goal

pub returns-then-is_err : goal.returns-then-is_err
returns-then-is_err c =
    let at = c.args in
    (refused_not at.span (held_mut at.memory.now) (command at.v) _ refl (outcome_err _ c.input_refusal.ensures c.is_err.ensures.value c.if-is_err.true), (refl, (refl, refl)))

pub take_metered-requires : goal.take_metered-requires
take_metered-requires c =
    let none : input_refusal (command c.args.v) ≡ 0 = outcome_clear _ c.input_refusal.ensures c.is_err.ensures.value c.if-is_err.false in
    rw (revision_is c.args.v none) none

pub returns : goal.returns
returns c =
    let none : input_refusal (command c.args.v) ≡ 0 = outcome_clear _ c.input_refusal.ensures c.is_err.ensures.value c.if-is_err.false in
    rw (revision_is c.args.v none) at c.take_metered.ensures
