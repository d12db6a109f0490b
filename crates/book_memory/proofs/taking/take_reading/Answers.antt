-- `book_memory::taking::take_reading` meets its contract: a plain reading is the one of revision 0.
use mathlib.Core.Path.{refl}
use Rattle.commands.specs.declared.entries.Command.TheVariants.{Reading as command}
use Rattle.commands.proofs.Outcomes.{outcome_err, outcome_clear}
use Rattle.book_memory.specs.Lent.{held_mut}
use Rattle.book_memory.proofs.TakenReading.{refused_not}
use Rattle.book_memory.proofs.taking.take_reading.Goals as goal

pub returns-then-is_err : goal.returns-then-is_err
returns-then-is_err c =
    let at = c.args in
    (refused_not at.span (held_mut at.memory.now) (command at.r) _ refl (outcome_err _ c.input_refusal.ensures c.is_err.ensures.value c.if-is_err.true), (refl, (refl, refl)))

pub take_metered-requires : goal.take_metered-requires
take_metered-requires c = outcome_clear _ c.input_refusal.ensures c.is_err.ensures.value c.if-is_err.false
