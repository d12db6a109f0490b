-- `book_memory::taking::take_metered` meets its contract: a reading that is taken has a cell and a byte, and goes into them.
use mathlib.Core.Path.{sym, ◌∙◌}
use lib.Dec.{eqb}
use Rattle.commands.specs.Command.{revised_as}
use Rattle.commands.specs.Input.{input_refusal}
use Rattle.book_memory.specs.Lent.{held_mut}
use Rattle.book_memory.proofs.Lengths.{room_holds}
use Rattle.book_memory.proofs.TakenReading.{takes_revised, tests, revised_fits}
use Rattle.book_memory.proofs.taking.take_metered.Goals as goal

pub put_reading-requires : goal.put_reading-requires
put_reading-requires c =
    let at = c.args in
    let m = held_mut at.memory.now in
    let taken = sym (takes_revised at.span m at.number at.r) ∙ sym (rw c.read.ensures at c.is_taken-taken.ensures) ∙ c.if-taken.true in
    let t = tests at.span m (eqb (input_refusal (revised_as at.number at.r)) 0) at.number at.r taken in
    let held = room_holds m at.r.minute.0 t.held in
    (held.0, held.1, revised_fits at.number at.r c.requires)
