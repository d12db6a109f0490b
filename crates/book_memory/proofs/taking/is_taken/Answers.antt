-- `book_memory::taking::is_taken` meets its contract: room is asked first, and then the rest.
use mathlib.Core.Path.{sym, ◌∙◌}
use Rattle.book_memory.specs.Lent.{held}
use Rattle.book_memory.proofs.TakenReading.{no_room, by_others}
use Rattle.book_memory.proofs.taking.is_taken.Goals as goal

pub returns-then-not-has_room : goal.returns-then-not-has_room
returns-then-not-has_room c =
    let at = c.args in
    no_room at.span (held at.memory) at.number at.r (sym c.has_room.ensures ∙ c.if-not-has_room.true)

pub returns : goal.returns
returns c =
    let at = c.args in
    rw c.not_above.ensures
    (by_others at.span (held at.memory) at.number at.r c.requires (sym c.has_room.ensures ∙ c.if-not-has_room.false))
