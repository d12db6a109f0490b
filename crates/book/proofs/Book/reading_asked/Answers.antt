-- `Book::reading_asked` meets its contract: the book is asked first, then what its minute holds.
use mathlib.Core.Path.{refl, ap, ◌∙◌}
use Rattle.commands.specs.Command.{revised_as}
use Rattle.commands.specs.Refusals.{outcome}
use Rattle.commands.proofs.Outcomes.{handed_on, outcome_taken}
use Rattle.book_memory.specs.Lent.{held}
use Rattle.book_memory.specs.Meter.{room_in}
use Rattle.book.proofs.MeteredEntry.{first_revised, revised_number}
use Rattle.book.proofs.Asked.{by_book, past_book, by_own}
use Rattle.book.proofs.Book.reading_asked.Goals as goal

pub returns-in_err-first_refusal : goal.returns-in_err-first_refusal
returns-in_err-first_refusal c =
    let s = c.args in
    let memory = held s.memory in
    handed_on _ c.from_residual.ensures.1
    (by_book s.self.now (room_in memory) (revised_as s.number s.r) (outcome_taken _ c.requires.1) c.requires.0
    (rw (c.room.ensures, first_revised s.self.now (room_in memory) s.sound s.number s.r) at (c.in_err-first_refusal.ensures {u = tt})) memory refl)

pub returns : goal.returns
returns c =
    let s = c.args in
    let memory = held s.memory in
    let p =
    past_book s.self.now (room_in memory) (revised_as s.number s.r) (outcome_taken _ c.requires.1) c.requires.0
    (rw (c.room.ensures, first_revised s.self.now (room_in memory) s.sound s.number s.r) at (c.in_ok-first_refusal.ensures {u = tt})) in
    by_own _ _ _ p memory refl (c.reading_refusal.ensures ∙ ap outcome (revised_number s.self.now memory s.number s.r c.span.result p c.span.ensures))
