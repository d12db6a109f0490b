-- `Book::enter_date` meets its contract: the answer decides, and the hour that a date gains has room in both memories.
use mathlib.Core.Path.{refl}
use Rattle.commands.specs.declared.entries.Command.TheVariants.{Date as command}
use Rattle.book_memory.specs.Lent.{held_mut}
use Rattle.book.proofs.Asked.{handed_to, taken_to}
use Rattle.book.proofs.DatedEntry.{date_room}
use Rattle.book.proofs.Book.enter_date.Goals as goal

pub returns-in_err-date_asked : goal.returns-in_err-date_asked
returns-in_err-date_asked c =
    let s = c.args in
    (handed_to s.self.now (held_mut s.memory.now) (command s.d) (rw c.read.ensures at (c.in_err-date_asked.ensures {u = tt})) refl c.from_residual.ensures.1, (refl, refl))

pub mark_gained-requires : goal.mark_gained-requires
mark_gained-requires c =
    let s = c.args in
    date_room s.self.now (held_mut s.memory.now) s.d (rw c.read.ensures at (c.in_ok-date_asked.ensures {u = tt})) refl

pub returns : goal.returns
returns c =
    let s = c.args in
    (rw c.mark_gained.ensures.0 (taken_to s.self.now (held_mut s.memory.now) (command s.d) (rw c.read.ensures at (c.in_ok-date_asked.ensures {u = tt})) refl), c.mark_gained.ensures.1)
