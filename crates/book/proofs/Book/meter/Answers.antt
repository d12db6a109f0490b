-- `Book::meter` meets its contract: the answer decides, and a reading that is taken has a cell and a byte for its minute.
use mathlib.Core.Path.{refl}
use Rattle.commands.specs.Command.{revised_as}
use Rattle.book_memory.specs.Lent.{held_mut}
use Rattle.book.proofs.Asked.{handed_to}
use Rattle.book.proofs.MeteredEntry.{takes, place}
use Rattle.book.proofs.Book.meter.Goals as goal

pub returns-in_err-reading_asked : goal.returns-in_err-reading_asked
returns-in_err-reading_asked c =
    let s = c.args in
    (handed_to s.self.now (held_mut s.memory.now) (revised_as s.number s.r) (rw c.read.ensures at (c.in_err-reading_asked.ensures {u = tt})) refl c.from_residual.ensures.1, (refl, refl))

pub put_reading-requires : goal.put_reading-requires
put_reading-requires c =
    let s = c.args in
    place s.self.now (held_mut s.memory.now) s.number s.r (rw c.read.ensures at (c.in_ok-reading_asked.ensures {u = tt})) refl c.requires.1

pub returns : goal.returns
returns c =
    let s = c.args in
    (rw c.put_reading.ensures.0 (takes s.self.now (held_mut s.memory.now) s.number s.r (rw c.read.ensures at (c.in_ok-reading_asked.ensures {u = tt})) refl), c.put_reading.ensures.1)
