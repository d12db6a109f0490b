-- `file_load::file::load_file` meets its contract: the empty book is sound.
use mathlib.Core.List.{[]}
use Rattle.book_memory.specs.Meter.{lent}
use Rattle.book.proofs.Follow.{starts}
use Rattle.file_load.proofs.file.load_file.Goals as goal

pub load-requires : goal.load-requires
load-requires c = rw c.empty.ensures (starts (lent [] [])).stands.sound

pub returns : goal.returns
returns c = let e = c.load.ensures in rw (← c.empty.ensures) (e.0, e.1, e.2)
