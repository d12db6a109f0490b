-- `file_readings::stands_whole` meets its contract.
use borrow.Author.Tests.{lt-ltb, le-ltb}
use Rattle.file_readings.specs.Run.{stands_whole}
use Rattle.file_readings.proofs.stands_whole.Goals as goal

pub returns-then-s-at : goal.returns-then-s-at
unfolding stands_whole
returns-then-s-at c = rw (le-ltb _ _ c.if-s-at.true)

pub returns : goal.returns
unfolding stands_whole
returns c = rw (lt-ltb _ _ c.if-s-at.false)
