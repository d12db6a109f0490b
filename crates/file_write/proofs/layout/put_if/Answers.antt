-- `file_write::layout::put_if` meets its contract: the command, or none.
use Rattle.file_write.proofs.WrittenLaid.{laid_none}
use Rattle.file_write.proofs.layout.put_if.Goals as goal

pub returns-else-holds : goal.returns-else-holds
returns-else-holds c = rw c.if-holds.false (laid_none _ _)
