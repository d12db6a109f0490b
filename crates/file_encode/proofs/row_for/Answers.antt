-- `file_encode::row_for` meets its contract: the table has a row for each command's byte.
use Rattle.file_encode.proofs.Encoding.{has_row}
use Rattle.file_encode.proofs.row_for.Goals as goal

pub unwrap-requires : goal.unwrap-requires
unwrap-requires c = has_row c.args.command _ _ (rw c.byte_of.ensures at c.row_of.ensures)
