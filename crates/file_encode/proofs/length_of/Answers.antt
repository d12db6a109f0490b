-- `file_encode::length_of` meets its contract: the row of the command's byte has its length.
use mathlib.Core.Path.{◌∙◌}
use Rattle.file_encode.proofs.Encoding.{row_long}
use Rattle.file_encode.proofs.length_of.Goals as goal

pub returns : goal.returns
returns c = c.from.ensures ∙ row_long c.args.command _ c.row_for-row.ensures
