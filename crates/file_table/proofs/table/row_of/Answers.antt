-- `file_table::table::row_of` meets its contract: the code's table is the rules', at all of its rows at once, by computation.
use borrow.Author.Rules.{rules}
use Rattle.rules.specs.File.{table, total}
use Rattle.file_table.proofs.Rows.{row_found}
use Rattle.file_table.proofs.table.row_of.Goals as goal

pub returns : goal.returns
unfolding table total
returns c = search (row_found, rules)
