-- `file_table::number::put_number` meets its contract: the bytes from an index on are the number's lowest, and what is left is the number above them.
use Rattle.file_table.proofs.Words.{Lowest}
use Rattle.file_table.proofs.number.put_number.Given as goal

abbrev pub invariant-loop-i : goal.invariant-loop-i
invariant-loop-i l = Lowest l.number l.out l.rest l.i
