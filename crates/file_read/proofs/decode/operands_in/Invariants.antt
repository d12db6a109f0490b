-- `file_read::decode::operands_in` meets its contract: the operands passed so far are read, and the others are left.
use Rattle.file_table.proofs.Operands.{Passed}
use Rattle.file_read.proofs.decode.operands_in.Given as goal

abbrev pub invariant-loop-k : goal.invariant-loop-k
invariant-loop-k l = Passed l.s l.widths l.v l.rest l.k
