-- `file_table::number::put_number` meets its contract: the bytes from an index on are the number's lowest, and what is left is the number above them.
use native.Mathlib.Omega.{arith}
use Rattle.file_table.proofs.Words.{lowest_none, lowest_more}
use Rattle.file_table.proofs.number.put_number.Goals as goal

pub loop-i-init : goal.loop-i-init
loop-i-init c = lowest_none _ _

pub loop-i-preserved : goal.loop-i-preserved
loop-i-preserved c = lowest_more _ _ _ _ (omega arith) (omega arith) c.loop-i.invariant
