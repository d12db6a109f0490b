-- `file_read::decode::operands_in` meets its contract: the operands passed so far are read, and the others are left.
use native.Mathlib.Omega.{arith}
use borrow.Author.Rules.{rules}
use Rattle.file_table.proofs.Operands.{passed_none, passed_next, passed_more}
use Rattle.file_read.proofs.decode.operands_in.Goals as goal

pub loop-k-init : goal.loop-k-init
loop-k-init c = passed_none _ _

pub split_at-requires : goal.split_at-requires
split_at-requires c = rw c.from.ensures (passed_next _ _ _ _ _ (search rules) c.loop-k.invariant c.requires.room)

pub loop-k-preserved : goal.loop-k-preserved
loop-k-preserved c =
    rw (c.number_in.ensures, c.split_at.ensures.front, c.split_at.ensures.back, c.from.ensures)
    (passed_more _ _ _ _ _ (search rules) c.loop-k.invariant (omega (arith, c.requires.narrow.few)))
