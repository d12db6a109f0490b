-- `watch_month::numbers::put_column` meets its contract. The invariant: the times of the first j instructions are laid. Assumes nothing.
use Rattle.std.proofs.Common.{◌≡◌, ◌∙◌, arith}
use Rattle.watch_month.proofs.Laying.{column_is, fill_none, fill_next}
use borrow.Author.Tests.{lt-ltb, le-ltb}
use Rattle.watch_month.proofs.numbers.put_column.Goals as goal
use Rattle.watch_month.proofs.numbers.put_column.Goals.{then-j-instructions, else-j-instructions}

pub loop-j-init : goal.loop-j-init
loop-j-init g c f h = fill_none _ _ _

pub loop-j-preserved : goal.loop-j-preserved
loop-j-preserved g c f h =
    fill_next (c.loop-j.invariant f h) (omega arith) (elim c.if-j-instructions.branch [
      | then-j-instructions w ↦ rw (lt-ltb _ _ w.if-j-instructions.true) (w.month-is ∙ h _ _ w.time.ensures)
      | else-j-instructions w ↦ rw (le-ltb _ _ w.if-j-instructions.false) w.month-is
    ])

pub returns : goal.returns
returns g c f h =
    let e : c.loop-j.j ≡ 64 = omega arith in rw (← column_is f c.args.instructions.now c.requires.room.1) (rw e at (c.loop-j.invariant f h).laid.holds)
