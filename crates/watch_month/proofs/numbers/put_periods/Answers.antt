-- `watch_month::numbers::put_periods` meets its contract. The invariant: the numbers of the first p periods are laid. Assumes nothing.
use Rattle.std.proofs.Common.{◌≡◌, arith}
use Rattle.watch_step.specs.Month.{month_periods}
use Rattle.watch_month.specs.MonthBy.{periods_by}
use Rattle.watch_month.proofs.Laying.{fill_none, fill_next}
use Rattle.watch_month.proofs.numbers.put_periods.Goals as goal

pub loop-p-init : goal.loop-p-init
loop-p-init c = fill_none _ _ _

pub loop-p-preserved : goal.loop-p-preserved
loop-p-preserved c = fill_next c.loop-p.invariant (omega arith) c.flag_of.ensures

pub returns : goal.returns
unfolding periods_by
returns c = let e : c.loop-p.p ≡ month_periods = omega arith in rw e at c.loop-p.invariant.laid.holds
