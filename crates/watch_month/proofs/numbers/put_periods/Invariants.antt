-- `watch_month::numbers::put_periods` meets its contract. The invariant: the numbers of the first p periods are laid. Assumes nothing.
use Rattle.watch_month.specs.MonthBy.{flag_by}
use Rattle.watch_month.proofs.Laying.{Filled}
use Rattle.watch_month.proofs.numbers.put_periods.Given as goal

abbrev pub invariant-loop-p : goal.invariant-loop-p
invariant-loop-p l = Filled (flag_by l.live) l.initial.month 325 l.p l.month
