-- `calendar::week::before_month` meets its contract. The days so far are those of the months passed, at most 31 each. Assumes nothing.
use mathlib.Core.Path.{refl, ap, ◌∙◌}
use native.Mathlib.Omega.{arith}
use Rattle.energy.specs.Lists.{between, run, sum_ℕ}
use Rattle.calendar.specs.Calendar.{days_of}
use Rattle.calendar.proofs.Days.{sum-snoc, between_same}
use Rattle.calendar.proofs.Months.{days_most}
use Rattle.calendar.proofs.week.before_month.Goals as goal

pub loop-m-init : goal.loop-m-init
unfolding sum_ℕ between run
loop-m-init c = (omega arith, omega arith, refl, omega arith)

pub loop-m-preserved : goal.loop-m-preserved
loop-m-preserved c =
    let l = c.loop-m in
    let year = c.args.year in
    let e = c.days_of.ensures in (
      omega arith,
      omega arith,
      rw (e, l.invariant.2, sum-snoc (days_of year) 1 l.m l.invariant.0) refl,
      omega (arith, e, days_most year l.m),
    )

pub returns : goal.returns
returns c =
    let l = c.loop-m in
    let a = c.args in
    (l.invariant.2 ∙ ap (sum_ℕ (days_of a.year)) (between_same 1 l.m a.month (omega arith)), omega arith)
