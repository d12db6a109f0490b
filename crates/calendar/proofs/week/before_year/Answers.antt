-- `calendar::week::before_year` meets its contract. The days so far are those of the years passed, at most 366 each. Assumes nothing.
use mathlib.Core.Path.{refl, ap, ◌∙◌}
use native.Mathlib.Omega.{arith}
use Rattle.energy.specs.Lists.{between, run, sum_ℕ}
use Rattle.calendar.specs.Calendar.{year_days}
use Rattle.calendar.proofs.Days.{sum-snoc, between_same}
use Rattle.calendar.proofs.Months.{year_days_most}
use Rattle.calendar.proofs.week.before_year.Goals as goal

pub loop-y-init : goal.loop-y-init
unfolding sum_ℕ between run
loop-y-init c = (omega arith, omega arith, refl, omega arith)

pub loop-y-preserved : goal.loop-y-preserved
loop-y-preserved c =
    let l = c.loop-y in
    let e = c.year_days-days.ensures in (
      omega arith,
      omega arith,
      rw (e, l.invariant.2, sum-snoc year_days 2007 l.y l.invariant.0) refl,
      omega (arith, e, year_days_most l.y),
    )

pub returns : goal.returns
returns c =
    let l = c.loop-y in
    let year = c.args.year in
    (l.invariant.2 ∙ ap (sum_ℕ year_days) (between_same 2007 l.y year (omega arith)), omega arith)
