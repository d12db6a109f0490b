-- `calendar::week::before_year` meets its contract. The days so far are those of the years passed, at most 366 each. Assumes nothing.
use mathlib.Core.Path.{◌≡◌}
use Prim.Native.Nat.{◌-◌, ◌*◌, ◌≤◌, max}
use Rattle.energy.specs.Lists.{between, sum_ℕ}
use Rattle.calendar.specs.Calendar.{year_days}
use Rattle.calendar.proofs.week.before_year.Given as goal

abbrev pub invariant-loop-y : goal.invariant-loop-y
invariant-loop-y l =
    (2007 ≤ l.y) × (l.y ≤ max 2007 l.year) × (l.days ≡ sum_ℕ year_days (between 2007 l.y)) × (l.days ≤ 366 * (l.y - 2007))
