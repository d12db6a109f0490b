-- `calendar::week::before_month` meets its contract. The days so far are those of the months passed, at most 31 each. Assumes nothing.
use mathlib.Core.Path.{◌≡◌}
use Prim.Native.Nat.{◌-◌, ◌*◌, ◌≤◌, max}
use Rattle.energy.specs.Lists.{between, sum_ℕ}
use Rattle.calendar.specs.Calendar.{days_of}
use Rattle.calendar.proofs.week.before_month.Given as goal

abbrev pub invariant-loop-m : goal.invariant-loop-m
invariant-loop-m l =
    (1 ≤ l.m) × (l.m ≤ max 1 l.month) × (l.days ≡ sum_ℕ (days_of l.year) (between 1 l.m)) × (l.days ≤ 31 * (l.m - 1))
