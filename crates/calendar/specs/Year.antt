-- Proved of the rules: the half hours of a month's days make its minutes, with the hour that it gains or loses; clocks change twice a year; the week
-- goes on from each day to the next.
use Rattle.std.specs.Prelude.{◌≡◌, Bool, cond, List, map, ℕ, ◌+◌, ◌*◌, ◌%◌, ◌≤◌, T, eqb, ltb, length}
use Rattle.energy.specs.Lists.{between, concat_map, count, sum_ℕ}
use Rattle.calendar.specs.Calendar.{days_of, year_days, is_date, weekday, periods_on, gained_in, lost_in}
use Rattle.calendar.specs.declared.Date.{Date}

-- ---- months

-- half hours of each day, in minutes: those of whole days, an hour fewer in March and an hour more in October
abbrev pub MonthPeriods·theorem : Type 0
MonthPeriods·theorem =
    (y m : ℕ) → 1 ≤ m → m ≤ 12 → 30 * sum_ℕ (periods_on y m) (between 1 (days_of y m + 1)) + lost_in m ≡ 1440 * days_of y m + gained_in m

-- ---- years

-- the date of a year's month and day
abbrev pub date_of : ℕ → ℕ → ℕ → Date
date_of y m d = record { year = y; month = m; day = d }

-- the days of a year, month by month
unfoldable pub dates_in : ℕ → List Date
dates_in y = concat_map (λ m. map (date_of y m) (between 1 (days_of y m + 1))) (between 1 13)

-- a day has so many half hours
abbrev pub has_periods : ℕ → Date → Bool
has_periods n d = eqb (periods_on d.year d.month d.day) n

-- of a year's days one has 46 half hours and one has 50
pub record ClockChanges (y : ℕ) : Type 0 where
  pub days : length (dates_in y) ≡ year_days y
  pub short : count (has_periods 46) (dates_in y) ≡ 1
  pub long : count (has_periods 50) (dates_in y) ≡ 1

-- so it is in every year
abbrev pub ClockChanges·theorem : Type 0
ClockChanges·theorem = (y : ℕ) → ClockChanges y

-- ---- weeks

-- the day of the week of a date
abbrev pub weekday_of : Date → ℕ
weekday_of d = weekday d.year d.month d.day

-- the day after: the month's next, the first of the next month after a month's last, 1 January after 31 December
unfoldable pub next_day : Date → Date
next_day d =
    cond (ltb d.day (days_of d.year d.month)) (date_of d.year d.month (d.day + 1))
    (cond (ltb d.month 12) (date_of d.year (d.month + 1) 1) (date_of (d.year + 1) 1 1))

-- the day after is the next one of the week
abbrev pub WeekdayMoves·theorem : Type 0
WeekdayMoves·theorem = (d : Date) → T (is_date d) → weekday_of (next_day d) ≡ (weekday_of d + 1) % 7
