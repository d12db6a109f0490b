-- Months make their minutes, clocks change twice a year, the week goes on from each day to the next.
use mathlib.Core.Path.{◌≡◌, refl, ◌∙◌}
use mathlib.Core.Bool.{Bool, true, false, cond}
use mathlib.Core.List.{map}
use Prim.Native.Nat.{ℕ, ◌+◌, ◌*◌, ◌≤◌}
use native.Mathlib.Omega.{arith}
use lib.Dec.{T, eqb}
use lib.ListN.{length}
use borrow.Author.Tests.{lt-ltb, le-ltb, ne_eqb}
use Rattle.energy.specs.Lists.{between, count, run, sum_ℕ}
use Rattle.energy.proofs.Tests.{either-eq, either-le}
use Rattle.calendar.specs.Calendar.{is_leap, days_of, year_days, is_date, day_number, is_last_sunday, last_sunday_periods, periods_on, gained_in, lost_in}
use Rattle.calendar.specs.Year.{MonthPeriods·theorem, date_of, dates_in, has_periods, ClockChanges·theorem}
use Rattle.calendar.specs.Year.{next_day, WeekdayMoves·theorem}
use Rattle.calendar.specs.declared.Date.{Date}
use Rattle.calendar.proofs.Days.{count-sum, length-sum, sum-map, sum-concat, sum-snoc, sum_ext, sum_same}
use Rattle.calendar.proofs.LastSunday.{month-sum}
use Rattle.calendar.proofs.Months.{ranges_of, month-days_least}

-- ---- months

-- what the last Sunday's half hours differ by is the hour lost or gained
the_hour : (m : ℕ) → 30 * last_sunday_periods m + lost_in m ≡ 1440 + gained_in m
unfolding lost_in gained_in
the_hour m =
    either-eq m 3 (λ e. rw e refl)
    (λ march. either-eq m 10 (λ e. rw e refl) (λ october. rw (ne_eqb m 3 march, ne_eqb m 10 october) refl))

pub month-periods : MonthPeriods·theorem
unfolding periods_on
month-periods y m h k =
    omega (arith, month-sum (last_sunday_periods m) 48 y m h k, the_hour m, month-days_least y m h k)

-- ---- years

-- a sum over the days of a year, month by month
sum_dates : (f : Date → ℕ) (y : ℕ) → sum_ℕ f (dates_in y) ≡ sum_ℕ (λ m. sum_ℕ (λ d. f (date_of y m d)) (between 1 (days_of y m + 1))) (between 1 13)
unfolding dates_in
sum_dates f y =
    sum-concat f (λ m. map (date_of y m) (between 1 (days_of y m + 1))) (between 1 13)
    ∙ sum_ext _ _ 1 13 (λ m i j. sum-map f (date_of y m) (between 1 (days_of y m + 1)))

-- the twelve months make the year
year_months : (y : ℕ) → sum_ℕ (days_of y) (between 1 13) ≡ year_days y
unfolding sum_ℕ between run days_of
year_months y = elim (is_leap y) as (λ b. 31 + (cond b 29 28 + 306) ≡ cond b 366 365) [ true ↦ refl | false ↦ refl ]

all-days : (y : ℕ) → length (dates_in y) ≡ year_days y
all-days y =
    length-sum (dates_in y) ∙ sum_dates (λ d. 1) y
    ∙ sum_ext _ (days_of y) 1 13 (λ m i j. sum_same (λ d. 1) 1 1 (days_of y m + 1) (λ d k l. refl) ∙ omega arith)
    ∙ year_months y

-- the days of a month with n half hours, where n is not 48
days_with : (n y m : ℕ) → eqb 48 n ≡ false → 1 ≤ m → m ≤ 12
    → sum_ℕ (λ d. cond (has_periods n (date_of y m d)) 1 0) (between 1 (days_of y m + 1)) ≡ cond (eqb (last_sunday_periods m) n) 1 0
unfolding periods_on
days_with n y m other h k =
    sum_ext _ (λ d. cond (is_last_sunday y m d) (cond (eqb (last_sunday_periods m) n) 1 0) 0) 1 (days_of y m + 1) (λ d i j. by_day (is_last_sunday y m d))
    ∙ month-sum (cond (eqb (last_sunday_periods m) n) 1 0) 0 y m h k
    ∙ omega arith
  where
    by_day : (b : Bool) → ◌≡◌ {A = ℕ} (cond (eqb (cond b (last_sunday_periods m) 48) n) 1 0) (cond b (cond (eqb (last_sunday_periods m) n) 1 0) 0)
    by_day true = refl
    by_day false = rw other refl

-- of a year, those of the months whose last Sunday has n
dates_with : (n y : ℕ) → eqb 48 n ≡ false → count (has_periods n) (dates_in y) ≡ sum_ℕ (λ m. cond (eqb (last_sunday_periods m) n) 1 0) (between 1 13)
dates_with n y other =
    count-sum (has_periods n) (dates_in y) ∙ sum_dates (λ d. cond (has_periods n d) 1 0) y
    ∙ sum_ext _ _ 1 13 (λ m i j. days_with n y m other i (omega arith))

pub clock_changes : ClockChanges·theorem
unfolding sum_ℕ between run
clock_changes y = record { days = all-days y; short = dates_with 46 y refl; long = dates_with 50 y refl }

-- ---- weeks

-- the number of a date's day
abbrev number_of : Date → ℕ
number_of d = day_number d.year d.month d.day

-- in the month, to the next month, to the next year
in_month : (y m d : ℕ) → day_number y m (d + 1) ≡ day_number y m d + 1
unfolding day_number
in_month y m d = omega arith

to_month : (y m : ℕ) → 1 ≤ m → day_number y (m + 1) 1 ≡ day_number y m (days_of y m) + 1
unfolding day_number
to_month y m h = omega (arith, sum-snoc (days_of y) 1 m h)

no_days : (f : ℕ → ℕ) → sum_ℕ f (between 1 1) ≡ 0
unfolding sum_ℕ between run
no_days f = refl

to_year : (y : ℕ) → 2007 ≤ y → day_number (y + 1) 1 1 ≡ day_number y 12 (days_of y 12) + 1
unfolding day_number
to_year y h = omega (arith, sum-snoc year_days 2007 y h, sum-snoc (days_of y) 1 12 (omega arith), year_months y, no_days (days_of (y + 1)))

next_number : (d : Date) → T (is_date d) → number_of (next_day d) ≡ number_of d + 1
unfolding next_day
next_number d t =
    let r = ranges_of d t in
    let y = d.year in
    let m = d.month in
    either-le (days_of y m) d.day
    (λ h.
    let last : d.day ≡ days_of y m = omega (arith, r.day_of_month) in
    either-le 12 m
    (λ k.
    let december : m ≡ 12 = omega (arith, r.month_most) in
    rw (le-ltb d.day (days_of y m) h, le-ltb m 12 k, last, december) (to_year y r.year_least))
    (λ k. rw (le-ltb d.day (days_of y m) h, lt-ltb m 12 k, last) (to_month y m r.month_least)))
    (λ h. rw (lt-ltb d.day (days_of y m) h) (in_month y m d.day))

pub weekday_moves : WeekdayMoves·theorem
weekday_moves d t = rw (next_number d t) (omega arith)
