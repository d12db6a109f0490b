-- The calendar: leap years, the days of a month, which dates there are, the day of the week, and the half hours of each day where clocks change.
use Rattle.std.specs.Prelude.{Bool, cond, not, ◌&&◌, ◌||◌, List, [], ◌∷◌, ℕ, ◌+◌, ◌%◌, eqb, leb, ltb, get_or}
use Rattle.energy.specs.Lists.{between, sum_ℕ}
use Rattle.calendar.specs.declared.Date.{Date}

-- ---- years and months

-- every 4th year is a leap year, every 100th is not, and every 400th is
abbrev pub is_leap : ℕ → Bool
is_leap year = eqb (year % 4) 0 && (not (eqb (year % 100) 0) || eqb (year % 400) 0)

-- the days of the twelve months of a year, a leap year or not, January first
abbrev pub month_lengths : Bool → List ℕ
month_lengths leap = 31 ∷ cond leap 29 28 ∷ 31 ∷ 30 ∷ 31 ∷ 30 ∷ 31 ∷ 31 ∷ 30 ∷ 31 ∷ 30 ∷ 31 ∷ []

-- the days of a year's month, from month 1; 0 where there is no such month
unfoldable pub days_of : ℕ → ℕ → ℕ
days_of year month = get_or (0 ∷ month_lengths (is_leap year)) month 0

-- the days of a year
abbrev pub year_days : ℕ → ℕ
year_days year = cond (is_leap year) 366 365

-- ---- dates

-- n is from a to b
abbrev pub from_to : ℕ → ℕ → ℕ → Bool
from_to a b n = leb a n && leb n b

-- a date of the calendar: its year is 2007 to 2099, its month one of twelve, and the month has its day
unfoldable pub is_date : Date → Bool
is_date d = from_to 2007 2099 d.year && from_to 1 12 d.month && from_to 1 (days_of d.year d.month) d.day

-- zeros stand for no date
abbrev pub no_date : Date
no_date = record { year = 0; month = 0; day = 0 }

-- a date is that
abbrev pub is_no_date : Date → Bool
is_no_date d = eqb d.year 0 && eqb d.month 0 && eqb d.day 0

-- ---- the week

-- days from the last day of 2006 on. 1 January 2007 was a Monday and is day 1, so Sundays are the multiples of 7
unfoldable pub day_number : ℕ → ℕ → ℕ → ℕ
day_number year month day = sum_ℕ year_days (between 2007 year) + sum_ℕ (days_of year) (between 1 month) + day

-- the day of the week: 0 Sunday, 1 Monday, up to 6 Saturday
abbrev pub weekday : ℕ → ℕ → ℕ → ℕ
weekday year month day = day_number year month day % 7

-- a day is a Sunday
abbrev pub is_sunday : ℕ → ℕ → ℕ → Bool
is_sunday year month day = eqb (weekday year month day) 0

-- the last Sunday of its month: a week later the month is over
abbrev pub is_last_sunday : ℕ → ℕ → ℕ → Bool
is_last_sunday year month day = is_sunday year month day && ltb (days_of year month) (day + 7)

-- ---- the clock changes

-- the half hours of a month's last Sunday: in March clocks go on by an hour, in October they go back by one
abbrev pub last_sunday_periods : ℕ → ℕ
last_sunday_periods month = cond (eqb month 3) 46 (cond (eqb month 10) 50 48)

-- the half hours of a day
unfoldable pub periods_on : ℕ → ℕ → ℕ → ℕ
periods_on year month day = cond (is_last_sunday year month day) (last_sunday_periods month) 48

-- the minutes that an October has more than its days give
unfoldable pub gained_in : ℕ → ℕ
gained_in month = cond (eqb month 10) 60 0

-- the minutes that a March has fewer
unfoldable pub lost_in : ℕ → ℕ
lost_in month = cond (eqb month 3) 60 0
