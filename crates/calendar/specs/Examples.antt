-- Days that a calendar on the wall shows too, by computation.
use Rattle.std.specs.Prelude.{◌≡◌, true, false}
use Rattle.calendar.specs.Calendar.{is_leap, days_of, is_date, no_date, is_no_date, weekday, is_sunday, is_last_sunday, periods_on, gained_in, lost_in}
use Rattle.calendar.specs.Year.{date_of}

pub record CalendarExamples : Type 0 where
  -- leap years
  pub leap_2000 : is_leap 2000 ≡ true
  pub leap_2024 : is_leap 2024 ≡ true
  pub plain_1900 : is_leap 1900 ≡ false
  pub plain_2023 : is_leap 2023 ≡ false
  pub plain_2100 : is_leap 2100 ≡ false
  -- months
  pub month_0 : days_of 2024 0 ≡ 0
  pub month_13 : days_of 2024 13 ≡ 0
  -- dates, and what is none
  pub leap_day : is_date (date_of 2024 2 29) ≡ true
  pub no_leap_day : is_date (date_of 2023 2 29) ≡ false
  pub first_date : is_date (date_of 2007 1 1) ≡ true
  pub last_date : is_date (date_of 2099 12 31) ≡ true
  pub year_2006 : is_date (date_of 2006 12 31) ≡ false
  pub year_2100 : is_date (date_of 2100 1 1) ≡ false
  pub day_0 : is_date (date_of 2024 4 0) ≡ false
  pub april_30 : is_date (date_of 2024 4 30) ≡ true
  pub april_31 : is_date (date_of 2024 4 31) ≡ false
  pub date_month_0 : is_date (date_of 2024 0 1) ≡ false
  pub date_month_13 : is_date (date_of 2024 13 1) ≡ false
  pub zeros : is_no_date no_date ≡ true
  pub zeros_no_date : is_date no_date ≡ false
  -- days of the week: Monday 1 January 2007, Thursday 29 February 2024, Thursday 31 December 2099
  pub first-day : weekday 2007 1 1 ≡ 1
  pub leap_day_2024 : weekday 2024 2 29 ≡ 4
  pub last-day : weekday 2099 12 31 ≡ 4
  -- clock changes of two years, and a Sunday before one
  pub sunday_before : is_sunday 2024 3 24 ≡ true
  pub not_the_last : is_last_sunday 2024 3 24 ≡ false
  pub plain_sunday : periods_on 2024 3 24 ≡ 48
  pub the_last : is_last_sunday 2024 3 31 ≡ true
  pub march_2024 : periods_on 2024 3 31 ≡ 46
  pub october_2024 : periods_on 2024 10 27 ≡ 50
  pub march_2025 : periods_on 2025 3 30 ≡ 46
  pub october_2025 : periods_on 2025 10 26 ≡ 50
  -- the hour
  pub gained_october : gained_in 10 ≡ 60
  pub gained_march : gained_in 3 ≡ 0
  pub lost_march : lost_in 3 ≡ 60
  pub lost_october : lost_in 10 ≡ 0
