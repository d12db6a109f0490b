-- Days that a calendar on the wall shows too, by computation.
use mathlib.Core.Path.{refl}
use Rattle.energy.specs.Lists.{between, run, sum_ℕ}
use Rattle.calendar.specs.Calendar.{days_of, is_date, day_number, periods_on, gained_in, lost_in}
use Rattle.calendar.specs.Examples.{CalendarExamples}

pub calendar_examples : CalendarExamples
unfolding between run sum_ℕ days_of is_date day_number periods_on gained_in lost_in
calendar_examples =
    record {
      leap_2000 = refl;
      leap_2024 = refl;
      plain_1900 = refl;
      plain_2023 = refl;
      plain_2100 = refl;
      month_0 = refl;
      month_13 = refl;
      leap_day = refl;
      no_leap_day = refl;
      first_date = refl;
      last_date = refl;
      year_2006 = refl;
      year_2100 = refl;
      day_0 = refl;
      april_30 = refl;
      april_31 = refl;
      date_month_0 = refl;
      date_month_13 = refl;
      zeros = refl;
      zeros_no_date = refl;
      first-day = refl;
      leap_day_2024 = refl;
      last-day = refl;
      sunday_before = refl;
      not_the_last = refl;
      plain_sunday = refl;
      the_last = refl;
      march_2024 = refl;
      october_2024 = refl;
      march_2025 = refl;
      october_2025 = refl;
      gained_october = refl;
      gained_march = refl;
      lost_march = refl;
      lost_october = refl;
    }
