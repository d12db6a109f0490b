-- Proved of the rules: days by example.
use Rattle.std.specs.Prelude.{◌≡◌, [], ◌∷◌, ℕ}
use Rattle.rules.specs.Ledger.{ledger_of}
use Rattle.rules.specs.Dates.{march, october, lasting}
use Rattle.working_days.specs.Days.{day_in}
use Rattle.working_days.specs.declared.Day.{Day}
use Rattle.working_days.specs.declared.Day.TheVariants.{Working, NonWorking}
use Rattle.std.specs.Prelude.{Option, Some, None}

-- day n of March 2024, with holidays on the 29th and on a day that it does not have
abbrev pub in_march : ℕ → Option Day
in_march n = day_in (ledger_of march) n (29 ∷ 200 ∷ [])

pub record DayExamples : Type 0 where
  -- no day 0, the first, a Sunday, a holiday on a Friday, the last Sunday, and no day after it
  pub before : in_march 0 ≡ None
  pub friday : in_march 1 ≡ Some Working
  pub saturday : in_march 2 ≡ Some Working
  pub sunday : in_march 3 ≡ Some NonWorking
  pub holiday : in_march 29 ≡ Some NonWorking
  pub last_sunday : in_march 31 ≡ Some NonWorking
  pub after : in_march 32 ≡ None
  -- a holiday that is no day of the month does nothing: neither makes a day of it, nor takes any day off
  pub no_day : in_march 200 ≡ None
  pub zero : day_in (ledger_of march) 1 (0 ∷ []) ≡ Some Working
  -- without holidays that Friday is a working day
  pub no_holidays : day_in (ledger_of march) 29 [] ≡ Some Working
  -- the last holiday of a list counts as the first does
  pub last_listed : day_in (ledger_of october) 1 (30 ∷ 31 ∷ 1 ∷ []) ≡ Some NonWorking
  -- the day on which an October gains its hour is a Sunday
  pub change : day_in (ledger_of october) 27 [] ≡ Some NonWorking
  -- without a date there are no days, and without a contract
  pub undated : day_in (ledger_of (lasting 31 ∷ [])) 1 [] ≡ None
  pub empty : day_in (ledger_of []) 1 [] ≡ None
