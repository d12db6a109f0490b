-- Inner, and for hosts: what a call answers of a day, as one number: the refusal's number or 0, and 256 times the kind of the day.
use Rattle.std.specs.Prelude.{◌≡◌, List, ℕ, Option, Some, None, Result, Ok, Err}
use Rattle.book_memory.specs.Meter.{Memory}
use Rattle.book.specs.declared.Book.{Book}
use Rattle.working_days.specs.Days.{day_book}
use Rattle.working_days.specs.declared.Day.{Day}
use Rattle.working_days.specs.declared.Day.TheVariants.{Working, NonWorking}
use Rattle.commands.specs.Refusals.{number_of}
use Rattle.commands.specs.declared.refusal.Refusal.{Refusal}
use Rattle.host_settle.specs.Answers.{packed}

-- 0 no such day, 1 working, 2 non-working
abbrev pub day_answer : Result (Option Day) Refusal → ℕ
day_answer (Ok None) = packed 0 0
day_answer (Ok (Some Working)) = packed 0 1
day_answer (Ok (Some NonWorking)) = packed 0 2
day_answer (Err r) = packed (number_of r) 0

-- the answer for a day of a book's month, whatever memory its readings are in
abbrev pub AnswersDay : Book → ℕ → List ℕ → ℕ → Type 0
AnswersDay b n holidays r = (meter : Memory) → r ≡ day_answer (day_book b meter n holidays)
