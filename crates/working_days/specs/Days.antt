-- Working days: what is answered of a day of a month, over a ledger, and of a book.
use Rattle.std.specs.Prelude.{◌≡◌, Bool, not, ◌||◌, cond, List, [], ◌∷◌, ℕ, eqb, Option, Some, None, Result, Ok, Err}
use Rattle.energy.specs.Lists.{any}
use Rattle.calendar.specs.Calendar.{is_sunday}
use Rattle.calendar.specs.declared.Date.{Date}
use Rattle.commands.specs.Input.{from_to}
use Rattle.rules.specs.Ledger.{Ledger, contract_of}
use Rattle.book_memory.specs.Meter.{Memory}
use Rattle.book.specs.Book.{ledger_in}
use Rattle.book.specs.Sound.{sound}
use Rattle.book.specs.declared.Book.{Book}
use Rattle.working_days.specs.declared.Day.{Day}
use Rattle.working_days.specs.declared.Day.TheVariants.{Working, NonWorking}
use Rattle.commands.specs.declared.refusal.Refusal.{Refusal}
use Rattle.commands.specs.declared.refusal.Refusal.TheVariants.{NotReached}

-- a day of a date's month is off: a Sunday, or among the holidays
abbrev pub is_off : Date → ℕ → List ℕ → Bool
is_off d n holidays = is_sunday d.year d.month n || any (eqb n) holidays

-- day n of a month of so many days, by its date; without a date, and for any other day, there is no such day
abbrev pub day_kind : List Date → ℕ → ℕ → List ℕ → Option Day
day_kind [] days n holidays = None
day_kind (d ∷ ds) days n holidays = cond (from_to 1 days n) (Some (cond (is_off d n holidays) NonWorking Working)) None

-- day n of a ledger's month
unfoldable pub day_in : Ledger → ℕ → List ℕ → Option Day
day_in g n holidays = day_kind g.dates (contract_of g).days n holidays

-- day n of a book's month: 11 for a book that no list of commands leaves
unfoldable pub day_book : Book → Memory → ℕ → List ℕ → Result (Option Day) Refusal
day_book b meter n holidays = cond (not (sound b)) (Err NotReached) (Ok (day_in (ledger_in b meter) n holidays))

-- what the call promises: the same whatever memory the book's readings are in
abbrev pub DayOf : Book → ℕ → List ℕ → Result (Option Day) Refusal → Type 0
DayOf b n holidays r = (meter : Memory) → r ≡ day_book b meter n holidays
