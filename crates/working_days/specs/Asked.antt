-- Proved of the rules: the day query over lists: of the book that commands leave, every day has the kind that the rules give it for the commands taken.
use Rattle.std.specs.Prelude.{◌≡◌, List, ℕ}
use Rattle.rules.specs.Ledger.{ledger_of}
use Rattle.rules.specs.Refusal.{taken}
use Rattle.book_memory.specs.Meter.{Memory}
use Rattle.book.specs.Book.{empty_book, put_all}
use Rattle.commands.specs.declared.entries.Command.{Command}
use Rattle.working_days.specs.Days.{day_in, day_book}
use Rattle.std.specs.Prelude.{Ok}

-- whatever the commands, the room in lent memory, the memory that is lent now, the day and the holidays
abbrev pub Asked·theorem : Type 0
Asked·theorem =
    (size : ℕ) (cs : List Command) (meter : Memory) (n : ℕ) (holidays : List ℕ)
    → day_book (put_all empty_book (taken size cs)) meter n holidays ≡ Ok (day_in (ledger_of (taken size cs)) n holidays)
