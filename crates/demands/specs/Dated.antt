-- Proved: the round trip says something of a month with a date: an October's book is written, and what is read again has its date and its span.
use Rattle.std.specs.Prelude.{◌≡◌, List, ℕ, ◌≤◌, length, Ok}
use Rattle.book_memory.specs.Meter.{Memory, room_in}
use Rattle.rules.specs.Dates.{october, on}
use Rattle.rules.specs.File.{file_of}
use Rattle.book.specs.Book.{empty_book, book_span, ledger_in, put_all}
use Rattle.book.specs.declared.Book.{Book}
use Rattle.file_load.specs.Load.{load}
use Rattle.file_write.specs.Write.{write_book}
use Rattle.demands.specs.RoundTrip.{bytes_in, InBytes}

-- the book of a contract of 31 days and the date of October 2024
abbrev pub october_book : Book
october_book = put_all empty_book october

-- what is read again of it
abbrev pub read_again : Memory → Memory → List ℕ → ℕ → Book
read_again memory fresh bytes size = (load (bytes_in size (write_book october_book memory bytes)) empty_book fresh).loaded.book

-- it is written, and has date and span again
pub record OctoberAgain (memory fresh : Memory) (bytes : List ℕ) : Type 0 where
  pub size : ℕ
  pub written : (write_book october_book memory bytes).answer ≡ Ok size
  pub date : (read_again memory fresh bytes size).date ≡ on 2024 10 1
  pub span : book_span (read_again memory fresh bytes size) ≡ 44700

-- with any memory of its span, and bytes for its file
unfoldable pub DatedAgain·theorem : Type 0
DatedAgain·theorem =
    (memory fresh : Memory) (bytes : List ℕ)
    → InBytes memory
    → room_in memory ≡ 44700
    → room_in fresh ≡ 44700
    → length (file_of (ledger_in october_book memory)) ≤ length bytes
    → OctoberAgain memory fresh bytes
