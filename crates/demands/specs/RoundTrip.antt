-- Demand 2, second half: a book written as a unit file and read again is the same book with the same readings and revisions.
use Rattle.std.specs.Prelude.{◌≡◌, List, ℕ, ◌≤◌, length, take, Ok}
use Rattle.book_memory.specs.Meter.{Memory, room_in, revision_at}
use Rattle.rules.specs.declared.statement.Line.{Line}
use Rattle.book.specs.Book.{ledger_in, empty_book}
use Rattle.book.specs.Sound.{Shaped}
use Rattle.book.specs.declared.Book.{Book}
use Rattle.settle.specs.Settle.{settle_book}
use Rattle.file_load.specs.Load.{LoadedFile, load}
use Rattle.file_write.specs.Write.{write_book, WrittenBytes}
use Rattle.rules.specs.Answer.{Taken}

-- the bytes of a file of such a size in the lent bytes
abbrev pub bytes_in : ℕ → WrittenBytes → List ℕ
bytes_in size w = take size w.memory

-- revision memory holds bytes, which it does anyway in the language
abbrev pub InBytes : Memory → Type 0
InBytes memory = (m : ℕ) → revision_at memory m ≤ 255

-- what loading some bytes left is the book b, with the readings that lent memory had for it
pub record SameAgain (b : Book) (memory : Memory) (bytes : List ℕ) (l : LoadedFile) : Type 0 where
  -- all bytes are taken, to the last one
  pub answer : l.loaded.answer ≡ Taken
  pub ended : l.loaded.at ≡ length bytes
  pub same_book : l.loaded.book ≡ b
  -- each minute has the reading with its revision, or none, that it had; minutes past the span have none
  pub same_readings : (m : ℕ) → (ledger_in b l.meter).reading m ≡ (ledger_in b memory).reading m
  -- so it is settled as it was: under the same number or, if closed and complete, with the same statement and lines
  pub same_settlement : (records : List Line) → settle_book l.loaded.book l.meter records ≡ settle_book b memory records

-- every book that is written is loaded again as itself, from the empty one, into fresh memory of the same room and any contents
unfoldable pub RoundTrip·theorem : Type 0
RoundTrip·theorem =
    (b : Book) (memory fresh : Memory) (bytes : List ℕ) (size : ℕ)
    → Shaped b
    → InBytes memory
    → room_in fresh ≡ room_in memory
    → (write_book b memory bytes).answer ≡ Ok size
    → SameAgain b memory (bytes_in size (write_book b memory bytes)) (load (bytes_in size (write_book b memory bytes)) empty_book fresh)
