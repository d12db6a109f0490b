-- A unit file in pieces: entered one after the other, they do what the whole file does.
use Rattle.std.specs.Prelude.{◌≡◌, Bool, true, false, List, ◌++◌, ℕ, ◌+◌, T, eqb, drop}
use Rattle.book_memory.specs.Meter.{Memory}
use Rattle.book.specs.declared.Book.{Book}
use Rattle.file_load.specs.Load.{LoadedFile, load}
use Rattle.rules.specs.Answer.{Answer, Taken}
use Rattle.std.specs.Prelude.{Err}
use Rattle.commands.specs.Refusals.{number_of}

-- a piece ended inside or behind a command, so more bytes may follow: at its end, or under 2
abbrev pub unfinished : Answer → Bool
unfinished Taken = true
unfinished (Err r) = eqb (number_of r) 2

-- the same with every position that much later
abbrev pub shifted_by : ℕ → LoadedFile → LoadedFile
shifted_by k l = record { loaded = record { answer = l.loaded.answer; at = k + l.loaded.at; book = l.loaded.book }; meter = l.meter }

-- a piece p of a file, and the bytes q after it: where the piece is unfinished, its unread bytes with q behind them, entered into what the
-- piece left, do what the whole does; where it is not, the whole ends as the piece does
pub record Pieces (p q : List ℕ) (b : Book) (memory : Memory) : Type 0 where
  pub goes_on :
      T (unfinished (load p b memory).loaded.answer)
      → load (p ++ q) b memory
      ≡ shifted_by (load p b memory).loaded.at (load (drop (load p b memory).loaded.at p ++ q) (load p b memory).loaded.book (load p b memory).meter)
  pub ends : unfinished (load p b memory).loaded.answer ≡ false → load (p ++ q) b memory ≡ load p b memory

-- pieces one after the other do what the whole file does
unfoldable pub Pieces·theorem : Type 0
Pieces·theorem = (p q : List ℕ) (b : Book) (memory : Memory) → Pieces p q b memory
