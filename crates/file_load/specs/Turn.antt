-- Inner, and proved equal to the rules: one turn of the loop over a file: the command at a position is read and entered. What the loop's own function promises.
use Rattle.std.specs.Prelude.{List, ℕ, Option, Some, None, Result, Ok, Err}
use Rattle.rules.specs.File.{read_at}
use Rattle.rules.specs.Answer.{Answer, Taken, Read, Got, End}
use Rattle.commands.specs.declared.refusal.Refusal.{Refusal}
use Rattle.book_memory.specs.Meter.{Memory}
use Rattle.book.specs.Enter.{enter_book}
use Rattle.book.specs.declared.Book.{Book}

-- the position of the next command; none at the file's end; or the refusal that ends the loop
abbrev pub Turn : Type 0
Turn = Result (Option ℕ) Refusal

-- the turn, and book and lent memory after it
pub record Turned : Type 0 where
  pub turn : Turn
  pub book : Book
  pub meter : Memory

-- a command taken is followed by the next one; a refused one ends the loop
abbrev pub goes_by : ℕ → Answer → Turn
goes_by next Taken = Ok (Some next)
goes_by next (Err r) = Err r

-- what was read is entered; end, 1 and 2 end the loop
abbrev pub turn_by : Book → Memory → Read → Turned
turn_by b meter (Got c next) =
    let e = enter_book b meter c in
    record { turn = goes_by next e.entry.answer; book = e.entry.book; meter = e.meter }
turn_by b meter (Err r) = record { turn = Err r; book = b; meter = meter }
turn_by b meter End = record { turn = Ok None; book = b; meter = meter }

-- one turn
unfoldable pub turn_at : List ℕ → ℕ → Book → Memory → Turned
turn_at s at b meter = turn_by b meter (read_at s at)
