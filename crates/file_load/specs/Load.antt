-- Whole unit files: each command read where the last one stopped and entered, up to the file's end or the first refusal.
use Rattle.std.specs.Prelude.{List, ℕ, zero, suc, length}
use Rattle.book_memory.specs.Meter.{Memory}
use Rattle.rules.specs.File.{read_at}
use Rattle.book.specs.Enter.{enter_book, Entered}
use Rattle.book.specs.declared.Book.{Book}
use Rattle.file_load.specs.declared.file.Loaded.{Loaded}
use Rattle.rules.specs.Answer.{Answer, Taken, Read, Got, End}
use Rattle.std.specs.Prelude.{Err}

-- how entering ended, and lent memory then
pub record LoadedFile : Type 0 where
  pub loaded : Loaded
  pub meter : Memory

-- entering ended at a position with an answer
abbrev pub ended_at : ℕ → Answer → Book → Memory → LoadedFile
ended_at at a b meter = record { loaded = record { answer = a; at = at; book = b }; meter = meter }

-- a command taken is followed by the rest of the file; a refused one ends it, at its own position
abbrev pub carries_on : (Book → Memory → LoadedFile) → ℕ → Answer → Entered → LoadedFile
carries_on go at Taken e = go e.entry.book e.meter
carries_on go at (Err r) e = ended_at at (Err r) e.entry.book e.meter

-- what was read is entered; end, 1 and 2 end it
abbrev pub loads_on : (ℕ → Book → Memory → LoadedFile) → ℕ → Book → Memory → Read → LoadedFile
loads_on go at b meter (Got c next) = carries_on (go next) at (enter_book b meter c).entry.answer (enter_book b meter c)
loads_on go at b meter (Err r) = ended_at at (Err r) b meter
loads_on go at b meter End = ended_at at Taken b meter

-- the commands from a position on, at most so many of them
unfoldable pub load_from : ℕ → List ℕ → ℕ → Book → Memory → LoadedFile
load_from zero s at b meter = ended_at at Taken b meter
load_from (suc n) s at b meter = loads_on (λ next b m. load_from n s next b m) at b meter (read_at s at)

-- all commands of a file's bytes, of which there are no more than bytes
unfoldable pub load : List ℕ → Book → Memory → LoadedFile
load s b meter = load_from (length s) s 0 b meter
