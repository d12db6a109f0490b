-- A whole unit file, entered from the empty book and settled: what its answer means, in the terms of demand 3.
use Rattle.std.specs.Prelude.{◌≡◌, false, List, ℕ, length}
use Rattle.std.proofs.Math.Option.{Option, none, some}
use Rattle.book_memory.specs.Meter.{Memory, room_in}
use Rattle.rules.specs.Ledger.{ledger_of}
use Rattle.rules.specs.Refusal.{refusal, taken, answer_of}
use Rattle.rules.specs.File.{read_at, commands_in}
use Rattle.commands.specs.declared.entries.Command.{Command}
use Rattle.rules.specs.declared.statement.Line.{Line}
use Rattle.book.specs.Book.{empty_book}
use Rattle.settle.specs.Settle.{settle_book}
use Rattle.file_load.specs.Load.{LoadedFile, load}
use Rattle.demands.specs.Steps.{State, reads_to, left_at}
use Rattle.demands.specs.Demand3.{SettlementRight}
use Rattle.rules.specs.Answer.{Taken, Read, Got, End}
use Rattle.std.specs.Prelude.{Err}
use Rattle.commands.specs.Refusals.{number_of}

-- the number under which what is read is turned down, for the commands t taken before it: the reader's own, or the book's
abbrev pub read_refusal : ℕ → List Command → Read → Option ℕ
read_refusal size t (Got c next) = refusal false size (ledger_of t) c
read_refusal size t (Err r) = some (number_of r)
read_refusal size t End = none

-- where entering a file ended, with the book and lent memory then
abbrev pub state_at_end : LoadedFile → State
state_at_end l = record { at = l.loaded.at; book = l.loaded.book; memory = l.meter }

-- for a file's bytes, and lent memory and line records of any length and contents
pub record FileRight (file : List ℕ) (memory : Memory) (records : List Line) : Type 0 where
  -- so many commands were read and taken, each read where the last one stopped
  pub reads : ℕ
  pub all_taken : taken (room_in memory) (reads_to file reads).commands ≡ (reads_to file reads).commands
  -- entering ended behind them, with the book and lent memory that they leave
  pub left : state_at_end (load file empty_book memory) ≡ left_at memory (reads_to file reads)
  -- what stands there decides: the file's end, or the first refusal under its number
  pub answer :
      (load file empty_book memory).loaded.answer
      ≡ answer_of (read_refusal (room_in memory) (reads_to file reads).commands (read_at file (reads_to file reads).at))
  -- a file that is taken is taken to its last byte; these were all its commands, and its settlement is right for them
  pub ended : (load file empty_book memory).loaded.answer ≡ Taken → (load file empty_book memory).loaded.at ≡ length file
  pub whole : (load file empty_book memory).loaded.answer ≡ Taken → (reads_to file reads).commands ≡ commands_in file
  pub settlement :
      (load file empty_book memory).loaded.answer ≡ Taken
      → SettlementRight (room_in memory) (commands_in file) records
      (settle_book (load file empty_book memory).loaded.book (load file empty_book memory).meter records)

-- entering a whole file, and settling what it leaves, is right
unfoldable pub File·theorem : Type 0
File·theorem = (file : List ℕ) (memory : Memory) (records : List Line) → FileRight file memory records
