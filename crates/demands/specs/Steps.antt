-- "The lists of demand 3": a list of steps, what each comes to at the reader's position, what the calls do along it by the equations that they
-- promise, and what they must do by the rules alone.
use Rattle.std.specs.Prelude.{false, List, [], ◌∷◌, ◌++◌, ℕ, length, replicate}
use Rattle.book_memory.specs.Meter.{Memory, room_in, put_meter}
use Rattle.rules.specs.Ledger.{ledger_of}
use Rattle.rules.specs.Refusal.{refusal, taken, answer_of}
use Rattle.rules.specs.Statement.{settle_refusal}
use Rattle.rules.specs.File.{read_at}
use Rattle.commands.specs.declared.entries.Command.{Command}
use Rattle.rules.specs.declared.statement.Line.{Line}
use Rattle.book.specs.Book.{empty_book, put_all}
use Rattle.book.specs.Enter.{enter_book}
use Rattle.book.specs.declared.Book.{Book}
use Rattle.settle.specs.Settle.{settle_book, settled_by, Settled}
use Rattle.rules.specs.Answer.{Answer, Read, Got, End}
use Rattle.std.specs.Prelude.{Err}

-- a step: a command is entered, the file's next command is read and entered, or there is a settlement with lent line records of any number and contents
pub data Step : Type 0 where
  enter : Command → Step
  read : Step
  settle : List Line → Step

-- what a step is answered: an entry's answer; the reader's end, 1 or 2, and then nothing is entered; a settlement's answer with the records after it
pub data Outcome : Type 0 where
  entered : Answer → Outcome
  stopped : Read → Outcome
  settled : Settled → Outcome

-- ---- what a step comes to

-- a command is entered, with the reader at a position after it; the reader stops, and nothing is entered; or there is a settlement
pub data Call : Type 0 where
  command : Command → ℕ → Call
  stop : Read → Call
  settlement : List Line → Call

-- a command read is entered, and the reader goes on behind it; at end, 1 and 2 it stops
abbrev pub read_call : Read → Call
read_call (Got c next) = command c next
read_call (Err n) = stop (Err n)
read_call End = stop End

-- what a step comes to, with the reader at a position
abbrev pub call_at : List ℕ → ℕ → Step → Call
call_at file at (enter c) = command c at
call_at file at read = read_call (read_at file at)
call_at file at (settle records) = settlement records

-- ---- what the calls do

-- what they carry along, each as the last one left it: the reader's position, the book and lent memory
pub record State : Type 0 where
  pub at : ℕ
  pub book : Book
  pub memory : Memory

-- the empty book, with the reader at the file's first byte and lent memory of any lengths and contents
abbrev pub start : Memory → State
start memory = record { at = 0; book = empty_book; memory = memory }

-- the state after a call
abbrev pub after : State → Call → State
after s (command c next) = record { at = next; book = (enter_book s.book s.memory c).entry.book; memory = (enter_book s.book s.memory c).meter }
after s (stop r) = s
after s (settlement records) = s

-- what it is answered
abbrev pub says : State → Call → Outcome
says s (command c next) = entered (enter_book s.book s.memory c).entry.answer
says s (stop r) = stopped r
says s (settlement records) = settled (settle_book s.book s.memory records)

-- the state after a list of steps
unfoldable pub after_all : List ℕ → State → List Step → State
after_all file s [] = s
after_all file s (x ∷ xs) = after_all file (after s (call_at file s.at x)) xs

-- the outcomes of a list of steps
unfoldable pub outcomes : List ℕ → State → List Step → List Outcome
outcomes file s [] = []
outcomes file s (x ∷ xs) = says s (call_at file s.at x) ∷ outcomes file (after s (call_at file s.at x)) xs

-- ---- what the rules say, which know no book

-- how far a list has come, by the file's bytes alone: the reader's position, and the commands entered, taken or not
pub record Place : Type 0 where
  pub at : ℕ
  pub commands : List Command

-- reading starts at the first byte
abbrev pub outset : Place
outset = record { at = 0; commands = [] }

-- the place after a call: where the reader stopped it does not move
abbrev pub onwards : Place → Call → Place
onwards p (command c next) = record { at = next; commands = p.commands ++ c ∷ [] }
onwards p (stop r) = p
onwards p (settlement records) = p

-- the place after a list of steps
unfoldable pub place_from : List ℕ → Place → List Step → Place
place_from file p [] = p
place_from file p (x ∷ xs) = place_from file (onwards p (call_at file p.at x)) xs

-- the place after so many reads of a file from its first byte
abbrev pub reads_to : List ℕ → ℕ → Place
reads_to file n = place_from file outset (replicate n read)

-- what a call must be answered, for the room of lent memory and the commands t taken before it
abbrev pub ruled : ℕ → List Command → Call → Outcome
ruled size t (command c next) = entered (answer_of (refusal false size (ledger_of t) c))
ruled size t (stop r) = stopped r
ruled size t (settlement records) = settled (settled_by (settle_refusal false size (length records) (ledger_of t)) (ledger_of t) records)

-- the outcomes that a list of steps must have from a place on
unfoldable pub ruled_from : List ℕ → ℕ → Place → List Step → List Outcome
ruled_from file size p [] = []
ruled_from file size p (x ∷ xs) =
    ruled size (taken size p.commands) (call_at file p.at x) ∷ ruled_from file size (onwards p (call_at file p.at x)) xs

-- ---- what a list leaves

-- lent memory with the entries of a list of commands
unfoldable pub put_into : Memory → List Command → Memory
put_into memory [] = memory
put_into memory (c ∷ t) = put_into (put_meter memory c) t

-- the state that a list must leave at a place: the commands taken, put into the empty book and into what was lent
abbrev pub left_at : Memory → Place → State
left_at memory p =
    record {
      at = p.at;
      book = put_all empty_book (taken (room_in memory) p.commands);
      memory = put_into memory (taken (room_in memory) p.commands);
    }
