-- "The statement's lines go into memory the caller lends", and what settling answers: both by one equation over the rules, refusals included.
use Rattle.std.specs.Prelude.{not, List, ◌++◌, ℕ, length, drop, Result, Ok, Err}
use Rattle.std.proofs.Math.Option.{Option, none, some}
use Rattle.book_memory.specs.Meter.{Memory, room_in}
use Rattle.commands.specs.Refusals.{refusal_of}
use Rattle.commands.specs.declared.refusal.Refusal.{Refusal}
use Rattle.rules.specs.Answer.{Answer, Taken}
use Rattle.rules.specs.Ledger.{Ledger}
use Rattle.rules.specs.Statement.{lines, statement_of, settle_refusal}
use Rattle.rules.specs.declared.statement.Line.{Line}
use Rattle.rules.specs.declared.statement.Statement.{Statement}
use Rattle.book.specs.Book.{ledger_in}
use Rattle.book.specs.Sound.{sound}
use Rattle.book.specs.declared.Book.{Book}

-- a statement, or a refusal; and line memory after it
pub record Settled : Type 0 where
  pub answer : Result Statement Refusal
  pub memory : List Line

-- what an answer says, whatever the statement
abbrev pub answer_in : Result Statement Refusal → Answer
answer_in (Ok s) = Taken
answer_in (Err r) = Err r

-- settling refused under a number alters no record; one that is not puts its lines into the first ones
abbrev pub settled_by : Option ℕ → Ledger → List Line → Settled
settled_by none g memory = record { answer = Ok (statement_of g); memory = lines g ++ drop (length (lines g)) memory }
settled_by (some n) g memory = record { answer = Err (refusal_of n); memory = memory }

-- the number under which settling with so much room is refused, if it is
abbrev pub refusal_for : Book → Memory → ℕ → Option ℕ
refusal_for b meter room = settle_refusal (not (sound b)) (room_in meter) room (ledger_in b meter)

-- settling a book: what `settle` promises
unfoldable pub settle_book : Book → Memory → List Line → Settled
settle_book b meter memory = settled_by (refusal_for b meter (length memory)) (ledger_in b meter) memory
