-- "The writer": a book as a unit file in lent bytes, by one equation over the rules.
use Rattle.std.specs.Prelude.{not, List, ◌++◌, ℕ, length, drop, Result, Ok, Err}
use Rattle.std.proofs.Math.Option.{Option, none, some}
use Rattle.book_memory.specs.Meter.{Memory, room_in}
use Rattle.commands.specs.Input.{first_met}
use Rattle.commands.specs.Refusals.{refusal_of}
use Rattle.commands.specs.declared.refusal.Refusal.{Refusal}
use Rattle.rules.specs.Ledger.{Ledger}
use Rattle.rules.specs.File.{file_of}
unfoldable pub use Rattle.rules.specs.File.{write_conditions}
use Rattle.book.specs.Book.{ledger_in}
use Rattle.book.specs.Sound.{sound}
use Rattle.book.specs.declared.Book.{Book}

-- the file's length or the refusal, and the lent bytes after it
pub record WrittenBytes : Type 0 where
  pub answer : Result ℕ Refusal
  pub memory : List ℕ

-- the file in the first bytes, and those after it as they were; a refusal alters none
abbrev pub written_by : Option ℕ → Ledger → List ℕ → WrittenBytes
written_by none g memory = record { answer = Ok (length (file_of g)); memory = file_of g ++ drop (length (file_of g)) memory }
written_by (some n) g memory = record { answer = Err (refusal_of n); memory = memory }

-- writing a book
unfoldable pub write_book : Book → Memory → List ℕ → WrittenBytes
write_book b meter memory =
    written_by (first_met (write_conditions (not (sound b)) (room_in meter) (length memory) (ledger_in b meter))) (ledger_in b meter) memory
