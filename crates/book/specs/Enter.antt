-- "A book takes a command and hands back the book after it": answer, book and lent memory after, by one equation over the rules.
use Rattle.std.specs.Prelude.{◌≡◌, not, ℕ}
use Rattle.std.proofs.Math.Option.{Option, none, some}
use Rattle.rules.specs.Answer.{Answer}
use Rattle.rules.specs.Refusal.{refusal, answer_of}
use Rattle.commands.specs.declared.entries.Command.{Command}
use Rattle.book_memory.specs.Meter.{put_meter, Memory, room_in}
use Rattle.book_memory.specs.declared.lent.LentMut.{LentMut}
use Rattle.book_memory.specs.Lent.{held_mut, Same}
use Rattle.book.specs.Book.{ledger_in, put_book}
use Rattle.book.specs.Sound.{sound}
use Rattle.book.specs.declared.Book.{Book}
use Rattle.book.specs.declared.Entry.{Entry}

-- the answer with the book after it, and lent memory after it
pub record Entered : Type 0 where
  pub entry : Entry
  pub meter : Memory

-- an answer, and the book after it
abbrev pub entry_of : Answer → Book → Entry
entry_of a b = record { answer = a; book = b }

-- a command was taken, and this is the book after it
abbrev pub taken_as : Book → Entry
taken_as b = entry_of (answer_of none) b

-- a command was refused under a number, and this is the book as it was
abbrev pub refused_as : ℕ → Book → Entry
refused_as n b = entry_of (answer_of (some n)) b

-- a command refused under a number changes nothing; one that is not is put into both
abbrev pub entered_by : Option ℕ → Book → Memory → Command → Entered
entered_by none b meter c = record { entry = taken_as (put_book b c); meter = put_meter meter c }
entered_by (some n) b meter c = record { entry = refused_as n b; meter = meter }

-- entering a command
unfoldable pub enter_book : Book → Memory → Command → Entered
enter_book b meter c = entered_by (refusal (not (sound b)) (room_in meter) (ledger_in b meter) c) b meter c

-- what a method promises: its entry, and lent memory after it
pub record Enters (b : Book) (before : Memory) (c : Command) (e : Entry) (after : Memory) : Type 0 where
  pub entry : e ≡ (enter_book b before c).entry
  pub meter : after ≡ (enter_book b before c).meter

-- what a method promises of memory that is lent to it: it is the caller's two slices still, with memory after the entry in them
abbrev pub EntersIn : Book → LentMut → Command → Entry → LentMut → Type 0
EntersIn b before c e after = Enters b (held_mut before) c e (held_mut after) × Same before after

-- the first of an entry that leaves lent memory as it is, whatever memory of that room is lent
abbrev pub EntersAt : Book → ℕ → Command → Entry → Type 0
EntersAt b room c e = (meter : Memory) → room_in meter ≡ room → Enters b meter c e meter

-- what a command is answered at a book: the refusal that it meets there, if there is one
abbrev pub AnswersTo : Book → Memory → Command → Answer → Type 0
AnswersTo b meter c a = a ≡ answer_of (refusal (not (sound b)) (room_in meter) (ledger_in b meter) c)

-- the same, whatever memory of that room is lent
abbrev pub AnswersAt : Book → ℕ → Command → Answer → Type 0
AnswersAt b room c a = (meter : Memory) → room_in meter ≡ room → AnswersTo b meter c a
