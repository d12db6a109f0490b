-- Proved of the rules: "The lister": what is printed for a refusal, by example.
use Rattle.std.specs.Prelude.{◌≡◌, []}
use Rattle.book_memory.specs.Meter.{Memory, lent}
use Rattle.book.specs.Book.{empty_book}
use Rattle.book.specs.declared.Book.{Book}
use Rattle.lister_rows.specs.Text.{text}
use Rattle.lister.specs.Printed.{printed}
use Rattle.rules.specs.Answer.{Taken, Refused}

pub record PrintedExamples : Type 0 where
  -- a command that is refused, with the offset of its first byte
  pub refused_entering : (b : Book) (meter : Memory) → printed (record { answer = Refused 14; offset = 38; book = b }) meter ≡ text "R 14 38\n"
  -- a settlement that is refused, with the file's length: a file that was entered to its end, and leaves a book that is not closed
  pub refused_settling : printed (record { answer = Taken; offset = 575; book = empty_book }) (lent [] []) ≡ text "R 24 575\n"
