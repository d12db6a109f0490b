-- 11: a book that no list of commands from the empty one leaves.
use Rattle.std.specs.Prelude.{◌≡◌, ◌↔◌, Bool, not, ◌&&◌, cond, List, [], ◌∷◌, ℕ, T, eqb, leb, length, take, drop}
use Rattle.energy.specs.Lists.{all, pass}
use Rattle.rules.specs.Refusal.{taken}
use Rattle.rules.specs.Reached.{date_sound, agreed_tests}
use Rattle.book_sound.specs.Unused.{is_no_window, is_no_instruction, is_no_default}
unfoldable pub use Rattle.book_sound.specs.Unused.{no_contract_tests}
use Rattle.calendar.specs.Calendar.{is_no_date}
use Rattle.book.specs.Book.{empty_book, book_span, dates_in, put_all}
use Rattle.commands.specs.declared.entries.Command.{Command}
use Rattle.book.specs.declared.Book.{Book}

-- some list of commands, with lent memory of some room, leaves the book
pub record FromCommands (b : Book) : Type 0 where
  pub size : ℕ
  pub commands : List Command
  pub leaves : b ≡ put_all empty_book (taken size commands)

-- the lengths of the tables, which the language's arrays have anyway
pub record Shaped (b : Book) : Type 0 where
  pub windows : length b.windows ≡ 128
  pub instructions : length b.instructions ≡ 64
  pub defaults : length b.defaults ≡ 128

-- ---- the test for it, on the book alone

-- a book without a contract: nothing is entered
unfoldable pub empty_tests : Book → List Bool
empty_tests b =
    pass (no_contract_tests b.contract) ∷ is_no_date b.date ∷ not b.closed ∷ eqb b.nwindows 0 ∷ eqb b.ninstructions 0 ∷ eqb b.ndefaults 0 ∷ []

-- n entries are in use, and the others are zeros
unfoldable pub table_tests : Book → List Bool
table_tests b =
    leb b.nwindows 128
    ∷ leb b.ninstructions 64
    ∷ leb b.ndefaults 128
    ∷ all is_no_window (drop b.nwindows b.windows)
    ∷ all is_no_instruction (drop b.ninstructions b.instructions)
    ∷ all is_no_default (drop b.ndefaults b.defaults)
    ∷ []

-- the test for 11: it fails exactly where no list of commands leaves the book
unfoldable pub sound : Book → Bool
sound b =
    pass (table_tests b)
    && pass
    (cond b.agreed
    (all (date_sound b.contract) (dates_in b)
    ∷ agreed_tests b.contract (book_span b) (take b.nwindows b.windows) (take b.ninstructions b.instructions)
    (take b.ndefaults b.defaults))
    (empty_tests b))

-- the test is what document 01 words
unfoldable pub Sound·theorem : Type 0
Sound·theorem = (b : Book) → Shaped b → T (sound b) ↔ FromCommands b
