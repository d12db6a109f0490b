-- "The book": its tables, what it holds with lent memory in the rules' terms, and what a taken command puts into it.
use Rattle.std.specs.Prelude.{true, false, cond, List, [], ◌∷◌, ℕ, ◌+◌, ◌-◌, ltb, take, set, replicate}
use Rattle.std.proofs.Math.Option.{none}
use Rattle.calendar.specs.Calendar.{no_date, is_no_date, lost_in}
use Rattle.calendar.specs.declared.Date.{Date}
use Rattle.rules.specs.Ledger.{Ledger, no_contract, full_span}
use Rattle.commands.specs.Command.{on_contract, on_date, on_window, on_instruction, on_default, on_close, always}
use Rattle.commands.specs.declared.entries.Command.{Command}
pub use Rattle.rules.specs.Ledger.{no_window, no_instruction, no_default}
use Rattle.book_memory.specs.Meter.{metered_at, Memory}
use Rattle.book.specs.declared.Book.{Book}

-- the empty book: no contract, and zeros
unfoldable pub empty_book : Book
empty_book =
    record {
      agreed = false;
      closed = false;
      contract = no_contract;
      date = no_date;
      windows = replicate 128 no_window;
      nwindows = 0;
      instructions = replicate 64 no_instruction;
      ninstructions = 0;
      defaults = replicate 128 no_default;
      ndefaults = 0;
    }

-- ---- what a book and lent memory hold

-- the span of a book: the minutes of its month
unfoldable pub book_span : Book → ℕ
book_span b = full_span b.contract b.date - lost_in b.date.month

-- 15: the minutes that lent memory must have room for
unfoldable pub book_cells : Book → ℕ
book_cells b = full_span b.contract b.date

-- the date of a book, if it has one: zeros are none
abbrev pub dates_in : Book → List Date
dates_in b = cond (is_no_date b.date) [] (b.date ∷ [])

-- the ledger of a book and lent memory. Cells past the span are no readings
unfoldable pub ledger_in : Book → Memory → Ledger
ledger_in b meter =
    record {
      contracts = cond b.agreed (b.contract ∷ []) [];
      dates = dates_in b;
      windows = take b.nwindows b.windows;
      instructions = take b.ninstructions b.instructions;
      defaults = take b.ndefaults b.defaults;
      closed = b.closed;
      reading = λ m. cond (ltb m (book_span b)) (metered_at meter m) none;
    }

-- ---- a taken command put into the book

-- the book with a command's entry: what each kind of command changes, field by field
abbrev pub put_book : Book → Command → Book
put_book b c =
    record {
      agreed = on_contract (λ k. true) (always b.agreed) c;
      closed = on_close true (always b.closed) c;
      contract = on_contract (λ k. k) (always b.contract) c;
      date = on_date (λ d. d) (always b.date) c;
      windows = on_window (λ w. set b.windows b.nwindows w) (always b.windows) c;
      nwindows = on_window (λ w. b.nwindows + 1) (always b.nwindows) c;
      instructions = on_instruction (λ i. set b.instructions b.ninstructions i) (always b.instructions) c;
      ninstructions = on_instruction (λ i. b.ninstructions + 1) (always b.ninstructions) c;
      defaults = on_default (λ d. set b.defaults b.ndefaults d) (always b.defaults) c;
      ndefaults = on_default (λ d. b.ndefaults + 1) (always b.ndefaults) c;
    }

-- the book with the entries of a list of commands
unfoldable pub put_all : Book → List Command → Book
put_all b [] = b
put_all b (c ∷ t) = put_all (put_book b c) t
