-- Inner, and for hosts: the book that a host's tables say: a contract with its date, windows, instructions and defaults, each a row of numbers, its
-- operands in the unit file's order. A number past a table's end is 0, as in every unused place, and one that is too wide for its field stands as the field's largest
-- value, which is in no operand's range.
use Rattle.std.specs.Prelude.{Bool, true, cond, ◌&&◌, List, map, ℕ, ◌*◌, ◌/◌, ◌%◌, min, eqb, pos, length, get_or, drop, Result, Ok, Err}
use Rattle.energy.specs.Lists.{between}
use Rattle.calendar.specs.declared.Date.{Date}
use Rattle.commands.specs.declared.contract.Contract.{Contract}
use Rattle.commands.specs.declared.entries.Window.{Window}
use Rattle.commands.specs.declared.entries.Instruction.{Instruction}
use Rattle.commands.specs.declared.entries.Default.{Default}
use Rattle.commands.specs.declared.refusal.Refusal.{Refusal}
use Rattle.commands.specs.declared.refusal.Refusal.TheVariants.{NotReached}
use Rattle.book.specs.declared.Book.{Book}

-- the tables of a host, row after row; the contract's has one row
pub record Tables : Type 0 where
  pub contract : List ℕ
  pub windows : List ℕ
  pub instructions : List ℕ
  pub defaults : List ℕ

-- these four
abbrev pub tables : List ℕ → List ℕ → List ℕ → List ℕ → Tables
tables contract windows instructions defaults =
    record { contract = contract; windows = windows; instructions = instructions; defaults = defaults }

-- ---- rows

-- how many numbers the contract's row has
abbrev pub contract_numbers : ℕ
contract_numbers = 14

-- how many numbers a window's row has
abbrev pub window_numbers : ℕ
window_numbers = 3

-- how many numbers an instruction's row has
abbrev pub instruction_numbers : ℕ
instruction_numbers = 2

-- how many numbers a default's row has
abbrev pub default_numbers : ℕ
default_numbers = 3

-- the number at a place of a row
abbrev pub number_at : List ℕ → ℕ → ℕ
number_at r i = get_or r i 0

-- the number at a place, in a field of one byte
abbrev pub byte_at : List ℕ → ℕ → ℕ
byte_at r i = min (number_at r i) 255

-- the number at a place, in a field of two bytes
abbrev pub word_at : List ℕ → ℕ → ℕ
word_at r i = min (number_at r i) 65535

-- the contract of a row
unfoldable pub contract_of_row : List ℕ → Contract
contract_of_row r =
    record {
      days = byte_at r 0;
      kind = byte_at r 1;
      service = byte_at r 2;
      contracted = record { 0 = pos (number_at r 3) };
      rampup = number_at r 4;
      rampdown = number_at r 5;
      response = record { 0 = word_at r 6 };
      recovery = record { 0 = word_at r 7 };
      availability = number_at r 8;
      utilisation = number_at r 9;
      optional = number_at r 10;
    }

-- the date of a contract's row: its last three numbers, zeros for none
unfoldable pub date_of_row : List ℕ → Date
date_of_row r = record { year = word_at r 11; month = byte_at r 12; day = byte_at r 13 }

-- the window of a row
unfoldable pub window_of_row : List ℕ → Window
window_of_row r = record { start = record { 0 = word_at r 0 }; end = record { 0 = word_at r 1 }; verdict = byte_at r 2 }

-- the instruction of a row
unfoldable pub instruction_of_row : List ℕ → Instruction
instruction_of_row r = record { issue = record { 0 = word_at r 0 }; cease = record { 0 = word_at r 1 } }

-- the default of a row
unfoldable pub default_of_row : List ℕ → Default
default_of_row r = record { minute = record { 0 = word_at r 0 }; kind = byte_at r 1; reach = byte_at r 2 }

-- ---- tables

module _ {A : Type 0} (entry : List ℕ → A) (numbers : ℕ) where
  -- the entry of row i, from 0, of a table whose rows have so many numbers
  abbrev pub entry_at : List ℕ → ℕ → A
  entry_at table i = entry (drop (numbers * i) table)

  -- the entries of the first so many places; in places after the table's end stands the entry of zeros
  unfoldable pub entries_of : ℕ → List ℕ → List A
  entries_of places table = map (entry_at table) (between 0 places)

-- the closed book of these tables; as many entries of each as its table has whole rows
unfoldable pub book_of : Tables → Book
book_of t =
    record {
      agreed = true;
      closed = true;
      contract = contract_of_row t.contract;
      date = date_of_row t.contract;
      windows = entries_of window_of_row window_numbers 128 t.windows;
      nwindows = length t.windows / window_numbers;
      instructions = entries_of instruction_of_row instruction_numbers 64 t.instructions;
      ninstructions = length t.instructions / instruction_numbers;
      defaults = entries_of default_of_row default_numbers 128 t.defaults;
      ndefaults = length t.defaults / default_numbers;
    }

-- these tables hold whole rows alone: one contract, and no window, instruction or default cut short
unfoldable pub entire : Tables → Bool
entire t =
    eqb (length t.contract) contract_numbers && eqb (length t.windows % window_numbers) 0
    && eqb (length t.instructions % instruction_numbers) 0
    && eqb (length t.defaults % default_numbers) 0

-- the book that tables say; tables with a row cut short say none
abbrev pub said : Tables → Result Book Refusal
said t = cond (entire t) (Ok (book_of t)) (Err NotReached)
