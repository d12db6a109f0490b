-- Proved of the rules: one book in tables, to the number: which number of a row is which field, where tables end, and what becomes of a number that
-- is too wide. All fields of an entry differ, so no two can be read from one another's places.
use Rattle.std.specs.Prelude.{◌≡◌, true, false, List, [], ◌∷◌, ◌++◌, ℕ, pos, take, replicate}
use Rattle.commands.specs.declared.entries.Window.{Window}
use Rattle.commands.specs.declared.entries.Instruction.{Instruction}
use Rattle.commands.specs.declared.entries.Default.{Default}
use Rattle.host_tables.specs.Tables.{Tables, tables, contract_of_row, date_of_row, window_of_row, instruction_of_row, default_of_row, book_of, entire}

-- a contract's row: days, kind, service, contracted kW, ramp up, ramp down, response, recovery, availability, utilisation and optional rate, and the
-- date's year, month and day
abbrev pub contract_row : List ℕ
contract_row = 31 ∷ 1 ∷ 0 ∷ 12000 ∷ 2000 ∷ 3000 ∷ 20 ∷ 60 ∷ 900 ∷ 30000 ∷ 55000 ∷ 2024 ∷ 10 ∷ 1 ∷ []

-- two windows, two instructions, two defaults
abbrev pub example_tables : Tables
example_tables =
    tables contract_row (30 ∷ 90 ∷ 1 ∷ 120 ∷ 180 ∷ 0 ∷ []) (5 ∷ 85 ∷ 200 ∷ 240 ∷ []) (31 ∷ 4 ∷ 1 ∷ 125 ∷ 2 ∷ 3 ∷ [])

-- a window: start, end, verdict
abbrev window : ℕ → ℕ → ℕ → Window
window a b v = record { start = record { 0 = a }; end = record { 0 = b }; verdict = v }

-- an instruction: issue, cease
abbrev instruction : ℕ → ℕ → Instruction
instruction a b = record { issue = record { 0 = a }; cease = record { 0 = b } }

-- a default: minute, kind, reach
abbrev default : ℕ → ℕ → ℕ → Default
default m k r = record { minute = record { 0 = m }; kind = k; reach = r }

-- the book of these tables, and of rows beside them
pub record Example : Type 0 where
  pub contract :
      (book_of example_tables).contract
      ≡ record {
        days = 31;
        kind = 1;
        service = 0;
        contracted = record { 0 = pos 12000 };
        rampup = 2000;
        rampdown = 3000;
        response = record { 0 = 20 };
        recovery = record { 0 = 60 };
        availability = 900;
        utilisation = 30000;
        optional = 55000;
      }
  -- the date, and that of a row of zeros
  pub date : (book_of example_tables).date ≡ record { year = 2024; month = 10; day = 1 }
  pub no_date : date_of_row (replicate 14 0) ≡ record { year = 0; month = 0; day = 0 }
  -- the entries, and the first place after them
  pub windows : take 3 (book_of example_tables).windows ≡ window 30 90 1 ∷ window 120 180 0 ∷ window 0 0 0 ∷ []
  pub instructions : take 3 (book_of example_tables).instructions ≡ instruction 5 85 ∷ instruction 200 240 ∷ instruction 0 0 ∷ []
  pub defaults : take 3 (book_of example_tables).defaults ≡ default 31 4 1 ∷ default 125 2 3 ∷ default 0 0 0 ∷ []
  -- how many of each
  pub window_count : (book_of example_tables).nwindows ≡ 2
  pub instruction_count : (book_of example_tables).ninstructions ≡ 2
  pub default_count : (book_of example_tables).ndefaults ≡ 2
  -- the book is one with a contract, and closed
  pub agreed : (book_of example_tables).agreed ≡ true
  pub closed : (book_of example_tables).closed ≡ true
  -- a number too wide for its field, which would be in its range if it were cut to the field
  pub wide_days : (contract_of_row (257 ∷ [])).days ≡ 255
  pub wide_response : (contract_of_row (1 ∷ 0 ∷ 0 ∷ 0 ∷ 0 ∷ 0 ∷ 65556 ∷ [])).response.0 ≡ 65535
  pub wide_date : date_of_row (replicate 11 0 ++ (67560 ∷ 266 ∷ 257 ∷ [])) ≡ record { year = 65535; month = 255; day = 255 }
  pub wide_window : window_of_row (65536 ∷ 65566 ∷ 256 ∷ []) ≡ window 65535 65535 255
  pub wide_instruction : instruction_of_row (65541 ∷ 65621 ∷ []) ≡ instruction 65535 65535
  pub wide_default : default_of_row (65536 ∷ 257 ∷ 257 ∷ []) ≡ default 65535 255 255
  -- rows that are whole, and tables with one cut short or with a number too many
  pub whole_rows : entire example_tables ≡ true
  pub short_contract : entire (tables (take 13 contract_row) [] [] []) ≡ false
  pub no_date_numbers : entire (tables (take 11 contract_row) [] [] []) ≡ false
  pub long_contract : entire (tables (0 ∷ contract_row) [] [] []) ≡ false
  pub short_window : entire (tables contract_row (30 ∷ 90 ∷ []) [] []) ≡ false
  pub short_instruction : entire (tables contract_row [] (5 ∷ []) []) ≡ false
  pub short_default : entire (tables contract_row [] [] (31 ∷ 4 ∷ 1 ∷ 125 ∷ [])) ≡ false
