-- Inner, and proved equal to the rules: what settling has before the first record is written: the statement without the lines' sums, and the tables
-- that the lines are calculated from.
use Rattle.std.specs.Prelude.{◌≡◌, List, map, ℕ, ◌≤◌, ◌<◌, ℤ, pos, nat_abs, ◌+ℤ◌, length, take, Ok}
use Rattle.std.proofs.Math.Option.{none}
use Rattle.book_memory.specs.Meter.{Memory}
use Rattle.energy.specs.Number.{Within}
use Rattle.energy.specs.Lists.{between}
use Rattle.commands.specs.declared.entries.Instruction.{Instruction}
use Rattle.rules.specs.Ledger.{Ledger}
use Rattle.rules.specs.Segment.{live, segments}
use Rattle.rules.specs.Statement.{lines, statement_of}
use Rattle.rules.specs.declared.statement.Line.{Line}
use Rattle.rules.specs.declared.statement.Statement.{Statement}
use Rattle.book.specs.Book.{ledger_in}
use Rattle.book.specs.declared.Book.{Book}
use Rattle.settle_lines.specs.declared.cursor.Cursor.{Cursor}
use Rattle.settle_availability.specs.declared.paid.Entries.{Entries}
use Rattle.settle.specs.declared.prepare.Prepared.{Prepared}
use Rattle.settle_lines.specs.Cursor.{Plan, Ready, cursor_at, stepped_line, stored}
use Rattle.settle_live.specs.Live.{is_live, number_to, LiveTable}
use Rattle.settle_availability.specs.Paid.{availability_by}
use Rattle.settle.specs.Settle.{Settled, refusal_for, settle_book}
use Rattle.settle_terms.specs.Terms.{period_places, terms_of}

-- a statement of n lines with the windows' entries, without the lines' sums
abbrev pub unsummed : ℕ → Entries → Statement
unsummed n e =
    record {
      lines = n;
      capped = record { 0 = pos 0 };
      utilisation = record { 0 = pos 0 };
      availability = e.pence;
      total = e.pence;
      windows = e.windows;
    }

-- a statement with the sums of the lines
abbrev pub summed : Statement → Cursor → Statement
summed s c =
    record {
      lines = s.lines;
      capped = c.capped;
      utilisation = c.pence;
      availability = s.availability;
      total = record { 0 = c.pence.0 +ℤ s.availability.0 };
      windows = s.windows;
    }

-- ---- what is prepared, over the rules

-- the table of live periods: at each place, which is a period from 0, the number of the live window that has it, from 1, and 0 for none
abbrev pub live_of : Ledger → List ℕ
live_of g = map (number_to (live g) g.windows (length g.windows)) (between 0 period_places)

-- a ledger's statement without the lines' sums: zeros, and the availability alone
abbrev pub without_sums : Ledger → Statement
without_sums g =
    record {
      lines = length (lines g);
      capped = record { 0 = pos 0 };
      utilisation = record { 0 = pos 0 };
      availability = (statement_of g).availability;
      total = (statement_of g).availability;
      windows = (statement_of g).windows;
    }

-- what is prepared of a book that settling does not refuse, by its ledger
abbrev pub prepared_of : Book → Ledger → Prepared
prepared_of b g = record { statement = without_sums g; terms = terms_of b.contract; live = live_of g }

-- ---- how it is come by

-- a book that settling does not refuse has n lines, which there is room for
pub record Counted (b : Book) (readings : Memory) (room n : ℕ) : Type 0 where
  pub taken : refusal_for b readings room ≡ none
  pub lines : n ≡ length (segments (ledger_in b readings))
  pub few : n ≤ room
  pub calls : b.ninstructions ≤ 64

-- a book's instructions
abbrev pub calls_of : Book → List Instruction
calls_of b = take b.ninstructions b.instructions

-- what a book with n lines lays out: the table of live periods, and by it the windows' entries
pub record LaidOut (b : Book) (n : ℕ) (p : Prepared) : Type 0 where
  pub lines : p.statement.lines ≡ n
  pub terms : p.terms ≡ terms_of b.contract
  pub size : length p.live ≡ period_places
  pub live : LiveTable (is_live (calls_of b) p.terms b.contract.recovery.0) b.windows b.nwindows p.live
  pub statement :
      p.statement
      ≡ unsummed n
      (availability_by p.live b.windows b.nwindows b.defaults b.ndefaults (nat_abs p.terms.kw.0) b.contract.availability)
  pub small : Within 100000000000000 p.statement.availability.0

-- the cursor before line n, from 0
abbrev pub prepared_cursor : Book → Prepared → List ℤ → ℕ → Cursor
prepared_cursor b p meter n = cursor_at p.terms (calls_of b) p.live meter n

-- the cursor after all lines
abbrev pub last_cursor : Book → Prepared → List ℤ → Cursor
last_cursor b p meter = prepared_cursor b p meter p.statement.lines

-- line n, from 0
abbrev pub prepared_line : Book → Prepared → List ℤ → ℕ → Line
prepared_line b p meter n = stepped_line p.terms (calls_of b) p.live meter n

-- settling by what is prepared: the lines that the cursor steps through, and their sums
unfoldable pub settled_with : Book → Prepared → List ℤ → List Line → Settled
settled_with b p meter memory =
    record {
      answer = Ok (summed p.statement (last_cursor b p meter));
      memory = stored (prepared_line b p meter) p.statement.lines memory;
    }

-- what is prepared for a book, its readings and so much room: which it is, and that it settles the book
pub record Prepares (b : Book) (readings : Memory) (room : ℕ) (p : Prepared) : Type 0 where
  pub taken : refusal_for b readings room ≡ none
  pub is : p ≡ prepared_of b (ledger_in b readings)
  pub size : length p.live ≡ period_places
  pub called : b.ninstructions ≤ length b.instructions
  pub plan : Plan p.terms (calls_of b) p.live readings.cells
  pub few : p.statement.lines ≤ room
  pub ready : (k : ℕ) → k < p.statement.lines → Ready p.terms (calls_of b) p.live readings.cells (prepared_cursor b p readings.cells k)
  pub sums : Within 100000000000000 (last_cursor b p readings.cells).pence.0 × Within 100000000000000 p.statement.availability.0
  pub settles : (memory : List Line) → length memory ≡ room → settled_with b p readings.cells memory ≡ settle_book b readings memory
