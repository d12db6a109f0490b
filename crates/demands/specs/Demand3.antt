-- Demand 3: one claim about a whole list of steps and the bytes of a unit file.
use Rattle.std.specs.Prelude.{◌≡◌, ◌↔◌, false, ℕ, ◌≤◌, T, length, take, drop}
use mathlib.Core.List.{List, [], ◌∷◌, ◌++◌, map, Memᴰ}
use Rattle.std.proofs.Math.Option.{some}
use Rattle.std.proofs.Math.ListN.{get_elem?}
use Rattle.book_memory.specs.Meter.{Memory, room_in}
use Rattle.rules.specs.Ledger.{Ledger, Metered, ledger_of}
use Rattle.rules.specs.Refusal.{taken, answer_of}
use Rattle.rules.specs.Segment.{needed}
use Rattle.rules.specs.Statement.{lines, statement_of, settle_refusal}
use Rattle.rules.specs.Bounds.{WithinHalves}
use Rattle.rules.specs.Lines.{Partition}
use Rattle.rules.specs.File.{commands_in}
use Rattle.commands.specs.declared.entries.Command.{Command}
use Rattle.rules.specs.declared.statement.Line.{Line}
use Rattle.rules.specs.declared.statement.Statement.{Statement}
use Rattle.settle.specs.Settle.{Settled, answer_in}
use Rattle.demands.specs.Steps.{Step, enter, settle, entered, settled, start, after_all, outcomes, outset, place_from, reads_to, ruled_from, left_at}
use Rattle.rules.specs.Answer.{Taken}
use Rattle.std.specs.Prelude.{Ok, Err}
use Rattle.commands.specs.declared.refusal.Refusal.{Refusal}

-- ---- what a settlement must be answered, for the commands taken before it

-- minute m is needed
pub record Needed (g : Ledger) (m : ℕ) : Type 0 where
  pub minute : Memᴰ m (needed g)

-- minute m has a reading, plain or sent again
pub record Given (g : Ledger) (m : ℕ) : Type 0 where
  pub held : Metered
  pub read : g.reading m ≡ some held

-- a statement s with the lines ls that it counts is right
pub record StatementRight (g : Ledger) (s : Statement) (ls : List Line) : Type 0 where
  -- it is the rules' own
  pub ruled : s ≡ statement_of g
  pub ruled_lines : ls ≡ lines g
  -- each active minute of every instruction taken belongs to exactly one line, and no line is without one
  pub partition : Partition g ls
  -- total capped energy and the total paid are within half a unit for each rounding of the exact sums
  pub halves : WithinHalves g s ls

-- a settlement's outcome is right for the room of lent memory, the commands t taken before it and the line records lent to it
pub record SettlementRight (size : ℕ) (t : List Command) (records : List Line) (r : Settled) : Type 0 where
  -- its number is the one that the rules give, also where that is 24, 25 or 26
  pub number : answer_in r.answer ≡ answer_of (settle_refusal false size (length records) (ledger_of t))
  -- a statement exactly when these commands closed the book and gave every needed minute a reading, and there are records enough
  pub answered :
      ((s : Statement) × (r.answer ≡ Ok s))
      ↔ (T (ledger_of t).closed × ((m : ℕ) → Needed (ledger_of t) m → Given (ledger_of t) m) × (length (lines (ledger_of t)) ≤ length records))
  pub statement : (s : Statement) → r.answer ≡ Ok s → StatementRight (ledger_of t) s (take s.lines r.memory)
  -- records after the lines keep their contents, and a refusal leaves all of them
  pub kept : (s : Statement) → r.answer ≡ Ok s → drop s.lines r.memory ≡ drop s.lines records
  pub refused_kept : (x : Refusal) → r.answer ≡ Err x → r.memory ≡ records

-- ---- the list

-- the commands taken of those that some steps enter
abbrev pub taken_by : List ℕ → Memory → List Step → List Command
taken_by file memory steps = taken (room_in memory) (place_from file outset steps).commands

-- for a unit file's bytes, lent memory, meter memory and revision memory each of any length and contents, and a list of steps from the empty book
pub record Demand3 (file : List ℕ) (memory : Memory) (steps : List Step) : Type 0 where
  -- every step has the outcome that the rules give for the commands taken before it: a command entered, or read where the last read stopped, is
  -- taken or turned down under its number, and a settlement is answered
  pub outcome : outcomes file (start memory) steps ≡ ruled_from file (room_in memory) outset steps
  -- the list leaves the reader behind the last command that it read, and the book and lent memory of the commands taken: that is the book of 11
  -- (book/specs/Sound.FromCommands)
  pub left : after_all file (start memory) steps ≡ left_at memory (place_from file outset steps)
  -- every settlement, wherever it stands, has the outcome that is right for the commands taken before it
  pub settlements :
      (before rest : List Step) (records : List Line)
      → steps ≡ before ++ settle records ∷ rest
      → (r : Settled)
      × (get_elem? (outcomes file (start memory) steps) (length before) ≡ some (settled r))
      × SettlementRight (room_in memory) (taken_by file memory before) records r
  -- a step that is not answered "taken", a settlement too, leaves book and lent memory exactly as they were
  pub untouched :
      (before rest : List Step) (x : Step)
      → steps ≡ before ++ x ∷ rest
      → (get_elem? (outcomes file (start memory) steps) (length before) ≡ some (entered Taken) → ⊥)
      → ((after_all file (start memory) (before ++ x ∷ [])).book ≡ (after_all file (start memory) before).book)
      × ((after_all file (start memory) (before ++ x ∷ [])).memory ≡ (after_all file (start memory) before).memory)
  -- commands that are entered one by one are entered as they are, and the reader does not move
  pub entered_list : (cs : List Command) → place_from file outset (map enter cs) ≡ record { at = 0; commands = cs }
  -- as many reads as the file has bytes enter the commands that its bytes fix, up to the first end, 1 or 2
  pub whole_file : (reads_to file (length file)).commands ≡ commands_in file

-- demand 3
unfoldable pub Demand3·theorem : Type 0
Demand3·theorem = (file : List ℕ) (memory : Memory) (steps : List Step) → Demand3 file memory steps
