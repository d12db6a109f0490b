-- "From instruction to segment" and "The lists of demand 3": which minutes a line has, its one rate, the order of lines and their number.
use Rattle.std.specs.Prelude.{◌≡◌, Bool, ◌&&◌, ℕ, suc, ◌+◌, ◌-◌, ◌*◌, ◌/◌, ◌≤◌, ◌<◌, T, eqb, length}
use mathlib.Core.List.{List, [], ◌∷◌, Memᴰ}
use Rattle.std.proofs.Math.Option.{some}
use Rattle.std.proofs.Math.ListN.{get_elem?}
use Rattle.energy.specs.Lists.{count}
use Rattle.rules.specs.Ledger.{Ledger, ledger_of, contract_of, span_in, ramp_start, end_of}
use Rattle.rules.specs.Refusal.{taken}
use Rattle.rules.specs.Segment.{period_of, stage_of, same_stage, rate_at, Segment, segments}
use Rattle.rules.specs.Statement.{lines}
use Rattle.commands.specs.declared.contract.Contract.{Contract}
use Rattle.commands.specs.declared.entries.Instruction.{Instruction}
use Rattle.commands.specs.declared.entries.Command.{Command}
use Rattle.rules.specs.declared.statement.Line.{Line}

-- ---- minutes and lines

-- a minute of the n-th instruction belongs to the line with its instruction, stage and period
abbrev pub belongs : Contract → ℕ → Instruction → ℕ → Line → Bool
belongs k n i m l = eqb l.instruction n && eqb l.period (period_of m) && same_stage l.stage (stage_of k i m)

-- minute m is an active one of the instruction at place n (from 0), whose number is n + 1
pub record Active (g : Ledger) (n : ℕ) (i : Instruction) (m : ℕ) : Type 0 where
  pub given : get_elem? g.instructions n ≡ some i
  pub begun : ramp_start (contract_of g) i ≤ m
  pub before_end : m < end_of (contract_of g) i

-- an active minute that belongs to a line
pub record MinuteOf (g : Ledger) (l : Line) : Type 0 where
  pub n : ℕ
  pub i : Instruction
  pub m : ℕ
  pub active : Active g n i m
  pub its_line : T (belongs (contract_of g) (suc n) i m l)

-- each active minute of every instruction belongs to exactly one line, and no line is without one
pub record Partition (g : Ledger) (ls : List Line) : Type 0 where
  pub once : (n : ℕ) (i : Instruction) (m : ℕ) → Active g n i m → count (belongs (contract_of g) (suc n) i m) ls ≡ 1
  pub nonempty : (l : Line) → Memᴰ l ls → MinuteOf g l

-- so it is of every ledger
abbrev pub Partition·theorem : Type 0
Partition·theorem = (g : Ledger) → Partition g (lines g)

-- ---- one rate

-- all minutes of a segment have the rate of its first
abbrev pub OneRate : Ledger → Type 0
OneRate g =
    (s : Segment)
    → Memᴰ s (segments g)
    → (m : ℕ)
    → Memᴰ m s.minutes
    → rate_at g s.instruction m ≡ rate_at g s.instruction s.head

-- so it is of what commands leave: their windows are of whole periods
abbrev pub OneRate·theorem : Type 0
OneRate·theorem = (size : ℕ) (cs : List Command) → OneRate (ledger_of (taken size cs))

-- ---- by rising minute

-- every minute of a segment is before every minute of those after it
unfoldable pub InOrder : List Segment → Type 0
InOrder [] = Unit {0}
InOrder (s ∷ ss) =
    ((t : Segment) → Memᴰ t ss → (m n : ℕ) → Memᴰ m s.minutes → Memᴰ n t.minutes → m < n)
    × InOrder ss

-- a segment's head is the first of its minutes, and the segments go by rising minute
pub record Rising (g : Ledger) : Type 0 where
  pub has : (s : Segment) → Memᴰ s (segments g) → Memᴰ s.head s.minutes
  pub first : (s : Segment) → Memᴰ s (segments g) → (m : ℕ) → Memᴰ m s.minutes → s.head ≤ m
  pub order : InOrder (segments g)

-- so it is of what commands leave, over all instructions
abbrev pub Rising·theorem : Type 0
Rising·theorem = (size : ℕ) (cs : List Command) → Rising (ledger_of (taken size cs))

-- ---- how many

-- the most lines of a statement
abbrev pub most_lines : ℕ
most_lines = 1681

-- the most lines of a statement over 11 days, which the lister lists
abbrev pub most_listed : ℕ
most_listed = 719

-- a line starts with a stage or, inside one, with a period, and minute 0 is never active. In all there is one line less than the 1,682 allowed for
pub record LineBound (g : Ledger) : Type 0 where
  pub most : length (lines g) ≤ span_in g / 30 - 1 + 3 * length g.instructions
  pub eleven_days : (contract_of g).days ≤ 11 → length (lines g) ≤ most_listed
  pub in_all : length (lines g) ≤ most_lines

-- so it is of what commands leave
abbrev pub LineBound·theorem : Type 0
LineBound·theorem = (size : ℕ) (cs : List Command) → LineBound (ledger_of (taken size cs))

-- commands, and lent memory of some size, that give a month of so many days so many lines
pub record MonthWithLines (days most : ℕ) : Type 0 where
  pub size : ℕ
  pub commands : List Command
  pub month : (contract_of (ledger_of (taken size commands))).days ≡ days
  pub busy : length (lines (ledger_of (taken size commands))) ≡ most

-- both bounds are met, the second in a month that gains an hour
abbrev pub LinesMet·theorem : Type 0
LinesMet·theorem = MonthWithLines 11 most_listed × MonthWithLines 31 most_lines
