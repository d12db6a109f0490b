-- Inner, and proved equal to the rules: the ledgers that commands leave: what the contract, date, windows, instructions and defaults taken always are, as a
-- test that 11 asks of a book too.
use Rattle.std.specs.Prelude.{◌≡◌, Bool, true, false, not, ◌&&◌, List, [], ◌∷◌, ℕ, ◌+◌, ◌≤◌, ◌<◌, T, eqb, leb, ltb, length}
use Rattle.std.proofs.Math.Option.{none, some}
use Rattle.energy.specs.Lists.{all, any, pass}
use Rattle.calendar.specs.Calendar.{days_of, is_date}
use Rattle.calendar.specs.declared.Date.{Date}
use Rattle.commands.specs.Input.{in_range, ramp_too_long, bad_window, is_reading}
use Rattle.rules.specs.Ledger.{Ledger, Metered, ledger_of, contract_of, span_in, cells_in, expiry, end_of, within}
use Rattle.rules.specs.Refusal.{taken}
use Rattle.commands.specs.declared.contract.Contract.{Contract}
use Rattle.commands.specs.declared.entries.Window.{Window}
use Rattle.commands.specs.declared.entries.Instruction.{Instruction}
use Rattle.commands.specs.declared.entries.Default.{Default}
use Rattle.commands.specs.declared.entries.Command.{Command}
use Rattle.commands.specs.declared.entries.Command.TheVariants.{Contract as contractᶜ, Window as windowᶜ, Instruction as instructionᶜ, Default as defaultᶜ}

-- windows that could be entered one after the other under a contract with this span, the first not before minute e; so below
unfoldable pub windows_sound : Contract → ℕ → ℕ → List Window → Bool
windows_sound k span e [] = true
windows_sound k span e (w ∷ ws) =
    in_range (windowᶜ w) && not (bad_window (windowᶜ w)) && leb w.end.0 span && not (eqb k.service 0 && eqb w.verdict 1)
    && leb e w.start.0
    && windows_sound k span w.end.0 ws

-- instructions that could be entered one after the other, the first not before minute e
unfoldable pub instructions_sound : Contract → ℕ → ℕ → List Instruction → Bool
instructions_sound k span e [] = true
instructions_sound k span e (i ∷ is) =
    in_range (instructionᶜ i) && leb (end_of k i) span && leb (expiry k i) i.cease.0 && leb e i.issue.0
    && instructions_sound k span (end_of k i + k.recovery.0) is

-- a default that could be entered beside these windows
abbrev pub default_sound : Contract → ℕ → List Window → Default → Bool
default_sound k span ws d = in_range (defaultᶜ d) && ltb d.minute.0 span && any (λ w. within w d.minute.0) ws

-- a date that could be entered under a contract: the 1st of a month with its days
abbrev pub date_sound : Contract → Date → Bool
date_sound k d = is_date d && eqb d.day 1 && eqb (days_of d.year d.month) k.days

-- beside a contract: each entry could be taken
unfoldable pub agreed_tests : Contract → ℕ → List Window → List Instruction → List Default → List Bool
agreed_tests k span ws is ds =
    in_range (contractᶜ k)
    ∷ not (ramp_too_long (contractᶜ k))
    ∷ windows_sound k span 0 ws
    ∷ instructions_sound k span 0 is
    ∷ all (default_sound k span ws) ds
    ∷ []

-- ---- what commands leave

-- nothing has been entered
pub record Untouched (g : Ledger) : Type 0 where
  pub contracts : g.contracts ≡ []
  pub dates : g.dates ≡ []
  pub windows : g.windows ≡ []
  pub instructions : g.instructions ≡ []
  pub defaults : g.defaults ≡ []
  pub not_closed : g.closed ≡ false
  pub readings : (m : ℕ) → g.reading m ≡ none

-- one contract, a date at most and entries that could be taken under it and fit their tables, and lent memory of this size with room for it
pub record Agreed (size : ℕ) (g : Ledger) : Type 0 where
  pub contract : g.contracts ≡ contract_of g ∷ []
  pub tests : T (pass (agreed_tests (contract_of g) (span_in g) g.windows g.instructions g.defaults))
  pub dates : length g.dates ≤ 1
  pub dated : T (all (date_sound (contract_of g)) g.dates)
  pub windows : length g.windows ≤ 128
  pub instructions : length g.instructions ≤ 64
  pub defaults : length g.defaults ≤ 128
  pub cells : cells_in g ≤ size
  pub readings : (m : ℕ) (x : Metered) → g.reading m ≡ some x → (m < span_in g) × T (is_reading x.kw)

-- a ledger of one of these two kinds
pub data Reached (size : ℕ) (g : Ledger) : Type 0 where
  untouched : Untouched g → Reached size g
  agreed : Agreed size g → Reached size g

-- commands of any number and kind leave no other, whatever the room of lent memory
abbrev pub Reached·theorem : Type 0
Reached·theorem = (size : ℕ) (cs : List Command) → Reached size (ledger_of (taken size cs))
