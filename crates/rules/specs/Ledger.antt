-- "The book" and "The lists of demand 3": what the commands taken give. Every condition and every sum reads contract, date, windows, instructions,
-- defaults, close, span and what a minute holds off a ledger.
use Rattle.std.specs.Prelude.{Bool, true, false, cond, ◌&&◌, List, [], ◌∷◌, ℕ, ◌+◌, ◌-◌, ◌*◌, ℤ, pos, eqb, leb, ltb}
use Rattle.std.proofs.Math.Option.{Option, none, some}
use Rattle.energy.specs.Lists.{first, later, concat_map, any}
use Rattle.calendar.specs.Calendar.{no_date, gained_in, lost_in}
use Rattle.calendar.specs.declared.Date.{Date}
use Rattle.commands.specs.Command.{on_contract, on_date, on_window, on_instruction, on_default, on_metered, on_close, always}
use Rattle.commands.specs.Input.{up_minutes, down_minutes}
use Rattle.commands.specs.declared.contract.Contract.{Contract}
use Rattle.commands.specs.declared.entries.Window.{Window}
use Rattle.commands.specs.declared.entries.Instruction.{Instruction}
use Rattle.commands.specs.declared.entries.Default.{Default}
use Rattle.commands.specs.declared.entries.Command.{Command}

-- what a minute holds: its kW, and the revision of that reading, 0 for a plain one
pub record Metered : Type 0 where
  pub kw : ℤ
  pub revision : ℕ

-- the kW of a minute; 0 where it has no reading
abbrev pub kw_in : Option Metered → ℤ
kw_in none = pos 0
kw_in (some x) = x.kw

-- what has been entered. There is at most one contract, and at most one date
pub record Ledger : Type 0 where
  pub contracts : List Contract
  pub dates : List Date
  pub windows : List Window
  pub instructions : List Instruction
  pub defaults : List Default
  pub closed : Bool
  pub reading : ℕ → Option Metered

-- ---- read off the commands taken

-- the contract that a command brings
abbrev pub contract_in : Command → List Contract
contract_in c = on_contract (λ k. k ∷ []) (always []) c

-- the date that a command brings
abbrev pub date_in : Command → List Date
date_in c = on_date (λ d. d ∷ []) (always []) c

-- the window that a command brings
abbrev pub window_in : Command → List Window
window_in c = on_window (λ w. w ∷ []) (always []) c

-- the instruction that a command brings
abbrev pub instruction_in : Command → List Instruction
instruction_in c = on_instruction (λ i. i ∷ []) (always []) c

-- the default that a command brings
abbrev pub default_in : Command → List Default
default_in c = on_default (λ d. d ∷ []) (always []) c

-- what a command gives minute m
abbrev pub reading_in : Command → ℕ → Option Metered
reading_in c m =
    on_metered (λ n r. cond (eqb r.minute.0 m) (some (record { kw = r.kw.0; revision = n })) none) (always none) c

-- a command is a close
abbrev pub is_close : Command → Bool
is_close c = on_close true (always false) c

-- a command is a contract
abbrev pub is_contract : Command → Bool
is_contract c = on_contract (λ k. true) (always false) c

-- the reading of minute m: kW and revision of the last command that gives it one
unfoldable pub reading_of : List Command → ℕ → Option Metered
reading_of [] m = none
reading_of (c ∷ t) m = later (reading_in c m) (reading_of t m)

-- the ledger of the commands taken
unfoldable pub ledger_of : List Command → Ledger
ledger_of t =
    record {
      contracts = concat_map contract_in t;
      dates = concat_map date_in t;
      windows = concat_map window_in t;
      instructions = concat_map instruction_in t;
      defaults = concat_map default_in t;
      closed = any is_close t;
      reading = reading_of t;
    }

-- ---- the contract and its month, and zeros for what is not there

-- in place of a contract that is not there: zeros, so that the span is 0
abbrev pub no_contract : Contract
no_contract =
    record {
      days = 0;
      kind = 0;
      service = 0;
      contracted = record { 0 = pos 0 };
      rampup = 0;
      rampdown = 0;
      response = record { 0 = 0 };
      recovery = record { 0 = 0 };
      availability = 0;
      utilisation = 0;
      optional = 0;
    }

-- the contract of a ledger
unfoldable pub contract_of : Ledger → Contract
contract_of g = first no_contract g.contracts

-- the date of a ledger; zeros where it has none
unfoldable pub date_of : Ledger → Date
date_of g = first no_date g.dates

-- the minutes of a contract's month, as if undated
abbrev pub span_of : Contract → ℕ
span_of k = 1440 * k.days

-- the minutes of a contract's month with the hour that an October gains
abbrev pub full_span : Contract → Date → ℕ
full_span k d = span_of k + gained_in d.month

-- the span: the minutes of a ledger's month, with the hour that its date gains or loses
unfoldable pub span_in : Ledger → ℕ
span_in g = full_span (contract_of g) (date_of g) - lost_in (date_of g).month

-- 15: the minutes that lent memory must have room for: an hour more in an October, no less in a March
unfoldable pub cells_in : Ledger → ℕ
cells_in g = full_span (contract_of g) (date_of g)

-- in place of a window that is not there, and in an unused entry of a table: zeros; so for the two below
abbrev pub no_window : Window
no_window = record { start = record { 0 = 0 }; end = record { 0 = 0 }; verdict = 0 }

-- no instruction
abbrev pub no_instruction : Instruction
no_instruction = record { issue = record { 0 = 0 }; cease = record { 0 = 0 } }

-- no default
abbrev pub no_default : Default
no_default = record { minute = record { 0 = 0 }; kind = 0; reach = 0 }

-- ---- the times of an instruction, and a window's minutes

-- e: the response expires
abbrev pub expiry : Contract → Instruction → ℕ
expiry k i = i.issue.0 + k.response.0

-- e − U: the ramp up starts
abbrev pub ramp_start : Contract → Instruction → ℕ
ramp_start k i = expiry k i - up_minutes k

-- f: the end
abbrev pub end_of : Contract → Instruction → ℕ
end_of k i = i.cease.0 + down_minutes k

-- minute m is in window w
abbrev pub within : Window → ℕ → Bool
within w m = leb w.start.0 m && ltb m w.end.0
