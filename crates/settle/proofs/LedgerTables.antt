-- What it means that the terms, the instructions and the table of windows of a settlement are a ledger's: records which the laws of lines, of the
-- survey, of live windows and of availability share.
use mathlib.Core.Path.{◌≡◌}
use mathlib.Core.List.{List}
use Prim.Native.Nat.{ℕ, ◌+◌, ◌-◌, ◌≤◌, ◌<◌}
use lib.ListN.{length, get_or}
use Rattle.rules.specs.Ledger.{Ledger, contract_of, span_in, expiry, ramp_start, end_of}
use Rattle.rules.proofs.Cuts.{Timed}
use Rattle.commands.specs.declared.entries.Instruction.{Instruction}
use Rattle.commands.specs.declared.entries.Window.{Window}
use Rattle.book.specs.Book.{no_instruction, no_window}
use Rattle.book.proofs.SoundBook.{SoundWindow}
use Rattle.settle_terms.specs.declared.Terms.{Terms}
use Rattle.settle_terms.specs.Terms.{issue_of, cease_of}

-- instruction j of a ledger, from 0
abbrev pub instruction_at : Ledger → ℕ → Instruction
instruction_at g j = get_or g.instructions j no_instruction

-- window i of a ledger, from 0
abbrev pub window_at : Ledger → ℕ → Window
window_at g i = get_or g.windows i no_window

-- the times of instruction j are the ledger's
pub record TimesOf (g : Ledger) (t : Terms) (calls : List Instruction) (j : ℕ) : Type 0 where
  pub issue : issue_of calls j ≡ (instruction_at g j).issue.0
  pub expiry : issue_of calls j + t.response.0 ≡ expiry (contract_of g) (instruction_at g j)
  pub start : issue_of calls j + t.response.0 - t.upminutes.0 ≡ ramp_start (contract_of g) (instruction_at g j)
  pub cease : cease_of calls j ≡ (instruction_at g j).cease.0
  pub end : cease_of calls j + t.downminutes.0 ≡ end_of (contract_of g) (instruction_at g j)
  pub spanned : cease_of calls j + t.downminutes.0 ≤ span_in g
  pub timed : Timed (contract_of g) (instruction_at g j)

-- the terms and the instructions are the ledger's
pub record TermsOf (g : Ledger) (t : Terms) (calls : List Instruction) : Type 0 where
  pub response : t.response.0 ≡ (contract_of g).response.0
  pub count : length calls ≡ length g.instructions
  pub each : (j : ℕ) → j < length calls → TimesOf g t calls j

-- the first n windows of a table are the ledger's, each of whole periods, one after the other
pub record WindowsOf (g : Ledger) (ws : List Window) (n : ℕ) : Type 0 where
  pub few : n ≤ 128
  pub count : n ≡ length g.windows
  pub window : (i : ℕ) → i < n → get_or ws i no_window ≡ window_at g i
  pub each : (i : ℕ) → i < n → SoundWindow (span_in g) (window_at g i)
  pub apart : (i j : ℕ) → i < j → j < n → (window_at g i).end.0 ≤ (window_at g j).start.0
