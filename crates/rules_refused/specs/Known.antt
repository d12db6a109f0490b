-- Proved of the rules: each number under which a call is turned down is that of the refusal that stands for it, so that "refused under n" says this
-- number and no other.
use Rattle.std.specs.Prelude.{◌≡◌, Bool, ℕ}
use Rattle.std.proofs.Math.Option.{some}
use Rattle.commands.specs.Input.{first_met}
use Rattle.commands.specs.Refusals.{number_of, refusal_of}
use Rattle.commands.specs.declared.entries.Command.{Command}
use Rattle.rules.specs.Ledger.{Ledger}
use Rattle.rules.specs.Refusal.{refusal}
use Rattle.rules.specs.Statement.{settle_refusal}
use Rattle.rules.specs.File.{write_conditions}

-- n is the number of the refusal that stands for it
abbrev pub Known : ℕ → Type 0
Known n = number_of (refusal_of n) ≡ n

-- whatever the command, the book and the memory
pub record NumbersKnown : Type 0 where
  -- the reader's two
  pub unknown_command : Known 1
  pub cut_off : Known 2
  -- what a command is turned down under
  pub command : (unsound : Bool) (size : ℕ) (g : Ledger) (c : Command) (n : ℕ) → refusal unsound size g c ≡ some n → Known n
  -- what settling is
  pub settling : (unsound : Bool) (size room : ℕ) (g : Ledger) (n : ℕ) → settle_refusal unsound size room g ≡ some n → Known n
  -- and what writing is
  pub writing : (unsound : Bool) (size room : ℕ) (g : Ledger) (n : ℕ) → first_met (write_conditions unsound size room g) ≡ some n → Known n
