-- The ends of instructions, side by side, exclude what the instructions do.
use Rattle.std.proofs.Common.{◌≡◌, refl, List, ℕ, zero, suc, ◌≤◌, length, arith}
use Rattle.commands.specs.declared.entries.Instruction.{Instruction}
use Rattle.settle_terms.specs.declared.Terms.{Terms}
use Rattle.settle_live.specs.Live.{Ends, excluded_to, past_to}

module _ (calls : List Instruction) (t : Terms) (ends : List ℕ) (E : Ends calls t ends) (recovery start : ℕ) where
  pub past_excluded : (n : ℕ) → n ≤ length calls → past_to ends t recovery start n ≡ excluded_to calls t recovery start n
  past_excluded zero h = refl
  past_excluded (suc n) h = rw (past_excluded n (omega arith), E n (omega arith)) refl
