-- Proved of the rules: "The book": what the rules leave is left again by the commands that it is written as.
use Rattle.std.specs.Prelude.{◌≡◌, ℕ, ◌≤◌}
use Rattle.std.proofs.Math.Option.{some}
use Rattle.rules.specs.Ledger.{Ledger, Metered, ledger_of}
use Rattle.rules.specs.Refusal.{taken}
use Rattle.rules.specs.Reached.{Reached}
use Rattle.rules.specs.File.{written}

-- entered from nothing, with lent memory of this size, the commands that g is written as
pub record Rewritten (size : ℕ) (g : Ledger) : Type 0 where
  -- are all taken
  pub all_taken : taken size (written g) ≡ written g
  -- and leave g
  pub same : ledger_of (written g) ≡ g

-- revisions are bytes, which those that commands bring always are
abbrev pub Revised : Ledger → Type 0
Revised g = (m : ℕ) (x : Metered) → g.reading m ≡ some x → x.revision ≤ 255

-- so it is of every ledger that commands can leave
abbrev pub Rewritten·theorem : Type 0
Rewritten·theorem = (size : ℕ) (g : Ledger) → Reached size g → Revised g → Rewritten size g
