-- Proved of the rules: live totals never fall. Capped kWh and pence begin at 0, so that they are never below it either.
use Rattle.std.specs.Prelude.{◌≡◌, true, List, ℕ, ◌≤◌, ℤ, ◌≤ℤ◌}
use Rattle.commands.specs.declared.entries.Command.{Command}
use Rattle.commands.specs.declared.entries.Reading.{Reading}
use Rattle.rules.specs.Ledger.{ledger_of}
use Rattle.rules.specs.Refusal.{taken}
use Rattle.rules.specs.Segment.{complete}
use Rattle.watch_step.specs.Step.{step_of, totals_after}
use Rattle.watch_step.specs.declared.totals.Totals.{Totals}
use Rattle.watch.specs.Running.{running_of}

-- t has no less capped kWh and no less pence than s
pub record NoLess (s t : Totals) : Type 0 where
  pub capped : s.capped.0 ≤ℤ t.capped.0
  pub pence : s.pence.0 ≤ℤ t.pence.0

-- a step leaves no less, whatever it is given and whatever it answers
unfoldable pub StepRises·theorem : Type 0
StepRises·theorem = (month : List ℕ) (s : Totals) (n : ℕ) (r : Reading) (base : List ℤ) → NoLess s (totals_after s (step_of month s n r base))

-- and what the rules give for the active minutes of a month never falls: n of them, zeros where that is none, and as many or more
unfoldable pub Rising·theorem : Type 0
Rising·theorem =
    (size : ℕ) (cs : List Command)
    → complete (ledger_of (taken size cs)) ≡ true
    → (n m : ℕ)
    → n ≤ m
    → NoLess (running_of (ledger_of (taken size cs)) n) (running_of (ledger_of (taken size cs)) m)
