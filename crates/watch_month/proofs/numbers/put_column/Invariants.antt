-- `watch_month::numbers::put_column` meets its contract. The invariant: the times of the first j instructions are laid. Assumes nothing.
use Rattle.std.proofs.Common.{◌≡◌, ℕ}
use Rattle.commands.specs.declared.entries.Instruction.{Instruction}
use Rattle.watch_month.proofs.Laying.{Filled, place_by}
use Rattle.watch_month.proofs.numbers.put_column.Given as goal

abbrev pub invariant-loop-j : goal.invariant-loop-j
invariant-loop-j g l =
    (f : Instruction → ℕ) → ((x : Instruction) (n : ℕ) → goal.F-post g l.time x n → n ≡ f x)
    → Filled (place_by f l.instructions) l.initial.month l.from l.j l.month
