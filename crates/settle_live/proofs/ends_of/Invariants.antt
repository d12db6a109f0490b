-- `settle_live::ends_of` meets its contract. The invariant: the first i ends stand. Assumes nothing.
use Rattle.std.proofs.Common.{◌≡◌, ◌+◌, ◌<◌, ℕ, length, get_or}
use Rattle.settle_terms.specs.Terms.{cease_of}
use Rattle.settle_live.proofs.ends_of.Given as goal

abbrev pub invariant-loop-i : goal.invariant-loop-i
invariant-loop-i l =
    (length l.ends ≡ 64) × ((j : ℕ) → j < l.i → get_or l.ends j 0 ≡ cease_of l.instructions j + l.t.downminutes.0)
