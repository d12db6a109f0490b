-- `settle_live::excluded` meets its contract. The invariant: the test so far is that of the ends so far. Assumes nothing.
use Rattle.std.proofs.Common.{◌≡◌}
use Rattle.settle_live.specs.Live.{past_to}
use Rattle.settle_live.proofs.excluded.Given as goal

abbrev pub invariant-loop-end : goal.invariant-loop-end
invariant-loop-end l = l.hit ≡ past_to l.ends l.t l.recovery.0 l.start.0 l.end-index
