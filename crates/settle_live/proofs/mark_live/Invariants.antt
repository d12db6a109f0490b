-- `settle_live::mark_live` meets its contract. The invariant: the table is that of the first i windows. Assumes nothing.
use Rattle.std.proofs.Common.{◌≡◌, length}
use Rattle.settle_live.specs.Live.{is_live, LiveTable}
use Rattle.settle_live.proofs.mark_live.Given as goal

abbrev pub invariant-loop-i : goal.invariant-loop-i
invariant-loop-i l =
    (length l.live ≡ length l.initial.live) × LiveTable (is_live l.instructions l.t l.recovery.0) l.windows l.i l.live
