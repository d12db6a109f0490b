-- `energy::quarters::total` meets its contract. The sum so far is the sum over the minutes passed. Assumes nothing.
use mathlib.Core.Path.{◌≡◌}
use Prim.Native.Nat.{◌+◌}
use Rattle.energy.specs.Lists.{sum as sum_of, between}
use Rattle.energy.specs.Energy.{cell}
use Rattle.energy.proofs.quarters.total.Given as goal

abbrev pub invariant-loop-reading : goal.invariant-loop-reading
invariant-loop-reading l = l.sum ≡ sum_of (cell l.meter) (between l.from (l.from + l.reading-index))
