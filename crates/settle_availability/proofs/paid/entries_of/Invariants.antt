-- `settle_availability::paid::entries_of` meets its contract. The invariant: the entries and the periods are those of the first i windows. Assumes nothing.
use mathlib.Core.Path.{◌≡◌}
use Prim.Native.Nat.{◌*◌, ◌≤◌}
use lib.IntN.{nat_abs}
use Rattle.settle_terms.specs.Terms.{most_periods}
use Rattle.settle_availability.specs.Paid.{marked, entries_to, periods_to}
use Rattle.settle_availability.proofs.paid.entries_of.Given as goal

abbrev pub invariant-loop-i : goal.invariant-loop-i
invariant-loop-i l =
    (l.entries ≡ entries_to l.live (marked l.reached) (nat_abs l.each.0) l.windows l.i)
    × (l.total ≡ periods_to l.live (marked l.reached) l.windows l.i)
    × (l.total ≤ most_periods * l.i)
