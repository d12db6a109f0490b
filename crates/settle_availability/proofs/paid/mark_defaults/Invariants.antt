-- `settle_availability::paid::mark_defaults` meets its contract. The invariant: the tables are those of the defaults before this one. Assumes nothing.
use mathlib.Core.Path.{◌≡◌}
use lib.ListN.{length}
use Rattle.settle_availability.specs.Paid.{DefaultsMarked}
use Rattle.settle_availability.proofs.paid.mark_defaults.Given as goal

abbrev pub invariant-loop-d : goal.invariant-loop-d
invariant-loop-d l =
    DefaultsMarked l.live l.windows l.defaults l.d-index l.reached l.counted × (length l.reached ≡ length l.initial.reached)
    × (length l.counted ≡ length l.initial.counted)
