-- F1 to F12, by computation.
use mathlib.Core.Path.{refl}
use Rattle.rules.specs.Examples.{ledger}
use Rattle.rules.specs.Figures.{Figures}
use Rattle.rules.proofs.Definitions.{opened}

pub figures : Figures
unfolding opened ledger
figures =
    record {
      F1-taken = refl;
      F1-settled = refl;
      F1-lines = refl;
      F1-statement = refl;
      F2-capped = refl;
      F2-pence = refl;
      F3-120 = refl;
      F3-119 = refl;
      F4-120 = refl;
      F4-121 = refl;
      F5-up = refl;
      F5-down = refl;
      F6-end = refl;
      F6-live = refl;
      F7-live = refl;
      F8-one = refl;
      F8-pence = refl;
      F8-many = refl;
      F9-write = refl;
      F9-read = refl;
      F10-plus = refl;
      F10-minus = refl;
      F11-25 = refl;
      F11-lines = refl;
      F11-24 = refl;
      F12 = refl;
      lengths = refl;
    }
