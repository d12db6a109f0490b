-- The examples of live totals, each by computation.
use mathlib.Core.Path.{refl}
use Rattle.rules.specs.Examples.{ledger}
use Rattle.rules.proofs.Definitions.{opened}
use Rattle.watch.specs.Running.{active_from, active_minutes, lines_to, minutes_to, running_at, running_of, so_far}
use Rattle.watch.specs.Examples.{Examples}

pub examples : Examples
unfolding opened ledger active_from active_minutes lines_to minutes_to running_at running_of so_far
examples =
    record {
      F1-before = refl;
      F1-20 = refl;
      F1-24 = refl;
      F1-25 = refl;
      F1-90 = refl;
      F1-minutes = refl;
      F2-20 = refl;
      F2-90 = refl;
      second-last = refl;
      second-first = refl;
      second_end = refl;
      period_ends = refl;
      period_begins = refl;
      ramp_before = refl;
      ramp_after = refl;
      later-day = refl;
      backwards = refl;
      backwards_next = refl;
      reducer_ends = refl;
      reducer_then = refl;
      no_more = refl;
    }
