-- The examples of corrected readings, by computation.
use mathlib.Core.Path.{refl}
use Rattle.rules.specs.Examples.{ledger}
use Rattle.rules.specs.Revisions.{RevisionsTaken, RevisionsHeld, RevisionsWritten, RevisionsSettled}
use Rattle.rules.proofs.Definitions.{opened}

pub revisions_taken : RevisionsTaken
unfolding opened ledger
revisions_taken =
    record {
      bare = refl;
      plain = refl;
      equal = refl;
      lower = refl;
      next = refl;
      most = refl;
      beside = refl;
      plain_after = refl;
      refused_before = refl;
      second_day = refl;
    }

pub revisions_held : RevisionsHeld
unfolding opened ledger
revisions_held = record { bare = refl; plain = refl; greater = refl; refused = refl }

pub revisions_written : RevisionsWritten
unfolding opened ledger
revisions_written = record { bytes = refl }

pub revisions_settled : RevisionsSettled
unfolding opened ledger
revisions_settled = record { active = refl; total = refl; base = refl; complete = refl; missing = refl }
