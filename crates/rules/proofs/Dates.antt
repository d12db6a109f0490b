-- The examples of months with a date, by computation.
use mathlib.Core.Path.{refl}
use Rattle.rules.specs.Dates.{Spans, DatesHeld, DatesMet, DatesWritten}
use Rattle.rules.proofs.Definitions.{opened}

pub spans : Spans
unfolding opened
spans =
    record {
      march_span = refl;
      march_cells = refl;
      october_span = refl;
      october_cells = refl;
      january_span = refl;
      january_cells = refl;
      undated_span = refl;
      undated_cells = refl;
      empty_span = refl;
      empty_cells = refl;
    }

pub dates_held : DatesHeld
unfolding opened
dates_held = record { held = refl; one = refl; zeros = refl }

pub dates_met : DatesMet
unfolding opened
dates_met =
    record {
      no_day = refl;
      day = refl;
      october_room = refl;
      march_room = refl;
      october_book = refl;
      march_book = refl;
      again = refl;
      window = refl;
      instruction = refl;
      reading = refl;
      revision = refl;
      second = refl;
      short = refl;
      march_last = refl;
      march_past = refl;
      october_last = refl;
      october_past = refl;
    }

pub dates_written : DatesWritten
unfolding opened
dates_written = record { bytes = refl }
