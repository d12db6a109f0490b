-- Days by example, by computation.
use Rattle.calendar.specs.Calendar.{days_of, day_number}
use Rattle.rules.proofs.Definitions.{opened}
use Rattle.working_days.specs.Days.{day_in}
use Rattle.working_days.specs.Examples.{DayExamples}

pub day_examples : DayExamples
unfolding opened days_of day_number day_in
day_examples = search
