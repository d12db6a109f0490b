-- `host_day::answer_day` meets its contract, whatever memory is lent.
use mathlib.Core.Path.{ap, ◌∙◌}
use Rattle.host_day.specs.DayAnswer.{day_answer}
use Rattle.host_day.proofs.answer_day.Goals as goal

pub returns : goal.returns
returns c meter = c.answer_of.ensures ∙ ap day_answer (c.day_of.ensures meter)
