-- `settle_survey::survey_all` meets its contract. The invariant: the survey is that of the instructions so far, and its count is bounded. Assumes nothing.
use Rattle.std.proofs.Common.{◌≡◌, ◌*◌, ◌≤◌}
use Rattle.settle_survey.specs.Survey.{survey_to}
use Rattle.settle_survey.proofs.survey_all.Given as goal

abbrev pub invariant-loop-x : goal.invariant-loop-x
invariant-loop-x l = (l.s.count ≤ 3000000 * l.x-index) × (l.s ≡ survey_to l.t l.instructions l.meter l.x-index)
