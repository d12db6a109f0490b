-- `settle_survey::all_read` meets its contract. The test so far is that of the minutes passed. Assumes nothing.
use Rattle.std.proofs.Common.{◌≡◌, ◌+◌}
use Rattle.energy.specs.Lists.{all, between}
use Rattle.settle_survey.specs.Survey.{has}
use Rattle.settle_survey.proofs.all_read.Given as goal

abbrev pub invariant-loop-x : goal.invariant-loop-x
invariant-loop-x l = l.ok ≡ all (has l.meter) (between l.from (l.from + l.x-index))
