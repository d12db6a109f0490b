-- `settle_availability::paid::paid_periods` meets its contract: without defaults no place is marked, so that all of them count. Assumes nothing.
use mathlib.Core.Path.{sym}
use Rattle.settle_availability.proofs.Defaults.{all_counted}
use Rattle.settle_availability.proofs.paid.paid_periods.Goals as goal

pub returns-then-defaults-eq0 : goal.returns-then-defaults-eq0
returns-then-defaults-eq0 c =
    (rw c.if-not-shown.false (sym (all_counted c.args.reached.now (c.requires.1 c.if-defaults-eq0.true))), c.requires.0)
