-- `working_days::is_off` meets its contract: past a Sunday the holidays decide.
use Rattle.std.proofs.Common.{sym, ◌∙◌}
use Rattle.working_days.proofs.Among.{among}
use Rattle.working_days.proofs.is_off.Goals as goal

pub returns-else-sunday : goal.returns-else-sunday
returns-else-sunday c =
    let no = sym c.is_sunday-sunday.ensures ∙ c.if-sunday.false in
    rw (no, ← c.from.ensures) (c.contains.ensures.value ∙ among c.from.result c.args.holidays.now)
