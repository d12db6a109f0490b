-- `watch_month::numbers::put_month` meets its contract: figures, columns and periods, one after the other. Assumes nothing.
use Rattle.watch_month.proofs.Laying.{month_laid_lem}
use Rattle.watch_month.proofs.numbers.put_month.Goals as goal

pub returns : goal.returns
returns c =
    let a = c.args in
    month_laid_lem a.t a.instructions.now c.requires.2 a.live.now a.month.now c.requires.0 c.put_figures.ensures c.put_times.ensures c.put_periods.ensures
