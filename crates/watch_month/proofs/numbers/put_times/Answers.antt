-- `watch_month::numbers::put_times` meets its contract: five columns, one after the other. Assumes nothing.
use Rattle.std.proofs.Common.{rules}
use Rattle.watch_month.proofs.Laying.{times_laid}
use Rattle.watch_month.proofs.numbers.put_times.Goals as goal

pub returns : goal.returns
returns c =
    let a = c.args in
    times_laid a.t a.instructions.now c.requires.2 a.month.now c.requires.0 (c.put_column.ensures _ (λ x n p. search rules)) (c.put_column-2.ensures _ (λ x n p. search rules))
    (c.put_column-3.ensures _ (λ x n p. search rules)) (c.put_column-4.ensures _ (λ x n p. search rules)) (c.put_column-5.ensures _ (λ x n p. search rules))
