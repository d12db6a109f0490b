-- `watch_step::month::Month::of` meets its contract: what the test tells is what a month keeps. Assumes nothing.
use mathlib.Core.Path.{sym, ◌∙◌}
use Rattle.watch_step.proofs.Fits.{month-fit}
use Rattle.watch_step.proofs.month.Month.of.Goals as goal

pub invariant_of-result : goal.invariant_of-result
invariant_of-result c =
    let f = month-fit c.args.numbers.now (sym c.month_fits.ensures ∙ c.if-month_fits.true) in
    record { long = f.long; kw = f.kw; utilisation = f.utilisation; optional = f.optional; instructions = f.instructions }
