-- `settle_availability::paid::mark_default` meets its contract: the laws of `Defaults` put together what was found of the default, its window's number,
-- the window and the places that it reaches. Assumes nothing.
use mathlib.Core.Path.{sym, ◌∙◌, ap}
use lib.ListN.{get_or}
use Rattle.settle_availability.proofs.Defaults.{default_counted, default_reached}
use Rattle.settle_availability.proofs.paid.mark_default.Goals as goal

pub returns-then-counts_for_p : goal.returns-then-counts_for_p
returns-then-counts_for_p c =
    let a = c.args in
    let r = c.reach_of-reach.ensures in
    default_counted a.live.now a.windows.now a.d a.reached.now c.fill.new.self _ _ _ c.requires.0 c.if-number-eq0.false
    (c.number_at-number.ensures ∙ ap (λ z. get_or a.live.now z 0) c.place_of.ensures) r.0 r.1 (c.fill.ensures.after (λ y q. q)) a.counted.now c.requires.1
    (sym c.counts_for_p.ensures ∙ c.if-counts_for_p.true)

pub returns-else-counts_for_p : goal.returns-else-counts_for_p
returns-else-counts_for_p c =
    let a = c.args in
    let r = c.reach_of-reach.ensures in
    default_reached a.live.now a.windows.now a.d a.reached.now c.fill.new.self _ _ _ c.requires.0 c.if-number-eq0.false
    (c.number_at-number.ensures ∙ ap (λ z. get_or a.live.now z 0) c.place_of.ensures) r.0 r.1 (c.fill.ensures.after (λ y q. q)) a.counted.now
    (sym c.counts_for_p.ensures ∙ c.if-counts_for_p.false)
