-- `watch_step::step::base_now` meets its contract: the sum of four readings fits. Assumes nothing.
use mir.Syntax.{w32}
use mir.Val.{SFits}
use mir.Facts.{to_z-of_z}
use Rattle.watch_step.proofs.Fits.{base_readable, base_within}
use Rattle.watch_step.proofs.step.base_now.Goals as goal

pub returns-then-new : goal.returns-then-new
returns-then-new c =
    let f : SFits w32 c.total.result = record { sfits = c.total.type_inv } in
    let base = c.args.base.now in
    rw (to_z-of_z f) (rw c.if-new.true c.total.ensures, rw c.total.ensures (base_within base (c.requires.0 c.if-new.true)))

pub total-requires : goal.total-requires
total-requires c = base_readable c.args.base.now (c.requires.0 c.if-new.true)
