-- `settle_lines::cursor::Walk::step` meets its contract: the segment at the cursor is what `Next` says of it, and the two ways on are the definition's. Assumes
-- nothing.
use Rattle.std.proofs.Common.{sym, subst}
use Rattle.energy.specs.Energy.{Readable}
use Rattle.settle_lines.proofs.Step.{next}
use Rattle.settle_lines.proofs.cursor.Walk.step.Goals as goal

pub line_of-line-requires-clause-readable : goal.line_of-line-requires-clause-readable
line_of-line-requires-clause-readable c =
    let a = c.args in
    subst (λ z. Readable a.self.meter.now a.c.minute.0 z) (sym c.segment_end-to.ensures) (next a.self.plan c.requires).readable

pub line_of-line-requires-clause-within : goal.line_of-line-requires-clause-within
line_of-line-requires-clause-within c = (next c.args.self.plan c.requires).base
