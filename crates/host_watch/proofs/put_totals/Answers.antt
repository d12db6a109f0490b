-- `host_watch::put_totals` meets its contract: seven stores from the front are the totals. Assumes nothing.
use mathlib.Core.Path.{refl, ◌∙◌}
use mathlib.Core.List.{[], ◌∷◌}
use native.Mathlib.Omega.{arith}
use lib.Seq.{sets-eq}
use mir.Syntax.{w32, w64}
use mir.Val.{SFits}
use mir.Facts.{to_z-of_z}
use mir.ValLaws.{to_z_pos}
use Rattle.watch_step.proofs.Widths.{plain}
use Rattle.host_watch.proofs.put_totals.Goals as goal

pub returns : goal.returns
returns c =
    let s = c.args.s in
    let base : SFits w32 s.base = omega arith in
    let expected : SFits w32 s.expected = omega arith in
    let delivered : SFits w32 s.delivered = omega arith in
    let capped : SFits w64 s.capped.0 = omega arith in
    let pence : SFits w64 s.pence.0 = omega arith in
    sets-eq (_ ∷ _ ∷ _ ∷ _ ∷ _ ∷ _ ∷ _ ∷ []) c.args.totals.now 0 c.requires
    ∙ rw (
      to_z_pos w64 s.instruction (omega arith),
      to_z_pos w64 s.minute.0 (omega arith),
      plain s.base base,
      plain s.expected expected,
      plain s.delivered delivered,
      to_z-of_z capped,
      to_z-of_z pence,
    )
    refl
