-- `watch_step::totals::totals_fit` meets its contract: each call answers one test of the chain. Assumes nothing.
use mathlib.Core.Path.{◌≡◌}
use mathlib.Core.Bool.{Bool, ◌&&◌}
use Prim.Native.Nat.{◌+◌, ◌*◌, ◌%◌}
use native.Mathlib.Omega.{arith}
use lib.IntN.{pos}
use mir.Syntax.{w32, w64}
use mir.Val.{SFits}
use mir.Facts.{to_z-of_z}
use Rattle.commands.specs.Input.{from_to_ℤ}
use Rattle.watch_step.specs.Step.{about, totals_fit}
use Rattle.watch_step.specs.declared.totals.Totals.{Totals}
use Rattle.watch_step.proofs.Widths.{plain}
use Rattle.watch_step.proofs.totals.totals_fit.Goals as goal

tested : (s : Totals) (b x d c p : Bool) → b ≡ about 2000000 s.base → x ≡ from_to_ℤ (pos 0) (pos (2000000 * (s.minute.0 % 30 + 1))) s.expected
    → d ≡ about (4000000 * (s.minute.0 % 30 + 1)) s.delivered → c ≡ about (500000 * (s.minute.0 + 1)) s.capped.0
    → p ≡ about (500000000 * (s.minute.0 + 1)) s.pence.0 → (b && x && d && c && p) ≡ totals_fit s
unfolding totals_fit
tested s b x d c p eb ex ed ec ep = rw (eb, ex, ed, ec, ep)

pub returns : goal.returns
returns c =
    let s = c.args.s in
    let base : SFits w32 s.base = omega arith in
    let expected : SFits w32 s.expected = omega arith in
    let delivered : SFits w32 s.delivered = omega arith in
    let capped : SFits w64 s.capped.0 = omega arith in
    let pence : SFits w64 s.pence.0 = omega arith in
    tested s _ _ _ _ _ (rw (plain s.base base) at c.is_about.ensures) (rw (plain s.expected expected) at c.is_upto.ensures)
    (rw (plain s.delivered delivered) at c.is_about-2.ensures) (rw (to_z-of_z capped) at c.is_about-3.ensures)
    (rw (to_z-of_z pence) at c.is_about-4.ensures)
