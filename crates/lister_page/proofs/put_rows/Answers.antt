-- The rows of the things passed are laid, and the next one goes behind them.
use mathlib.Core.Path.{refl, ◌∙◌}
use native.Mathlib.Omega.{arith}
use Rattle.energy.proofs.Puts.{laid_none, laid_both}
use Rattle.lister_page.specs.Page.{rows_of}
use Rattle.lister_page.proofs.Places.{rows_more}
use Rattle.lister_page.proofs.put_rows.Goals as goal

pub loop-i-init : goal.loop-i-init
unfolding rows_of
loop-i-init g c = record { near = omega arith; long = refl; laid = λ f calls. laid_none _ _ }

pub loop-i-preserved : goal.loop-i-preserved
loop-i-preserved g c =
    let l = c.loop-i in
    let x = c.index-things-i in
    record {
      near = omega (arith, l.invariant.near, c.put_row-place.ensures.near);
      long = c.put_row-place.auto.out ∙ l.invariant.long;
      laid = λ f calls.
          rw (rows_more f c.args.things.now l.i x.result c.loop-i-test.true x.is)
          (laid_both (omega (arith, l.invariant.near)) (l.invariant.laid f calls) (rw (calls _ _ _ c.row.ensures) at c.put_row-place.ensures.laid));
    }
