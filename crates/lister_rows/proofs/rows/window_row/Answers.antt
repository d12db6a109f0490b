-- Each call puts a field behind the last, and there is room for all of them.
use native.Mathlib.Omega.{arith}
use mir.Syntax.{w64}
use mir.Val.{SFits}
use mir.Facts.{to_z-of_z}
use Rattle.lister_rows.specs.Rows.{window_row}
use Rattle.lister_rows.proofs.Digits.{count-length, decimal_digits, decimal_signed, signed_length}
use Rattle.lister_rows.proofs.Appending.{row_put}
use Rattle.lister_rows.proofs.rows.window_row.Goals as goal

pub returns : goal.returns
unfolding window_row
returns c =
    let a = c.args in
    let pence : SFits w64 a.a.pence.0 = omega arith in
    let n = decimal_digits a.n (omega (arith, c.ranges.n)) in
    let periods = decimal_digits a.a.periods (omega arith) in
    row_put _ _ (omega (
      arith,
      count-length a.n (omega (arith, c.ranges.n)),
      count-length a.a.periods (omega arith),
      signed_length a.a.pence.0 pence,
    )) (rw (
      c.put-2.ensures,
      c.amount-3.ensures,
      c.amount-2.ensures,
      c.amount.ensures,
      c.put.ensures,
      c.empty.ensures,
      to_z-of_z pence,
      n,
      periods,
      decimal_signed a.a.pence.0 pence,
    ))
