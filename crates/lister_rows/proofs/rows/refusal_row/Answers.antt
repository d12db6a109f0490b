-- Each call puts a field behind the last, and there is room for all of them.
use native.Mathlib.Omega.{arith}
use Rattle.lister_rows.specs.Rows.{refusal_row}
use Rattle.lister_rows.proofs.Digits.{count-length, decimal_digits, digits-length}
use Rattle.lister_rows.proofs.Appending.{row_put}
use Rattle.lister_rows.proofs.rows.refusal_row.Goals as goal

pub returns : goal.returns
unfolding refusal_row
returns c =
    let a = c.args in
    let number = decimal_digits a.number (omega (arith, c.ranges.number)) in
    let offset = decimal_digits a.offset (omega (arith, c.ranges.offset)) in
    row_put _ _ (omega (
      arith,
      count-length a.number (omega (arith, c.ranges.number)),
      digits-length a.offset 19 (omega (arith, c.ranges.offset)),
    )) (rw (c.put-2.ensures, c.amount-2.ensures, c.amount.ensures, c.put.ensures, c.empty.ensures, number, offset))
