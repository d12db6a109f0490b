-- Each call puts a field behind the last, and a line of these types has at most 112 bytes.
use native.Mathlib.Omega.{arith}
use mir.Syntax.{w64}
use mir.Val.{SFits}
use mir.Facts.{to_z-of_z}
use Rattle.lister_rows.specs.Rows.{line_row}
use Rattle.lister_rows.proofs.Digits.{count-length, decimal_digits, decimal_signed, signed_length}
use Rattle.lister_rows.proofs.Appending.{row_put}
use Rattle.lister_rows.proofs.rows.line_row.Goals as goal

pub returns : goal.returns
unfolding line_row
returns c =
    let l = c.args.l in
    let instruction = decimal_digits l.instruction (omega arith) in
    let period = decimal_digits l.period (omega arith) in
    let expected : SFits w64 l.expected.0 = omega arith in
    let delivered : SFits w64 l.delivered.0 = omega arith in
    let capped : SFits w64 l.capped.0 = omega arith in
    let pence : SFits w64 l.pence.0 = omega arith in
    row_put _ _ (omega (
      arith,
      count-length l.instruction (omega arith),
      count-length l.period (omega arith),
      signed_length l.expected.0 expected,
      signed_length l.delivered.0 delivered,
      signed_length l.capped.0 capped,
      signed_length l.pence.0 pence,
    ))
    (rw (
      c.put-2.ensures,
      c.amount-6.ensures,
      c.amount-5.ensures,
      c.amount-4.ensures,
      c.amount-3.ensures,
      c.letter-2.ensures,
      c.letter.ensures,
      c.amount-2.ensures,
      c.amount.ensures,
      c.put.ensures,
      c.empty.ensures,
      c.rate_letter-rate.ensures,
      c.stage_letter-stage.ensures,
      instruction,
      period,
    ) (simp (to_z-of_z, expected, delivered, capped, pence, decimal_signed)))
