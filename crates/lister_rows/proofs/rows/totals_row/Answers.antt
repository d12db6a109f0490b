-- Each call puts a field behind the last, and there is room for all of them.
use native.Mathlib.Omega.{arith}
use mir.Syntax.{w64}
use mir.Val.{SFits}
use mir.Facts.{to_z-of_z}
use Rattle.lister_rows.specs.Rows.{totals_row}
use Rattle.lister_rows.proofs.Digits.{decimal_signed, signed_length}
use Rattle.lister_rows.proofs.Appending.{row_put}
use Rattle.lister_rows.proofs.rows.totals_row.Goals as goal

pub returns : goal.returns
unfolding totals_row
returns c =
    let s = c.args.s in
    let capped : SFits w64 s.capped.0 = omega arith in
    let utilisation : SFits w64 s.utilisation.0 = omega arith in
    let availability : SFits w64 s.availability.0 = omega arith in
    let total : SFits w64 s.total.0 = omega arith in
    row_put _ _ (omega (
      arith,
      signed_length s.capped.0 capped,
      signed_length s.utilisation.0 utilisation,
      signed_length s.availability.0 availability,
      signed_length s.total.0 total,
    )) (rw (
      c.put-2.ensures,
      c.amount-4.ensures,
      c.amount-3.ensures,
      c.amount-2.ensures,
      c.amount.ensures,
      c.put.ensures,
      c.empty.ensures,
    ) (simp (to_z-of_z, capped, utilisation, availability, total, decimal_signed)))
