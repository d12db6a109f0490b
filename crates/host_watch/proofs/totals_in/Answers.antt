-- `host_watch::totals_in` meets its contract: each number is read where its test holds, and one that is not decides alone. Assumes nothing.
use mathlib.Core.Path.{refl}
use mathlib.Core.Bool.{and-false}
use lib.ListN.{length}
use borrow.Author.Rules.{rules}
use borrow.Author.Tests.{le-leb, lt-leb}
use mir.Syntax.{w64}
use mir.Val.{SFits}
use mir.Facts.{to_z-of_z}
use Rattle.energy.specs.Energy.{cell}
use Rattle.host_watch.specs.StepNumbers.{are_totals, totals_in, total_count}
use Rattle.host_watch.proofs.TotalsHeld.{unsigned_read, unsigned_refused, sum_read, sum_refused}
use Rattle.host_watch.proofs.totals_in.Goals as goal

pub returns-in_default : goal.returns-in_default
unfolding are_totals
returns-in_default c = rw (lt-leb total_count (length c.args.totals.now) c.in_default.len_below) refl

pub returns-in_err-instruction : goal.returns-in_err-instruction
unfolding are_totals
returns-in_err-instruction c =
    let no = unsigned_refused 32 4294967295 refl (cell c.args.totals.now 0) (search rules) _ c.try_from.ensures c.in_err-instruction.ensures.value in
    rw c.from_residual.ensures (rw (no, and-false) refl)

pub returns-in_err-minute : goal.returns-in_err-minute
unfolding are_totals
returns-in_err-minute c =
    let no = unsigned_refused 16 65535 refl (cell c.args.totals.now 1) (search rules) _ c.try_from-2.ensures c.in_err-minute.ensures.value in
    rw c.from_residual-in_err-minute.ensures (rw (no, and-false) refl)

pub returns-in_err-base : goal.returns-in_err-base
unfolding are_totals
returns-in_err-base c =
    let no = sum_refused (cell c.args.totals.now 2) (search rules) _ c.try_from-3.ensures c.in_err-base.ensures.value in
    rw c.from_residual-in_err-base.ensures (rw (no, and-false) refl)

pub returns-in_err-expected : goal.returns-in_err-expected
unfolding are_totals
returns-in_err-expected c =
    let no = sum_refused (cell c.args.totals.now 3) (search rules) _ c.try_from-4.ensures c.in_err-expected.ensures.value in
    rw c.from_residual-in_err-expected.ensures (rw (no, and-false) refl)

pub returns-in_err-delivered : goal.returns-in_err-delivered
unfolding are_totals
returns-in_err-delivered c =
    let no = sum_refused (cell c.args.totals.now 4) (search rules) _ c.try_from-5.ensures c.in_err-delivered.ensures.value in
    rw c.from_residual-in_err-delivered.ensures (rw (no, and-false) refl)

pub returns : goal.returns
unfolding are_totals totals_in
returns c =
    let xs = c.args.totals.now in
    let f5 : SFits w64 (cell xs 5) = search rules in
    let f6 : SFits w64 (cell xs 6) = search rules in
    let t0 = unsigned_read 32 4294967295 refl (cell xs 0) (search rules) _ c.try_from.ensures _ c.in_ok-instruction.ensures.value in
    let t1 = unsigned_read 16 65535 refl (cell xs 1) (search rules) _ c.try_from-2.ensures _ c.in_ok-minute.ensures.value in
    let t2 = sum_read (cell xs 2) (search rules) _ c.try_from-3.ensures _ c.in_ok-base.ensures.value in
    let t3 = sum_read (cell xs 3) (search rules) _ c.try_from-4.ensures _ c.in_ok-expected.ensures.value in
    let t4 = sum_read (cell xs 4) (search rules) _ c.try_from-5.ensures _ c.in_ok-delivered.ensures.value in (
      rw (le-leb total_count (length xs) c.in-len7-up.len_at_least, t0.0, t1.0, t2.0, t3.0, t4.0) refl,
      rw (t0.1, t1.1, t2.1, t3.1, t4.1, to_z-of_z f5, to_z-of_z f6) refl,
    )
