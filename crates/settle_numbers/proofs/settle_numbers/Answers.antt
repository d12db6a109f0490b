-- `settle_numbers::settle_numbers` meets its contract: `check_book` decides before a number is written, each turn stores the line of the segment that comes
-- next, and `sum_up` adds the lines' sums to the statement.
use Rattle.std.proofs.Common.{◌≡◌, ◌∙◌, ◌+◌, ◌-◌, ◌*◌, ◌++◌, drop, refl, ap, sym, add-one, arith, rules}
use Rattle.std.specs.Prelude.{Ok}
use Rattle.book_memory.specs.Lent.{held}
use Rattle.energy.specs.Lists.{concat_map, run, between}
use Rattle.settle.specs.Prepared.{summed, prepared_cursor, prepared_line}
use Rattle.rules.proofs.Folds.{length_mapped}
use Rattle.settle.proofs.Outcome.{laid_out, sound_agreed}
use Rattle.settle.proofs.Refusal.{handed}
use Rattle.settle_numbers.specs.Numbers.{SettledAsNumbers}
use Rattle.settle_numbers.proofs.LinesAsNumbers.{numbers_to, put_next, settles, refuses}
use Rattle.settle_numbers.proofs.settle_numbers.Goals as goal

pub lay_out-p-requires : goal.lay_out-p-requires
lay_out-p-requires c = let s = sound_agreed c.in_ok-n.ensures in (s.0, s.1, search (length_mapped, rules))

pub invariant_of-walk : goal.invariant_of-walk
invariant_of-walk c = record { plan = (laid_out (search (length_mapped, rules)) c.in_ok-n.ensures c.lay_out-p.ensures).plan }

pub step-s-requires : goal.step-s-requires
step-s-requires c =
    let P = laid_out (search (length_mapped, rules)) c.in_ok-n.ensures c.lay_out-p.ensures in
    let l = c.loop-k in
    rw l.invariant.0 (P.ready l.k (omega (arith, c.lay_out-p.ensures.lines)))

pub sum_up-requires : goal.sum_up-requires
sum_up-requires c =
    let P = laid_out (search (length_mapped, rules)) c.in_ok-n.ensures c.lay_out-p.ensures in
    let l = c.loop-k in
    let e : l.k ≡ c.lay_out-p.result.statement.lines = omega (arith, c.lay_out-p.ensures.lines, c.in_ok-n.ensures.few) in
    (rw (l.invariant.0, e) P.sums.0, P.sums.1)

pub returns-in_err-n : goal.returns-in_err-n
returns-in_err-n c =
    let a = c.args in
    let e = refuses a.b (held a.memory) a.numbers.now _ c.in_err-n.ensures in
    record {
      value = handed _ c.from_residual.ensures.1 ∙ ap (λ (s : SettledAsNumbers). s.answer) (sym e);
      numbers_after = ap (λ (s : SettledAsNumbers). s.memory) (sym e);
    }

pub loop-k-init : goal.loop-k-init
unfolding concat_map between run
loop-k-init c = (c.first-c.ensures, refl)

pub loop-k-preserved : goal.loop-k-preserved
loop-k-preserved c =
    let a = c.args in
    let l = c.loop-k in
    let x = rw l.invariant.0 at c.step-s.ensures in
    let row = rw x at (c.copy_from_slice.ensures.after ∙ c.numbers_of.ensures) in (
      rw (x, add-one l.k) refl,
      put_next (prepared_line a.b c.lay_out-p.result a.memory.meter.now) l.k (8 * l.k + 8 - 8 * l.k) a.numbers.now l.numbers _ (omega arith) l.invariant.1 row,
    )

pub returns : goal.returns
returns c =
    let a = c.args in
    let l = c.loop-k in
    let n = c.lay_out-p.result.statement.lines in
    let e : l.k ≡ n = omega (arith, c.lay_out-p.ensures.lines) in
    let s = settles a.numbers.now (laid_out (search (length_mapped, rules)) c.in_ok-n.ensures c.lay_out-p.ensures) in
    record {
      value =
          ap Ok (c.sum_up.ensures ∙ ap (summed c.lay_out-p.result.statement) (l.invariant.0 ∙ ap (prepared_cursor a.b c.lay_out-p.result a.memory.meter.now) e))
          ∙ ap (λ (s : SettledAsNumbers). s.answer) s;
      numbers_after =
          l.invariant.1 ∙ ap (λ k. numbers_to (prepared_line a.b c.lay_out-p.result a.memory.meter.now) k ++ drop (8 * k) a.numbers.now) e
          ∙ ap (λ (s : SettledAsNumbers). s.memory) s;
    }
