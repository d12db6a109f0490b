-- `settle_records::lent::settle` meets its contract: a turn's line is that of the cursor before it, and what is stored after the last is what was prepared for.
-- Assumes nothing.
use Rattle.std.proofs.Common.{◌≡◌, ◌∙◌, refl, ap, sym, ℕ, ◌+◌, List, set, length, add-one, arith, rules}
use Rattle.std.proofs.lemmas.List.{length-take-le}
use Rattle.book_memory.specs.Lent.{held}
use Rattle.settle_lines.proofs.Step.{stored_part}
use Rattle.std.specs.Prelude.{Ok}
use Rattle.rules.specs.declared.statement.Line.{Line}
use Rattle.settle.specs.Settle.{Settled}
use Rattle.settle.proofs.Refusal.{handed}
use Rattle.rules.proofs.Folds.{length_mapped}
use Rattle.settle.specs.Prepared.{Prepares, prepared_line}
use Rattle.settle_lines.specs.Cursor.{stored}
use Rattle.settle.proofs.Outcome.{laid_out, sound_agreed, settled_answer, settled_memory, refused}
use Rattle.settle_records.proofs.lent.settle.Goals as goal

-- one line more is stored
stored_next : (f : ℕ → Line) (n : ℕ) (ys zs : List Line) {l : Line} → zs ≡ stored f n ys → l ≡ f n → set zs n l ≡ stored f (n + 1) ys
stored_next f n ys zs e h = rw (add-one n, e, h) refl

pub returns-in_err-n : goal.returns-in_err-n
returns-in_err-n c =
    let a = c.args in
    let e = refused a.b (held a.memory) a.lines.now _ c.in_err-n.ensures in
    record { value = handed _ c.from_residual.ensures.1 ∙ ap (λ (s : Settled). s.answer) (sym e); lines_after = ap (λ (s : Settled). s.memory) (sym e) }

pub lay_out-p-requires : goal.lay_out-p-requires
lay_out-p-requires c = let s = sound_agreed c.in_ok-n.ensures in (s.0, s.1, search (length_mapped, rules))

pub invariant_of-walk : goal.invariant_of-walk
invariant_of-walk c = record { plan = (laid_out (search (length_mapped, rules)) c.in_ok-n.ensures c.lay_out-p.ensures).plan }

pub step-s-requires : goal.step-s-requires
step-s-requires c =
    let P = laid_out (search (length_mapped, rules)) c.in_ok-n.ensures c.lay_out-p.ensures in
    let l = c.loop-slot in
    rw l.invariant.0 (P.ready l.slot-index (omega (arith, c.lay_out-p.ensures.lines, length-take-le c.in_ok-n.n c.args.lines.now c.in_ok-n.ensures.few)))

pub sum_up-requires : goal.sum_up-requires
sum_up-requires c =
    let P = laid_out (search (length_mapped, rules)) c.in_ok-n.ensures c.lay_out-p.ensures in
    let l = c.loop-slot in
    let e : l.slot-index ≡ c.lay_out-p.result.statement.lines = omega (arith, c.lay_out-p.ensures.lines, length-take-le c.in_ok-n.n c.args.lines.now c.in_ok-n.ensures.few) in
    (rw (l.invariant.0, e) P.sums.0, P.sums.1)

pub loop-slot-preserved : goal.loop-slot-preserved
loop-slot-preserved c =
    let l = c.loop-slot in
    let x = c.step-s in (
      rw (x.ensures, l.invariant.0, add-one l.slot-index),
      stored_next _ l.slot-index _ l.slot-items l.invariant.1 (rw (x.ensures, l.invariant.0) refl),
    )

pub returns : goal.returns
returns c =
    let a = c.args in
    let l = c.loop-slot in
    let p = c.lay_out-p.result in
    let n = c.in_ok-n.n in
    let few = c.in_ok-n.ensures.few in
    let readings = held a.memory in
    let P : Prepares a.b readings (length a.lines.now) p = laid_out (search (length_mapped, rules)) c.in_ok-n.ensures c.lay_out-p.ensures in
    let count = sym c.lay_out-p.ensures.lines in
    let e : l.slot-index ≡ n = omega (arith, length-take-le n a.lines.now few) in
    record {
      value = ap Ok c.sum_up.ensures ∙ rw (l.invariant.0, e, count) (settled_answer a.b readings a.lines.now p P);
      lines_after =
          rw (l.invariant.1, e)
          (stored_part _ n a.lines.now few ∙ ap (λ k. stored (prepared_line a.b p a.memory.meter.now) k a.lines.now) count ∙ settled_memory a.b readings a.lines.now p P);
    }
