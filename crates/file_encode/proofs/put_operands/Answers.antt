-- `file_encode::put_operands` meets its contract: the operands that are left, put behind those passed, leave what all of them do.
use mathlib.Core.Logic.{inl, inr}
use Rattle.file_encode.proofs.Encoding.{next_ends, put_more, none_left}
use Rattle.file_encode.proofs.put_operands.Goals as goal

pub slice_bounds-put_number-end : goal.slice_bounds-put_number-end
slice_bounds-put_number-end c =
    let steps = c.in-Some.ensures.steps in
    rw c.from.ensures (next_ends _ _ _ _ (rw (steps.0, steps.1) at c.loop-width.invariant.2))

pub loop-width-preserved : goal.loop-width-preserved
loop-width-preserved c =
    let steps = c.in-Some.ensures.steps in
    ((tt, tt), tt, rw c.from.ensures (put_more _ _ _ _ (rw (steps.0, steps.1) at c.loop-width.invariant.2) _ (rw c.from.ensures at c.put_number.ensures)))

pub returns : goal.returns
returns c =
    none_left _ _ _ _ _ (elim c.in-None.ensures.steps [ inl x ↦ inl x.1.0 | inr x ↦ inr x.1.0 ]) c.loop-width.invariant.2
