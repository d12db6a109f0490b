-- `file_write::length::readings_length` meets its contract: the bytes of the minutes passed are counted, and their number is a small one.
use mathlib.Core.Path.{◌≡◌}
use mathlib.Core.Logic.{inl, inr}
use Prim.Native.Nat.{◌+◌, zero-le}
use native.Mathlib.Omega.{arith}
use borrow.Author.Rules.{rules}
use lib.ListN.{length}
use mir.Syntax.{w32}
use mir.Val.{SFits}
use mir.Facts.{to_z-of_z}
use Rattle.energy.specs.Lists.{concat_map}
use Rattle.book_memory.specs.Lent.{held}
use Rattle.file_write.specs.Laid.{file_bytes, readings}
use Rattle.file_write.proofs.WrittenParts.{readings-none, readings_short, rest_more, minute_inside, longer_here, rest_none}
use Rattle.file_write.proofs.length.readings_length.Goals as goal

pub loop-m-init : goal.loop-m-init
unfolding concat_map
loop-m-init c =
    let items = c.into_iter-m-iterator.ensures.into_iter_gives in
    let from = c.enumerate-m-items.ensures in
    let memory = held c.args.memory in
    record {
      can_next = search rules;
      is_finite = tt;
      rest = rw (items, from.count, from.source, c.zip.ensures.first) (record { cells = c.iter.ensures.rest; bytes = c.zip.ensures.second.0; inside = zero-le });
      counted = rw (items, from.count, readings-none memory);
    }

pub overflow_cast-m : goal.overflow_cast-m
overflow_cast-m c =
    let steps = c.in-Some.ensures.steps in
    let here = minute_inside _ c.loop-m.invariant.rest steps.0.0 steps.0.1 in
    record { fits = omega (arith, steps.1, here, c.requires) }

-- the bytes of a minute more
counted : (c : goal.After-cell_length-n)
    → c.loop-m.n + c.cell_length-n.result
    ≡ length (file_bytes (readings (held c.args.memory) (c.loop-m.m-iterator.count + 1)))
counted c =
    let steps = c.in-Some.ensures.steps in
    let memory = held c.args.memory in
    let f : SFits w32 c.in-Some.cell.now = search rules in
    longer_here memory c.loop-m.invariant.rest steps.0.0 steps.0.1 c.loop-m.invariant.counted (rw (to_z-of_z f, steps.1) at c.cell_length-n.ensures)

pub overflow_add-n : goal.overflow_add-n
overflow_add-n c =
    let steps = c.in-Some.ensures.steps in
    let memory = held c.args.memory in
    let here = minute_inside memory c.loop-m.invariant.rest steps.0.0 steps.0.1 in
    record { fits = omega (arith, counted c, readings_short memory (c.loop-m.m-iterator.count + 1), here, c.requires) }

pub loop-m-preserved : goal.loop-m-preserved
loop-m-preserved c =
    let steps = c.in-Some.ensures.steps in
    let memory = held c.args.memory in
    let here = minute_inside memory c.loop-m.invariant.rest steps.0.0 steps.0.1 in
    record {
      can_next = search rules;
      is_finite = tt;
      rest = rw steps.2 (rest_more memory c.loop-m.invariant.rest steps.0.0 steps.0.1);
      counted = rw steps.2 (counted c);
    }

pub returns : goal.returns
returns c =
    let memory = held c.args.memory in
    rw (rest_none memory c.loop-m.invariant.rest (elim c.in-None.ensures.steps.0 [ inl x ↦ inl x.1.0 | inr x ↦ inr x.1.0 ]))
    c.loop-m.invariant.counted
