-- `file_write::layout::put_readings` meets its contract: the readings of the minutes passed are put, and the next one goes after them.
use mathlib.Core.Logic.{inl, inr}
use Prim.Native.Nat.{zero-le}
use native.Mathlib.Omega.{arith}
use borrow.Author.Rules.{rules}
use mir.Syntax.{w32}
use mir.Val.{SFits}
use mir.Facts.{to_z-of_z}
use Rattle.book_memory.specs.Lent.{held}
use Rattle.book_memory.specs.Meter.{room_in}
use Rattle.file_write.proofs.WrittenLaid.{laid_none, room_turn, laid_turn}
use Rattle.file_write.proofs.WrittenParts.{readings-none, readings_turns, rest_more, minute_inside, turn_here, rest_none}
use Rattle.file_write.proofs.layout.put_readings.Goals as goal

pub loop-m-init : goal.loop-m-init
loop-m-init c =
    let items = c.into_iter-m-iterator.ensures.into_iter_gives in
    let from = c.enumerate-m-items.ensures in
    let memory = held c.args.memory in
    record {
      can_next = search rules;
      is_finite = tt;
      rest = rw (items, from.count, from.source, c.zip.ensures.first) (record { cells = c.iter.ensures.rest; bytes = c.zip.ensures.second.0; inside = zero-le });
      laid = rw (items, from.count, readings-none memory) (laid_none _ _);
    }

pub overflow_cast-m : goal.overflow_cast-m
overflow_cast-m c =
    let steps = c.in-Some.ensures.steps in
    let here = minute_inside _ c.loop-m.invariant.rest steps.0.0 steps.0.1 in
    record { fits = omega (arith, steps.1, here, c.requires.0) }

pub put_cell-place-requires : goal.put_cell-place-requires
put_cell-place-requires c =
    let steps = c.in-Some.ensures.steps in
    let memory = held c.args.memory in
    let f : SFits w32 c.in-Some.cell.now = search rules in
    rw (to_z-of_z f, steps.1, ← turn_here memory c.loop-m.invariant.rest steps.0.0 steps.0.1)
    (room_turn (readings_turns memory (room_in memory)) c.requires.1 (minute_inside memory c.loop-m.invariant.rest steps.0.0 steps.0.1)
    c.loop-m.invariant.laid)

pub loop-m-preserved : goal.loop-m-preserved
loop-m-preserved c =
    let steps = c.in-Some.ensures.steps in
    let memory = held c.args.memory in
    let f : SFits w32 c.in-Some.cell.now = search rules in
    let here = minute_inside memory c.loop-m.invariant.rest steps.0.0 steps.0.1 in
    record {
      can_next = search rules;
      is_finite = tt;
      rest = rw steps.2 (rest_more memory c.loop-m.invariant.rest steps.0.0 steps.0.1);
      laid = rw steps.2 (laid_turn (readings_turns memory (room_in memory)) c.requires.1 here c.loop-m.invariant.laid
          (rw (turn_here memory c.loop-m.invariant.rest steps.0.0 steps.0.1) (rw (to_z-of_z f, steps.1) at c.put_cell-place.ensures)));
    }

pub returns : goal.returns
returns c =
    let memory = held c.args.memory in
    rw (rest_none memory c.loop-m.invariant.rest (elim c.in-None.ensures.steps.0 [ inl x ↦ inl x.1.0 | inr x ↦ inr x.1.0 ]))
    c.loop-m.invariant.laid
