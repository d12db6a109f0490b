-- `file_load::file::load` meets its contract. The loop's invariant: what is left of the file is what it was, into the same slices, and the book is
-- sound. The measure is what is left of the bytes.
use mathlib.Core.Path.{sym, ap, ◌∙◌}
use native.Mathlib.Omega.{arith}
use Rattle.std.specs.Prelude.{Ok, Some}
use Rattle.book_memory.specs.Lent.{held_mut}
use Rattle.book_memory.proofs.SameSlices.{same_on}
use Rattle.file_load.specs.Load.{load}
use Rattle.file_load.proofs.From.{from}
use Rattle.file_load.proofs.Turns.{Led, led}
use Rattle.file_load.proofs.file.load.Goals as goal

-- where the turn leads that goes on
onward : (c : goal.In-Ok-Some)
    → Led c.args.s.now c.loop-next.at c.loop-next.book (held_mut c.loop-next.memory) c.take_readings-at.result (Ok (Some c.in-Ok-Some.next))
    c.read_and_enter.new.book (held_mut c.read_and_enter.new.memory)
onward c =
    let i = c.loop-next.invariant in
    let e = c.read_and_enter.ensures in
    led _ _ _ _ i.kept i.inside (rw c.read.ensures at c.room.ensures) c.open_span-span.ensures c.take_readings-at.ensures.run (ap Ok (sym c.in-Ok-Some.field-0-is) ∙ sym c.in-Ok-Some.is ∙ e.value) e.book_after
    e.memory_after.0

pub loop-next-smaller : goal.loop-next-smaller
loop-next-smaller c = let l = onward c in omega (arith, l.forward, l.leads.0, l.leads.1)

pub loop-next-preserved : goal.loop-next-preserved
loop-next-preserved c =
    let l = onward c in
    let i = c.loop-next.invariant in
    record {
      left = sym l.again ∙ i.left;
      same = same_on (same_on i.same c.take_readings-at.ensures.same) c.read_and_enter.ensures.memory_after.1;
      kept = l.kept;
      inside = l.leads.1;
    }

pub returns-in-Ok-None : goal.returns-in-Ok-None
unfolding load from
returns-in-Ok-None c =
    let i = c.loop-next.invariant in
    let r = c.read_and_enter.ensures in
    let l = led _ _ _ _ i.kept i.inside (rw c.read.ensures at c.room.ensures) c.open_span-span.ensures c.take_readings-at.ensures.run (ap Ok (sym c.in-Ok-None.field-0-is) ∙ sym c.in-Ok-None.is ∙ r.value) r.book_after
    r.memory_after.0 in
    let e = sym l.again ∙ i.left in
    (ap (λ f. f.loaded) e, (ap (λ f. f.meter) e, same_on (same_on i.same c.take_readings-at.ensures.same) r.memory_after.1), l.kept.sound, l.inside)

pub returns-in-Err : goal.returns-in-Err
unfolding load from
returns-in-Err c =
    let i = c.loop-next.invariant in
    let r = c.in-Err.ensures in
    let l = led _ _ _ _ i.kept i.inside (rw c.read.ensures at c.room.ensures) c.open_span-span.ensures c.take_readings-at.ensures.run r.value r.book_after r.memory_after.0 in
    let e = sym l.again ∙ i.left in
    (ap (λ f. f.loaded) e, (ap (λ f. f.meter) e, same_on (same_on i.same c.take_readings-at.ensures.same) r.memory_after.1), l.kept.sound, l.inside)
