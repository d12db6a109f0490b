-- `lister::input::list_input` meets its contract. The bytes that the buffer holds once it is filled are a part of all bytes so far (`held`), so a turn that
-- is the last puts their listing, and any other leaves entering as they say, further on.
use Rattle.std.proofs.Common.{◌∙◌, arith, refl, sym, []}
use Rattle.book_memory.specs.Lent.{held_mut}
use Rattle.book_memory.specs.Meter.{lent, room_in}
use Rattle.book_memory.proofs.Lengths.{room_cells}
use Rattle.rules.proofs.FileLength.{file_length}
use Rattle.book.proofs.Follow.{starts}
use Rattle.lister.proofs.Refill.{begins, far, held, listed, again, forward}
use Rattle.lister.proofs.input.list_input.Goals as goal

pub loop-piece-init : goal.loop-piece-init
loop-piece-init g c =
    record {
      keeps = rw c.empty.ensures (starts (lent [] [])).stands.sound;
      fits = omega arith;
      no_rows = refl;
      so_far = begins _ _ c.empty.ensures;
    }

pub list_piece-requires : goal.list_piece-requires
list_piece-requires g c =
    let f = c.fill-have in
    let t = c.loop-piece in
    let before = held_mut c.args.memory.now in
    let small = file_length.counted (room_in before) (omega (arith, room_cells before, c.requires)) in
    (t.invariant.keeps, f.ensures.2, omega (arith, far t.invariant.so_far, small, f.ensures.2, f.auto.buffer, t.auto.buffer, c.requires))

pub returns-in-Listed : goal.returns-in-Listed
returns-in-Listed g c =
    let f = c.fill-have in
    let t = c.loop-piece in
    let met = held t.invariant.so_far f.new.buffer t.kept f.result f.ensures.0 f.ensures.1 f.ensures.2 in
    let (p, entered, stopped, laid) = c.in-Listed.ensures in
    rw (sym t.invariant.no_rows) (listed met entered stopped c.list_piece.auto.buffer laid)

pub loop-piece-smaller : goal.loop-piece-smaller
loop-piece-smaller g c =
    let f = c.fill-have in
    let t = c.loop-piece in
    let met = held t.invariant.so_far f.new.buffer t.kept f.result f.ensures.0 f.ensures.1 f.ensures.2 in
    let l = c.in-Next.ensures in
    omega (arith, forward met l.0 l.1 (omega (arith, f.auto.buffer, t.auto.buffer, c.requires)))

pub loop-piece-preserved : goal.loop-piece-preserved
loop-piece-preserved g c =
    let f = c.fill-have in
    let t = c.loop-piece in
    let met = held t.invariant.so_far f.new.buffer t.kept f.result f.ensures.0 f.ensures.1 f.ensures.2 in
    let l = c.in-Next.ensures in
    record { keeps = l.0.keeps; fits = l.0.fits; no_rows = l.2 ∙ t.invariant.no_rows; so_far = again met l.0 l.1 }
