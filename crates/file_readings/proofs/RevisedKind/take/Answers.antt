-- `file_readings::RevisedKind::take` meets its contract: the near reading is taken under its number as the one that stands there is.
use Prim.Native.Nat.{◌+◌}
use Rattle.book_memory.specs.Lent.{held_mut}
use Rattle.file_readings.proofs.RaisedKw.{revised, reads-revised, near_turn}
use Rattle.file_readings.proofs.RevisedKind.take.Goals as goal

pub returns : goal.returns
returns c =
    let at = c.args in
    let r = c.near_reading-reading.ensures in (
      near_turn (revised _) at.span at.s.now at.at (at.at + 8) (held_mut at.memory.now) _ _
          (reads-revised at.s.now at.at c.requires.0 c.requires.1) r.0 r.1 _ _ c.take_revision.ensures.0 c.take_revision.ensures.1.0,
      c.take_revision.ensures.1.1,
    )
