-- `file_readings::PlainKind::take` meets its contract: the near reading is taken as the one that stands there is.
use Prim.Native.Nat.{◌+◌}
use Rattle.book_memory.specs.Lent.{held_mut}
use Rattle.file_readings.proofs.RaisedKw.{plain, reads_plain, near_turn}
use Rattle.file_readings.proofs.PlainKind.take.Goals as goal

pub returns : goal.returns
returns c =
    let at = c.args in
    let r = c.near_reading-r.ensures in (
      near_turn plain at.span at.s.now at.at (at.at + 7) (held_mut at.memory.now) _ _
          (reads_plain at.s.now at.at c.requires.0 c.requires.1) r.0 r.1 _ _ c.take_reading.ensures.0 c.take_reading.ensures.1.0,
      c.take_reading.ensures.1.1,
    )
