-- `file_readings::take_all` meets its contract: runs of one kind and of the other, until neither goes on. The measure is what is left of the bytes.
use Prim.Native.Nat.{◌-◌}
use lib.ListN.{length}
use Rattle.book_memory.specs.Lent.{held_mut, Same}
use Rattle.file_readings.specs.Run.{Run}
use Rattle.file_readings.proofs.take_all.Given as goal

abbrev pub invariant-loop-from : goal.invariant-loop-from
invariant-loop-from l =
    Run l.span l.s l.start (held_mut l.initial.memory) l.from (held_mut l.memory) × Same l.initial.memory l.memory

abbrev pub decreases-loop-from : goal.decreases-loop-from
decreases-loop-from l = length l.s - l.from
