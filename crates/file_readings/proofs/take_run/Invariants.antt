-- `file_readings::take_run` meets its contract. The loop's invariant: the run so far. The measure is what is left of the bytes.
use Prim.Native.Nat.{◌-◌}
use lib.ListN.{length}
use Rattle.book_memory.specs.Lent.{held_mut, Same}
use Rattle.file_readings.specs.Run.{Run}
use Rattle.file_readings.proofs.take_run.Given as goal

abbrev pub invariant-loop-memory : goal.invariant-loop-memory
invariant-loop-memory g l =
    Run l.span l.s l.start (held_mut l.initial.memory) l.at (held_mut l.memory) × Same l.initial.memory l.memory

abbrev pub decreases-loop-memory : goal.decreases-loop-memory
decreases-loop-memory g l = length l.s - l.at
