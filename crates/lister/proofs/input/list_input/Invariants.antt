-- Entering stands as all bytes so far say, and no rows are put yet. The measure is how far entering can still come: each full buffer moves the offset on.
use Rattle.std.proofs.Common.{◌≡◌, true, ◌-◌, ◌≤◌, length, take}
use Rattle.book_memory.specs.Lent.{held_mut}
use Rattle.book_memory.specs.Meter.{room_in}
use Rattle.rules.specs.FileLength.{most_taken}
use Rattle.book.specs.Sound.{sound}
use Rattle.lister.proofs.Refill.{SoFar}
use Rattle.lister.proofs.input.list_input.Given as goal

abbrev pub invariant-loop-piece : goal.invariant-loop-piece
invariant-loop-piece g l =
    record {
      keeps : sound l.e.book ≡ true;
      fits : l.kept ≤ length l.buffer;
      no_rows : l.rows ≡ l.initial.rows;
      so_far : SoFar (held_mut l.initial.memory) l.e (held_mut l.memory) (take l.kept l.buffer);
    }

abbrev pub decreases-loop-piece : goal.decreases-loop-piece
decreases-loop-piece g l = most_taken (room_in (held_mut l.initial.memory)) - l.e.offset
