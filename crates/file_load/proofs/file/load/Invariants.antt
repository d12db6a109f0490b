-- `file_load::file::load` meets its contract. The loop's invariant: what is left of the file is what it was, into the same slices, and the book is
-- sound. The measure is what is left of the bytes.
use mathlib.Core.Path.{◌≡◌}
use Prim.Native.Nat.{◌-◌, ◌≤◌}
use lib.ListN.{length}
use Rattle.book_memory.specs.Lent.{held_mut, Same}
use Rattle.book.proofs.StaysSound.{Kept}
use Rattle.file_load.proofs.From.{from}
use Rattle.file_load.proofs.file.load.Given as goal

abbrev pub invariant-loop-next : goal.invariant-loop-next
invariant-loop-next l = record {
  left : from l.s l.at l.book (held_mut l.memory) ≡ from l.s 0 l.initial.book (held_mut l.initial.memory);
  same : Same l.initial.memory l.memory;
  kept : Kept l.book;
  inside : l.at ≤ length l.s;
}

abbrev pub decreases-loop-next : goal.decreases-loop-next
decreases-loop-next l = length l.s - l.at
