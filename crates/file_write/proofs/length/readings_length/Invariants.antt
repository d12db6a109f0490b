-- `file_write::length::readings_length` meets its contract: the bytes of the minutes passed are counted.
use mathlib.Core.Path.{◌≡◌}
use lib.ListN.{length}
use Rattle.book_memory.specs.Lent.{held}
use Rattle.file_write.specs.Laid.{file_bytes, readings}
use Rattle.file_write.proofs.WrittenParts.{Rest}
use Rattle.file_write.proofs.length.readings_length.Given as goal

abbrev pub invariant-loop-m : goal.invariant-loop-m
invariant-loop-m l = record {
  can_next : (goal.iterator-loop-m).can_next l.m-iterator;
  is_finite : (goal.iterator-loop-m).is_finite l.m-iterator;
  rest : Rest (held l.memory) l.m-iterator.iter.a.rest.now l.m-iterator.iter.b.rest.now l.m-iterator.count;
  counted : l.n ≡ length (file_bytes (readings (held l.memory) l.m-iterator.count));
}
