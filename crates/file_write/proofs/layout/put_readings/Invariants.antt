-- `file_write::layout::put_readings` meets its contract: the readings of the minutes passed are put, and the next one goes after them.
use Rattle.book_memory.specs.Lent.{held}
use Rattle.file_write.specs.Laid.{Laid, readings}
use Rattle.file_write.proofs.WrittenParts.{Rest}
use Rattle.file_write.proofs.layout.put_readings.Given as goal

abbrev pub invariant-loop-m : goal.invariant-loop-m
invariant-loop-m l = record {
  can_next : (goal.iterator-loop-m).can_next l.m-iterator;
  is_finite : (goal.iterator-loop-m).is_finite l.m-iterator;
  rest : Rest (held l.memory) l.m-iterator.iter.a.rest.now l.m-iterator.iter.b.rest.now l.m-iterator.count;
  laid : Laid (readings (held l.memory) l.m-iterator.count) l.initial.out l.at l.out l.place;
}
