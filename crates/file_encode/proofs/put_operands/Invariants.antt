-- `file_encode::put_operands` meets its contract: the operands that are left, put behind those passed, leave what all of them do.
use Rattle.energy.specs.Lists.{put_at}
use Rattle.rules.specs.File.{write_operands}
use Rattle.file_encode.proofs.Encoding.{Left}
use Rattle.file_encode.proofs.put_operands.Given as goal

abbrev pub invariant-loop-width : goal.invariant-loop-width
invariant-loop-width l =
    (goal.iterator-loop-width).can_next l.width-iterator
    × (goal.iterator-loop-width).is_finite l.width-iterator
    × Left l.width-iterator.a.rest.now l.width-iterator.b.rest.now l.out l.place (put_at (write_operands l.widths l.fn.v) l.initial.out l.at)
