-- `book_memory::unread::any_reading` meets its contract: the walk over the first n cells is the rules'.
use Rattle.std.proofs.Common.{◌∙◌, take}
use lib.Seq.{take_all}
use Rattle.commands.specs.Input.{is_reading}
use Rattle.book_memory.proofs.Cells.{any_cell}
use Rattle.book_memory.proofs.unread.any_reading.Goals as goal

pub returns : goal.returns
returns c =
    let cells = c.args.meter.now in
    let all = take_all c.loop-cell.cell-index (take c.args.n cells) c.loop-cell-test.false in
    c.loop-cell.invariant ∙ rw all (any_cell is_reading cells c.args.n c.requires)
