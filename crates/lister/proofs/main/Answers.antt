-- `lister::main` is safe and ends: the rows that are written out stand in the buffer of rows.
use Rattle.std.proofs.Common.{sym, zero-le}
use lib.Seq.{length-take-le}
use Rattle.energy.proofs.Puts.{laid_within}
use Rattle.lister.proofs.main.Goals as goal

pub slice_bounds-rows-end : goal.slice_bounds-rows-end
slice_bounds-rows-end c = laid_within zero-le c.list_input-n.ensures.prints

pub slice_bounds-write_all-end : goal.slice_bounds-write_all-end
slice_bounds-write_all-end c =
    sym (length-take-le c.list_input-n.result c.list_input-n.new.rows (laid_within zero-le c.list_input-n.ensures.prints))
