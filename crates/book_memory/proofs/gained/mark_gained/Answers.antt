-- `book_memory::gained::mark_gained` meets its contract: each lent part comes back marked, or cleared.
use mathlib.Core.Path.{refl}
use Prim.Native.Nat.{◌*◌}
use Rattle.calendar.specs.Calendar.{days_of, gained_in}
use Rattle.book_memory.specs.Meter.{lent, missing}
use Rattle.book_memory.proofs.Cells.{part_filled}
use Rattle.book_memory.proofs.gained.mark_gained.Goals as goal
use Rattle.book_memory.proofs.gained.mark_gained.Goals.{Start}

pub returns : goal.returns
returns c =
    let d = c.args.d in
    let at = 1440 * days_of d.year d.month in
    let n = gained_in d.month in
    let marked = part_filled missing n at c.args.memory.now.meter.now c.mark.new.meter (rw (c.days_of.ensures, c.gained-n.ensures) at c.mark.ensures) in
    let cleared = part_filled 0 n at c.args.memory.now.revisions.now c.clear.new.revisions (rw (c.days_of.ensures, c.gained-n.ensures) at c.clear.ensures) in
    (rw c.days_of.ensures (λ i. lent (marked i) (cleared i)), (refl, refl))
