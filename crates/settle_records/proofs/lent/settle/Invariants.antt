-- `settle_records::lent::settle` meets its contract: `check_book` decides before a record is written, and each turn stores the line of the segment that comes
-- next. The invariant: as many lines are stored, and the cursor is the one before the next. Assumes nothing.
use Rattle.std.proofs.Common.{◌≡◌}
use Rattle.settle_lines.specs.Cursor.{cursor_at, stepped_line, stored}
use Rattle.settle_records.proofs.lent.settle.Given as goal

abbrev pub invariant-loop-slot : goal.invariant-loop-slot
invariant-loop-slot l =
    let w = l.walk in
    (l.c ≡ cursor_at w.0 w.1.0.now w.1.1.0.now w.1.1.1.0.now l.slot-index)
    × (l.slot-items ≡ stored (stepped_line w.0 w.1.0.now w.1.1.0.now w.1.1.1.0.now) l.slot-index l.initial.slot-items)
