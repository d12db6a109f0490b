-- `settle_numbers::settle_numbers` meets its contract. The invariant: the numbers of k lines stand before those that are as they were, and the cursor is
-- before line k.
use mathlib.Core.Path.{◌≡◌}
use mathlib.Core.List.{◌++◌}
use Prim.Native.Nat.{◌*◌}
use lib.ListN.{drop}
use Rattle.settle_lines.specs.Cursor.{cursor_at, stepped_line}
use Rattle.settle_numbers.proofs.LinesAsNumbers.{numbers_to}
use Rattle.settle_numbers.proofs.settle_numbers.Given as goal

abbrev pub invariant-loop-k : goal.invariant-loop-k
invariant-loop-k l =
    let w = l.walk in
    (l.c ≡ cursor_at w.0 w.1.0.now w.1.1.0.now w.1.1.1.0.now l.k)
    × (l.numbers ≡ numbers_to (stepped_line w.0 w.1.0.now w.1.1.0.now w.1.1.1.0.now) l.k ++ drop (8 * l.k) l.initial.numbers)
