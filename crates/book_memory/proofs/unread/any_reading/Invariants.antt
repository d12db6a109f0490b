-- `book_memory::unread::any_reading` meets its contract: after each turn it is known of one cell more.
use Rattle.std.proofs.Common.{◌≡◌, ◌||◌, false, fold, take}
use Rattle.commands.specs.Input.{is_reading}
use Rattle.book_memory.proofs.unread.any_reading.Given as goal

abbrev pub invariant-loop-cell : goal.invariant-loop-cell
invariant-loop-cell l = l.found ≡ fold (λ b z. b || is_reading z) false (take l.cell-index l.cells)
