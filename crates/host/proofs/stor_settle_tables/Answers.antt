-- `host::stor_settle_tables` meets its contract: the book that tables say has as many windows as their table has rows, which are few.
use Rattle.std.proofs.Common.{rules}
use Rattle.host.proofs.FewWindows.{of_tables}
use Rattle.host.proofs.stor_settle_tables.Goals as goal

pub settle_book-requires : goal.settle_book-requires
settle_book-requires c = of_tables _ _ c.in-Ok.ensures (search rules)
