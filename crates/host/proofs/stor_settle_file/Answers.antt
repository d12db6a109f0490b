-- `host::stor_settle_file` meets its contract: the book that a file leaves is sound, so its windows are few.
use Rattle.std.proofs.Common.{rules}
use Rattle.host.proofs.FewWindows.{of_sound}
use Rattle.host.proofs.stor_settle_file.Goals as goal

pub settle_book-requires : goal.settle_book-requires
settle_book-requires c = of_sound c.load_file-l.result.book (search rules)
