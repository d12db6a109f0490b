-- Inner, and proved equal to the rules: readings, which need no book: of the book one that is taken asks no more than a span.
use Rattle.std.specs.Prelude.{not, ◌&&◌, cond, ℕ, leb}
use Rattle.book.specs.Book.{book_span, book_cells}
use Rattle.book.specs.declared.Book.{Book}

-- the span in which a book takes readings into lent memory with so much room: 0 where 12, 13 or 15 holds
unfoldable pub open_span : Book → ℕ → ℕ
open_span b room = cond (b.agreed && not b.closed && leb (book_cells b) room) (book_span b) 0
