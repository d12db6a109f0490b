-- `file_write::write_book` meets its contract: each refusal's condition in turn, or the whole file.
use mathlib.Core.Path.{◌≡◌, sym}
use Prim.Native.Nat.{ℕ, ◌≤◌}
use native.Mathlib.Omega.{arith}
use Rattle.book_memory.specs.Meter.{Memory, room_in}
use Rattle.book.specs.Book.{book_cells}
use Rattle.book.specs.declared.Book.{Book}
use Rattle.file_write.proofs.WrittenBook.{kept, refused_11, refused_15, refused_26, written-whole}
use Rattle.file_write.proofs.write_book.Goals as goal

-- past 15
within : (b : Book) (memory : Memory) {room cells : ℕ} → room ≡ room_in memory → cells ≡ book_cells b → cells ≤ room → book_cells b ≤ room_in memory
within b memory e f h = omega arith

pub returns-then-not-sound : goal.returns-then-not-sound
returns-then-not-sound c = refused_11 _ _ _ (sym c.if-not-sound.ensures)

pub returns-then-room-cells : goal.returns-then-room-cells
returns-then-room-cells c =
    refused_15 _ _ _ (sym c.if-not-sound.ensures) (omega (arith, c.if-room-cells.true, c.cells.ensures, c.room-room.ensures))

pub file_length-requires : goal.file_length-requires
file_length-requires c = kept _ _ (sym c.if-not-sound.ensures) (within _ _ c.room-room.ensures c.cells.ensures c.if-room-cells.false)

pub returns-then-out-file_length : goal.returns-then-out-file_length
returns-then-out-file_length c =
    refused_26 _ _ _ (sym c.if-not-sound.ensures) (within _ _ c.room-room.ensures c.cells.ensures c.if-room-cells.false)
    (rw c.file_length.ensures at c.if-out-file_length.true)

pub put_book-requires : goal.put_book-requires
put_book-requires c = (
  kept _ _ (sym c.if-not-sound.ensures) (within _ _ c.room-room.ensures c.cells.ensures c.if-room-cells.false),
  record { fits = omega (arith, rw c.file_length.ensures at c.if-out-file_length.false) },
)

pub returns : goal.returns
returns c =
    written-whole _ _ _ (sym c.if-not-sound.ensures) (within _ _ c.room-room.ensures c.cells.ensures c.if-room-cells.false)
    (rw c.file_length.ensures at c.if-out-file_length.false) c.put_book.ensures
