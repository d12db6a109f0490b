-- `file_encode::write_at` meets its contract: there is room for the command's bytes or not, and its byte and its operands are put one after the other.
use mathlib.Core.Path.{◌≡◌, sym, ◌∙◌, ap}
use mathlib.Core.Bool.{true, false}
use mathlib.Core.List.{List}
use Rattle.std.specs.Prelude.{Ok, Err}
use Rattle.commands.specs.declared.refusal.Refusal.TheVariants.{NoRoom}
use Prim.Native.Nat.{ℕ, ◌+◌}
use native.Mathlib.Omega.{arith}
use borrow.Author.Tests.{leb-true, leb-false}
use lib.Dec.{leb}
use lib.ListN.{length, set}
use Rattle.energy.specs.Lists.{put_at}
use Rattle.energy.proofs.Puts.{put_cons}
use Rattle.rules.specs.File.{byte_of, operands_of, write_operands, write}
use Rattle.commands.specs.declared.entries.Command.{Command}
use Rattle.file_table.specs.Table.{RowOf}
use Rattle.file_table.specs.Operands.{padded}
use Rattle.file_table.specs.declared.table.Row.{Row}
use Rattle.file_encode.specs.Write.{write_at}
use Rattle.file_encode.proofs.Encoding.{row_bytes, row_long}
use Rattle.file_encode.proofs.Puts.{write_room, write_none}
use Rattle.file_encode.proofs.write_at.Goals as goal

-- a command, its row and the length that the row says, and memory
module _ (command : Command) (m : List ℕ) (at : ℕ) (row : Row) (is : RowOf (byte_of command) row) (n : ℕ) (long : n ≡ row.length) where
  size : n ≡ length (write command)
  size = long ∙ row_long command row is

  -- too little room
  none_written : false ≡ leb (at + n) (length m) → write_at command m at ≡ record { answer = Err NoRoom; bytes = m }
  none_written h = write_none command m at (omega (arith, size, leb-false (at + n) (length m) (sym h)))

  -- room for all
  module _ (h : true ≡ leb (at + n) (length m)) where
    all_written : write_at command m at ≡ record { answer = Ok (at + n); bytes = put_at (write command) m at }
    all_written = rw size (write_room command m at (omega (arith, size, leb-true (at + n) (length m) (sym h))))

    put_bytes : (v : List ℕ) → v ≡ padded (operands_of command)
        → put_at (write_operands row.widths.now v) (set m at row.byte) (at + 1) ≡ (write_at command m at).bytes
    put_bytes v e =
        rw (all_written, row_bytes command row is, ← e)
        (put_cons row.byte (write_operands row.widths.now v) m at (omega (arith, long, is.length, leb-true (at + n) (length m) (sym h))))

pub returns-then-not-room_for-clause-value : goal.returns-then-not-room_for-clause-value
returns-then-not-room_for-clause-value c =
    sym (ap (λ w. w.answer) (none_written _ _ _ _ c.row_for-row.ensures _ c.from-length.ensures c.if-not-room_for.ensures))

pub returns-then-not-room_for-clause-out_after : goal.returns-then-not-room_for-clause-out_after
returns-then-not-room_for-clause-out_after c =
    sym (ap (λ w. w.bytes) (none_written _ _ _ _ c.row_for-row.ensures _ c.from-length.ensures c.if-not-room_for.ensures))

pub returns-clause-value : goal.returns-clause-value
returns-clause-value c = sym (ap (λ w. w.answer) (all_written _ _ _ _ c.row_for-row.ensures _ c.from-length.ensures c.if-not-room_for.ensures))

pub returns-clause-out_after : goal.returns-clause-out_after
returns-clause-out_after c =
    c.put_operands.ensures
    ∙ put_bytes _ _ _ _ c.row_for-row.ensures _ c.from-length.ensures c.if-not-room_for.ensures _ c.operands_of-v.ensures
