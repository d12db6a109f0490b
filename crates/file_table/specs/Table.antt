-- Inner, and proved equal to the rules: what the code's table says of a command byte.
use Rattle.std.specs.Prelude.{◌≡◌, ℕ, ◌+◌}
use Rattle.std.proofs.Math.Option.{some}
use Rattle.rules.specs.File.{table, widths_of, total}
use Rattle.file_table.specs.declared.table.Row.{Row}

-- the row of a command byte: the widths that the rules' table has for it, and the whole length
pub record RowOf (byte : ℕ) (row : Row) : Type 0 where
  pub same : row.byte ≡ byte
  pub widths : widths_of byte table ≡ some row.widths.now
  pub length : row.length ≡ 1 + total row.widths.now
