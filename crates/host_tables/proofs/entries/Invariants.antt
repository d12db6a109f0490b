-- `host_tables::entries` meets its contract. The invariant: the first i places are filled.
use Prim.Native.Nat.{◌≤◌}
use Rattle.host_tables.proofs.FilledTables.{Rows}
use Rattle.host_tables.proofs.entries.Given as goal

abbrev pub invariant-loop-i : goal.invariant-loop-i
invariant-loop-i g l = (l.i ≤ l.n) × Rows g.T.FromRow.of_row g.T.FromRow.NUMBERS l.table g.row.N l.i l.all
