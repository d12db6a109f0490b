-- "Energy and money": how near a statement's totals are to the exact sums, whatever has been entered.
use Rattle.std.specs.Prelude.{List, ◌*◌, pos, ◌*ℤ◌, length}
use Rattle.rules.specs.Ledger.{Ledger}
use Rattle.rules.specs.Statement.{lines, statement_of, exact_energy, exact_amount, allowance, Differ}
use Rattle.rules.specs.declared.statement.Line.{Line}
use Rattle.rules.specs.declared.statement.Statement.{Statement}

-- the totals of a statement s with the lines ls are within half a unit for each rounding of a ledger's exact sums
pub record WithinHalves (g : Ledger) (s : Statement) (ls : List Line) : Type 0 where
  -- total capped energy is within half a kWh for each line of the exact sum, in 240ths of a kWh
  pub energy : Differ (pos 240 *ℤ s.capped.0) (exact_energy g) (120 * length ls)
  -- the total paid is within half a penny for each line and paid period, and half a kWh for each line at its rate, in 1,200,000ths of a penny
  pub money : Differ (pos 1200000 *ℤ s.total.0) (exact_amount g) (allowance g ls)

-- so it is of every ledger's own statement
abbrev pub WithinHalves·theorem : Type 0
WithinHalves·theorem = (g : Ledger) → WithinHalves g (statement_of g) (lines g)
