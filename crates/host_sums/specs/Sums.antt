-- Inner, and for hosts: a statement as 262 numbers.
use Rattle.std.specs.Prelude.{List, [], ◌∷◌, ◌++◌, ℕ, ℤ, pos}
use Rattle.energy.specs.Lists.{concat_map}
use Rattle.rules.specs.declared.statement.Available.{Available}
use Rattle.rules.specs.declared.statement.Statement.{Statement}

-- how many numbers a statement is
abbrev pub sum_count : ℕ
sum_count = 262

-- lines, windows entered, capped kWh, utilisation pence, availability pence, all pence
abbrev pub totals_of : Statement → ℕ → List ℤ
totals_of s windows =
    pos s.lines ∷ pos windows ∷ s.capped.0 ∷ s.utilisation.0 ∷ s.availability.0 ∷ s.total.0 ∷ []

-- a window's paid periods and pence
abbrev pub pair_of : Available → List ℤ
pair_of a = pos a.periods ∷ a.pence.0 ∷ []

-- the statement of a book with so many windows
unfoldable pub sums_of : Statement → ℕ → List ℤ
sums_of s windows = totals_of s windows ++ concat_map pair_of s.windows
