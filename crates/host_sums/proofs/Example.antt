-- The example of sums as numbers: F1's statement by its theorem, and the rest by computation.
use mathlib.Core.Path.{refl, ap}
use Rattle.energy.specs.Lists.{concat_map}
use Rattle.rules.specs.declared.statement.Statement.{Statement}
use Rattle.rules.proofs.Figures.{figures}
use Rattle.host_sums.specs.Sums.{sums_of}
use Rattle.host_sums.specs.Example.{Example}

pub example : Example
unfolding sums_of concat_map
example = record { appendix = ap (λ (s : Statement). sums_of s 1) figures.F1-statement; two = refl; size = refl }
