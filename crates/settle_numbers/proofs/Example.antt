-- The example of lines as numbers: the rows that F1 has by its theorem, and the rest by computation.
use mathlib.Core.Path.{refl, ap}
use Rattle.energy.specs.Lists.{concat_map}
use Rattle.rules.proofs.Figures.{figures}
use Rattle.settle_numbers.specs.Numbers.{numbers_of}
use Rattle.settle_numbers.specs.Example.{Example}

pub example : Example
unfolding numbers_of concat_map
example = record { appendix = ap (concat_map numbers_of) figures.F1-lines; backwards = refl; stages = refl; rates = refl }
