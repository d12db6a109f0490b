-- Proved of the rules: lines as numbers, to the number: Appendix 2's L rows, each field in its place, and what stages and rates are as numbers.
use Rattle.std.specs.Prelude.{◌≡◌, List, [], ◌∷◌, ◌++◌, map, ℕ, ℤ, pos}
use Rattle.energy.specs.Lists.{concat_map}
use Rattle.rules.specs.Statement.{lines}
use Rattle.rules.specs.Examples.{minus, appendix2, ledger, example_line}
use Rattle.rules.specs.declared.statement.Stage.TheVariants.{Up, Steady, Down}
use Rattle.rules.specs.declared.statement.Rate.TheVariants.{Utilisation, Optional}
use Rattle.settle_numbers.specs.Numbers.{stage_number, rate_number, numbers_of}

-- numbers without a sign
abbrev numbers : List ℕ → List ℤ
numbers = map pos

-- F1's rows, a line at the optional rate that runs backwards, and every stage and rate
pub record Example : Type 0 where
  pub appendix :
      concat_map numbers_of (lines (ledger appendix2))
      ≡ numbers (1 ∷ 1 ∷ 0 ∷ 0 ∷ 600 ∷ 500 ∷ 500 ∷ 15000 ∷ [])
      ++ numbers (1 ∷ 1 ∷ 1 ∷ 0 ∷ 1000 ∷ 1017 ∷ 1000 ∷ 30000 ∷ [])
      ++ numbers (1 ∷ 2 ∷ 1 ∷ 0 ∷ 6000 ∷ 5750 ∷ 5750 ∷ 172500 ∷ [])
      ++ numbers (1 ∷ 3 ∷ 1 ∷ 0 ∷ 5000 ∷ 5417 ∷ 5000 ∷ 150000 ∷ [])
      ++ numbers (1 ∷ 3 ∷ 2 ∷ 0 ∷ 500 ∷ 750 ∷ 500 ∷ 15000 ∷ [])
      ++ numbers (1 ∷ 4 ∷ 2 ∷ 0 ∷ 100 ∷ 50 ∷ 50 ∷ 1500 ∷ [])
  pub backwards :
      numbers_of (example_line 64 1490 Down Optional (pos 7) (minus 5) (minus 3) (minus 2))
      ≡ numbers (64 ∷ 1490 ∷ 2 ∷ 1 ∷ 7 ∷ []) ++ (minus 5 ∷ minus 3 ∷ minus 2 ∷ [])
  pub stages : map stage_number (Up ∷ Steady ∷ Down ∷ []) ≡ numbers (0 ∷ 1 ∷ 2 ∷ [])
  pub rates : map rate_number (Utilisation ∷ Optional ∷ []) ≡ numbers (0 ∷ 1 ∷ [])
