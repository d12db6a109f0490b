-- Proved of the rules: a statement's sums as numbers, to the number: Appendix 2's, and a statement with two windows.
use Rattle.std.specs.Prelude.{◌≡◌, [], ◌∷◌, ◌++◌, map, pos, length, replicate}
use Rattle.rules.specs.Examples.{minus, appendix2, ledger, pays}
use Rattle.rules.specs.Statement.{nothing, statement_of}
use Rattle.rules.specs.declared.statement.Statement.{Statement}
use Rattle.host_sums.specs.Sums.{sum_count, sums_of}

-- a statement of three lines that run backwards, and of two windows
abbrev pub backwards : Statement
backwards =
    record {
      lines = 3;
      capped = record { 0 = minus 50 };
      utilisation = record { 0 = minus 1500 };
      availability = record { 0 = pos 43200 };
      total = record { 0 = pos 41700 };
      windows = pays 6 32400 ∷ pays 2 10800 ∷ replicate 126 nothing;
    }

-- lines, windows, capped kWh, utilisation, availability and all pence; then each window's paid periods and pence, zeros where none was entered
pub record Example : Type 0 where
  pub appendix :
      sums_of (statement_of (ledger appendix2)) 1
      ≡ map pos (6 ∷ 1 ∷ 12800 ∷ 384000 ∷ 32400 ∷ 416400 ∷ 6 ∷ 32400 ∷ []) ++ replicate 254 (pos 0)
  pub two :
      sums_of backwards 2
      ≡ (pos 3 ∷ pos 2 ∷ minus 50 ∷ minus 1500 ∷ pos 43200 ∷ pos 41700 ∷ []) ++ map pos (6 ∷ 32400 ∷ 2 ∷ 10800 ∷ [])
      ++ replicate 252 (pos 0)
  pub size : length (sums_of backwards 2) ≡ sum_count
