-- Proved of the rules: "The lister": rows by example, each named after what it pins.
use Rattle.std.specs.Prelude.{◌≡◌, [], ◌∷◌, ◌++◌, pos}
use Rattle.rules.specs.Examples.{minus, example_line, pays}
use Rattle.rules.specs.declared.statement.Stage.TheVariants.{Steady, Down}
use Rattle.rules.specs.declared.statement.Rate.TheVariants.{Utilisation, Optional}
use Rattle.lister_rows.specs.Rows.{line_row, window_rows, refusal_row}
use Rattle.lister_rows.specs.Text.{text}

pub record RowExamples : Type 0 where
  -- a line at the optional rate has the letter O
  pub optional_rate : line_row (example_line 2 7 Steady Optional (pos 6000) (pos 5750) (pos 5750) (pos 316250)) ≡ text "L 2 7 S O 6000 5750 5750 316250\n"
  -- amounts below 0 have a minus sign, each for itself
  pub below_zero : line_row (example_line 1 48 Down Utilisation (pos 3) (minus 20) (minus 20) (minus 600)) ≡ text "L 1 48 D C 3 -20 -20 -600\n"
  -- a refusal's number stands before its offset
  pub refusal_order : refusal_row 14 37 ≡ text "R 14 37\n"
  -- windows are numbered from 1, in the order in which they were entered, and one without a paid period has its row
  pub window_numbers :
      window_rows 1 (pays 6 32400 ∷ pays 0 0 ∷ pays 12 64800 ∷ []) ≡ text "A 1 6 32400\n" ++ text "A 2 0 0\n" ++ text "A 3 12 64800\n"
