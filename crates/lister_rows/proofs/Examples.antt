-- The rows of the examples, computed.
use mathlib.Core.Path.{refl}
use Rattle.lister_rows.specs.Rows.{digits_in, digits, signed_digits, fields_of, row, line_row, window_row, window_rows, refusal_row}
use Rattle.lister_rows.specs.Text.{text}
use Rattle.lister_rows.specs.Examples.{RowExamples}

pub row_examples : RowExamples
unfolding line_row window_rows window_row refusal_row row fields_of signed_digits digits digits_in text
row_examples = record { optional_rate = refl; below_zero = refl; refusal_order = refl; window_numbers = refl }
