-- The example of a book in tables, by computation.
use mathlib.Core.Path.{refl}
use Rattle.energy.specs.Lists.{run, between}
use Rattle.host_tables.specs.Tables.{contract_of_row, date_of_row, window_of_row, instruction_of_row, default_of_row, entries_of, book_of, entire}
use Rattle.host_tables.specs.Example.{Example}

pub example : Example
unfolding run between contract_of_row date_of_row window_of_row instruction_of_row default_of_row entries_of book_of entire
example =
    record {
      contract = refl;
      date = refl;
      no_date = refl;
      windows = refl;
      instructions = refl;
      defaults = refl;
      window_count = refl;
      instruction_count = refl;
      default_count = refl;
      agreed = refl;
      closed = refl;
      wide_days = refl;
      wide_response = refl;
      wide_date = refl;
      wide_window = refl;
      wide_instruction = refl;
      wide_default = refl;
      whole_rows = refl;
      short_contract = refl;
      no_date_numbers = refl;
      long_contract = refl;
      short_window = refl;
      short_instruction = refl;
      short_default = refl;
    }
