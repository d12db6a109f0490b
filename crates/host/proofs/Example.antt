-- The example of Appendix 2 through a call for hosts, by computation.
use mathlib.Core.Path.{refl}
use Rattle.rules.specs.Reached.{windows_sound, instructions_sound, agreed_tests}
use Rattle.rules.proofs.Definitions.{opened}
use Rattle.book_memory.specs.Meter.{room_in}
use Rattle.book.specs.Book.{book_span, book_cells, ledger_in}
use Rattle.book.specs.Sound.{no_contract_tests, empty_tests, table_tests, sound}
use Rattle.settle_numbers.specs.Numbers.{numbers_of, number_book}
use Rattle.host_tables.specs.Tables.{contract_of_row, date_of_row, window_of_row, instruction_of_row, default_of_row, entries_of, book_of, entire}
use Rattle.host_sums.specs.Sums.{sums_of}
use Rattle.calendar.specs.Calendar.{day_number}
use Rattle.working_days.specs.Days.{day_in, day_book}
use Rattle.host_settle.specs.Answers.{packed}
use Rattle.host.specs.Calls.{day_tables, settle_tables}
use Rattle.host_settle.specs.SettleInto.{settle_into}
use Rattle.host.specs.Example.{Example, DayExample}

-- the book's definitions, all opened by one name
unfoldable books : Unit {0}
unfolding windows_sound instructions_sound agreed_tests book_span book_cells ledger_in no_contract_tests empty_tests table_tests sound
books = tt

-- those of tables, numbers and sums
unfoldable numbers : Unit {0}
unfolding contract_of_row date_of_row window_of_row instruction_of_row default_of_row entries_of book_of entire numbers_of number_book sums_of
numbers = tt

pub example : Example
unfolding opened books numbers room_in settle_into settle_tables
example = record { settled = refl; few_lines = refl; few_sums = refl; unread = refl; few_minutes = refl; few_bytes = refl; cut_short = refl }

pub day_example : DayExample
unfolding opened books numbers day_number day_in day_book packed day_tables
day_example =
    record { holiday = refl; working = refl; sunday = refl; last = refl; missing = refl; undated = refl; second = refl; cut_short = refl }
