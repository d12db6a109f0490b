-- The rows of the examples, computed.
use mathlib.Core.Path.{refl}
use Rattle.rules.proofs.Definitions.{opened}
use Rattle.book_memory.specs.Meter.{room_in}
use Rattle.book.specs.Book.{ledger_in, empty_book}
use Rattle.book.specs.Sound.{sound, empty_tests, table_tests, no_contract_tests}
use Rattle.settle.specs.Settle.{settle_book}
use Rattle.settle_records.specs.Listed.{list_book}
use Rattle.lister_rows.specs.Rows.{digits_in, digits, fields_of, row, refusal_row}
use Rattle.lister_rows.specs.Text.{text}
use Rattle.lister.specs.Printed.{printed}
use Rattle.lister.specs.Examples.{PrintedExamples}

pub printed_examples : PrintedExamples
unfolding printed list_book settle_book room_in opened sound table_tests empty_tests no_contract_tests empty_book ledger_in refusal_row row fields_of digits digits_in text
printed_examples = record { refused_entering = λ b meter. refl; refused_settling = refl }
