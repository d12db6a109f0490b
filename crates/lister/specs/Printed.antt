-- "The lister": what it prints for how entering a file ended.
use Rattle.std.specs.Prelude.{List, ℕ, take, Result, Ok, Err}
use Rattle.book_memory.specs.Meter.{Memory}
use Rattle.settle_records.specs.Listed.{list_book}
use Rattle.settle_records.specs.declared.Listing.{Listing}
use Rattle.lister_rows.specs.Rows.{listing, refusal_row}
use Rattle.lister.specs.declared.piece.Ended.{Ended}
use Rattle.rules.specs.Answer.{Answer, Taken}
use Rattle.commands.specs.Refusals.{number_of}
use Rattle.commands.specs.declared.refusal.Refusal.{Refusal}

-- a settlement's listing, where so many windows were entered; a refusal prints only R, its number and the file's length
abbrev pub settlement_rows : Result Listing Refusal → ℕ → ℕ → List ℕ
settlement_rows (Ok g) windows size = listing g.statement (take g.statement.lines g.lines) windows
settlement_rows (Err r) windows size = refusal_row (number_of r) size

-- a file entered to its end is settled; a refusal prints only R, its number and the offset of the command
abbrev pub rows_for : Answer → Ended → Memory → List ℕ
rows_for Taken e meter = settlement_rows (list_book e.book meter) e.book.nwindows e.offset
rows_for (Err r) e meter = refusal_row (number_of r) e.offset

-- all that is printed
unfoldable pub printed : Ended → Memory → List ℕ
printed e meter = rows_for e.answer e meter
