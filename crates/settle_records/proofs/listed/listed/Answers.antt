-- `settle_records::listed::listed` meets its contract: what `settle` promises of records that are all blank. Assumes nothing.
use Rattle.std.proofs.Common.{◌≡◌, ◌∙◌, refl, List, replicate}
use Rattle.std.specs.Prelude.{Result}
use Rattle.book_memory.specs.Meter.{Memory}
use Rattle.commands.specs.declared.refusal.Refusal.{Refusal}
use Rattle.rules.specs.declared.statement.Line.{Line}
use Rattle.rules.specs.declared.statement.Statement.{Statement}
use Rattle.book.specs.declared.Book.{Book}
use Rattle.settle.specs.Settle.{settle_book}
use Rattle.settle.proofs.Refusal.{handed}
use Rattle.settle_records.specs.Listed.{no_line, listing_of, list_book}
use Rattle.settle_records.proofs.listed.listed.Goals as goal

right : (b : Book) (m : Memory) {l : Line} {a : Result Statement Refusal} {zs : List Line} → l ≡ no_line → a ≡ (settle_book b m (replicate 719 l)).answer
    → zs ≡ (settle_book b m (replicate 719 l)).memory → listing_of a zs ≡ list_book b m
unfolding list_book
right b m e f g = rw (f, g, e) refl

pub returns-in_err-statement : goal.returns-in_err-statement
returns-in_err-statement c =
    let e = c.in_err-statement.ensures in
    handed _ c.from_residual.ensures.1 ∙ right _ _ c.blank-lines.ensures e.value e.lines_after

pub returns : goal.returns
returns c = let e = c.in_ok-statement.ensures in right _ _ c.blank-lines.ensures e.value e.lines_after
