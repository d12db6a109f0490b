-- `Book::date_asked` meets its contract: the date itself is asked first, then the book, then what has been entered before it.
use borrow.Author.Rules.{rules}
use mathlib.Core.Path.{refl, ap, ◌∙◌}
use native.Mathlib.Omega.{arith}
use Rattle.commands.specs.Refusals.{outcome}
use Rattle.commands.specs.declared.entries.Command.TheVariants.{Date as command}
use Rattle.rules.proofs.Folds.{length_mapped}
use Rattle.book_memory.specs.Lent.{held}
use Rattle.book_memory.specs.Meter.{room_in}
use Rattle.book.proofs.DatedEntry.{span_held, dated_number}
use Rattle.book.proofs.Asked.{Past, past_book, by_own}
use Rattle.book.proofs.Book.date_asked.Goals as goal
use Rattle.book.proofs.Book.date_asked.Goals.{In_ok-any_refusal}

past : (c : In_ok-any_refusal) → Past c.args.self.now (room_in (held c.args.memory)) (command c.args.d)
past c =
    past_book _ _ (command c.args.d) (c.in_ok-date_input_refusal.ensures {u = tt}) c.requires
    (rw (c.room.ensures, c.cells_for_date.ensures, c.cells.ensures) at (c.in_ok-any_refusal.ensures {u = tt}))

pub any_reading-read-requires : goal.any_reading-read-requires
any_reading-read-requires c =
    let s = c.args in
    omega (arith, span_held s.self.now (held s.memory) s.d (past (goal.at.any_reading-read-requires c).In_ok-any_refusal), c.span.ensures)

pub returns : goal.returns
returns c =
    let s = c.args in
    let memory = held s.memory in
    let p = past (goal.at.returns c).In_ok-any_refusal in
    by_own _ _ _ p memory refl
    (c.date_refusal.ensures
    ∙ ap outcome
    (dated_number s.self.now memory s.d p c.span.result c.any_reading-read.result c.any_reading-read.ensures c.span.ensures (search (length_mapped, rules))
    (search (length_mapped, rules))))
