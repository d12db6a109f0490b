-- `Book::window_asked` meets its contract: the window's own operands are asked first, then the book, then what is beside it.
use mathlib.Core.Path.{sym, ap, ◌∙◌}
use Rattle.commands.specs.Refusals.{outcome}
use Rattle.commands.specs.declared.entries.Command.TheVariants.{Window as command}
use Rattle.book.proofs.Refusals.{window_number}
use Rattle.book.proofs.Asked.{Past, past_book, by_own}
use Rattle.book.proofs.Book.window_asked.Goals as goal
use Rattle.book.proofs.Book.window_asked.Goals.{In_ok-first_refusal}

past : (c : In_ok-first_refusal) → Past c.args.self.now c.args.room (command c.args.w)
past c = past_book _ _ (command c.args.w) (c.in_ok-input_refusal.ensures {u = tt}) c.requires (c.in_ok-first_refusal.ensures {u = tt})

pub shared_ref_as_front-windows : goal.shared_ref_as_front-windows
shared_ref_as_front-windows c = (past (goal.at.shared_ref_as_front-windows c).In_ok-first_refusal).tables.windows

pub returns : goal.returns
returns c meter q =
    let p = past (goal.at.returns c).In_ok-first_refusal in
    by_own _ _ _ p meter q ((rw c.span.ensures at c.window_refusal.ensures) ∙ sym (ap outcome (window_number c.args.self.now meter p.agreed c.args.w)))
