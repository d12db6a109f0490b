-- `Book::default_asked` meets its contract: the default's own operands are asked first, then the book, then what is beside it.
use mathlib.Core.Path.{sym, ap, ◌∙◌}
use Rattle.commands.specs.Refusals.{outcome}
use Rattle.commands.specs.declared.entries.Command.TheVariants.{Default as command}
use Rattle.book_sound.proofs.Search.{in_order}
use Rattle.book.proofs.SoundTests.{sound_used}
use Rattle.book.proofs.Refusals.{default_number}
use Rattle.book.proofs.Asked.{Past, past_book, by_own}
use Rattle.book.proofs.Book.default_asked.Goals as goal
use Rattle.book.proofs.Book.default_asked.Goals.{In_ok-first_refusal}

past : (c : In_ok-first_refusal) → Past c.args.self.now c.args.room (command c.args.d)
past c = past_book _ _ (command c.args.d) (c.in_ok-input_refusal.ensures {u = tt}) c.requires (c.in_ok-first_refusal.ensures {u = tt})

pub shared_ref_as_front-windows : goal.shared_ref_as_front-windows
shared_ref_as_front-windows c = (past (goal.at.shared_ref_as_front-windows c).In_ok-first_refusal).tables.windows

pub shared_ref_as_front-defaults : goal.shared_ref_as_front-defaults
shared_ref_as_front-defaults c = (past (goal.at.shared_ref_as_front-defaults c).In_ok-first_refusal).tables.defaults

pub default_refusal-requires : goal.default_refusal-requires
default_refusal-requires c = let p = past (goal.at.default_refusal-requires c).In_ok-first_refusal in in_order _ _ 0 _ (sound_used _ p.sound p.agreed).windows

pub returns : goal.returns
returns c meter q =
    let p = past (goal.at.returns c).In_ok-first_refusal in
    by_own _ _ _ p meter q ((rw c.span.ensures at c.default_refusal.ensures) ∙ sym (ap outcome (default_number c.args.self.now meter p.agreed c.args.d)))
