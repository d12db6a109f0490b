-- `Book::instruction_asked` meets its contract: the instruction's own operands are asked first, then the book, then what is beside it.
use mathlib.Core.Path.{sym, ap, ◌∙◌}
use Rattle.commands.specs.Refusals.{outcome}
use Rattle.commands.specs.declared.entries.Command.TheVariants.{Instruction as command}
use Rattle.energy.proofs.Tests.{of_T}
use Rattle.book.proofs.SoundTests.{sound_used}
use Rattle.book.proofs.Refusals.{instruction_number}
use Rattle.book.proofs.Asked.{Past, past_book, by_own}
use Rattle.book.proofs.Book.instruction_asked.Goals as goal
use Rattle.book.proofs.Book.instruction_asked.Goals.{In_ok-first_refusal}

past : (c : In_ok-first_refusal) → Past c.args.self.now c.args.room (command c.args.i)
past c = past_book _ _ (command c.args.i) (c.in_ok-input_refusal.ensures {u = tt}) c.requires (c.in_ok-first_refusal.ensures {u = tt})

pub shared_ref_as_front-instructions : goal.shared_ref_as_front-instructions
shared_ref_as_front-instructions c = (past (goal.at.shared_ref_as_front-instructions c).In_ok-first_refusal).tables.instructions

pub instruction_refusal-requires : goal.instruction_refusal-requires
instruction_refusal-requires c =
    let p = past (goal.at.instruction_refusal-requires c).In_ok-first_refusal in
    of_T _ (sound_used _ p.sound p.agreed).operands

pub returns : goal.returns
returns c meter q =
    let p = past (goal.at.returns c).In_ok-first_refusal in
    by_own _ _ _ p meter q ((rw c.span.ensures at c.instruction_refusal.ensures) ∙ sym (ap outcome (instruction_number c.args.self.now meter p.agreed c.args.i)))
