-- `Book::enter_instruction` meets its contract: the answer decides, and an instruction that is taken has a place in its table.
use Rattle.std.proofs.Common.{◌<◌, refl, arith, rules}
use Rattle.commands.specs.declared.entries.Command.TheVariants.{Instruction as command}
use Rattle.rules.proofs.Folds.{length_mapped}
use Rattle.book.proofs.Asked.{handed_at, taken_at, instruction_place}
use Rattle.book.proofs.Book.enter_instruction.Goals as goal
use Rattle.book.proofs.Book.enter_instruction.Goals.{In_ok-instruction_asked}

pub returns-in_err-instruction_asked : goal.returns-in_err-instruction_asked
returns-in_err-instruction_asked c =
    handed_at c.args.self.now c.args.room (command c.args.i) (c.in_err-instruction_asked.ensures {u = tt}) refl c.from_residual.ensures.1

place : (c : In_ok-instruction_asked) → c.args.self.now.ninstructions < 64
place c = instruction_place c.args.self.now c.args.room c.args.i (c.in_ok-instruction_asked.ensures {u = tt}) refl (search (length_mapped, rules))

pub offset_bounds-self-n : goal.offset_bounds-self-n
offset_bounds-self-n c = omega (arith, place (goal.at.offset_bounds-self-n c).In_ok-instruction_asked)

pub bounds-self-n : goal.bounds-self-n
bounds-self-n c = place (goal.at.bounds-self-n c).In_ok-instruction_asked

pub overflow_add-self : goal.overflow_add-self
overflow_add-self c = omega (arith, place (goal.at.overflow_add-self c).In_ok-instruction_asked)

pub returns : goal.returns
returns c = taken_at c.args.self.now c.args.room (command c.args.i) (c.in_ok-instruction_asked.ensures {u = tt}) refl (λ m. refl)
