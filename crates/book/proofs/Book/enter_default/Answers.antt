-- `Book::enter_default` meets its contract: the answer decides, and a default that is taken has a place in its table.
use Rattle.std.proofs.Common.{◌<◌, refl, arith, rules}
use Rattle.commands.specs.declared.entries.Command.TheVariants.{Default as command}
use Rattle.rules.proofs.Folds.{length_mapped}
use Rattle.book.proofs.Asked.{handed_at, taken_at, default_place}
use Rattle.book.proofs.Book.enter_default.Goals as goal
use Rattle.book.proofs.Book.enter_default.Goals.{In_ok-default_asked}

pub returns-in_err-default_asked : goal.returns-in_err-default_asked
returns-in_err-default_asked c =
    handed_at c.args.self.now c.args.room (command c.args.d) (c.in_err-default_asked.ensures {u = tt}) refl c.from_residual.ensures.1

place : (c : In_ok-default_asked) → c.args.self.now.ndefaults < 128
place c = default_place c.args.self.now c.args.room c.args.d (c.in_ok-default_asked.ensures {u = tt}) refl (search (length_mapped, rules))

pub offset_bounds-self-n : goal.offset_bounds-self-n
offset_bounds-self-n c = omega (arith, place (goal.at.offset_bounds-self-n c).In_ok-default_asked)

pub bounds-self-n : goal.bounds-self-n
bounds-self-n c = place (goal.at.bounds-self-n c).In_ok-default_asked

pub overflow_add-self : goal.overflow_add-self
overflow_add-self c = omega (arith, place (goal.at.overflow_add-self c).In_ok-default_asked)

pub returns : goal.returns
returns c = taken_at c.args.self.now c.args.room (command c.args.d) (c.in_ok-default_asked.ensures {u = tt}) refl (λ m. refl)
