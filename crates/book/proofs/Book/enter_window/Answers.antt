-- `Book::enter_window` meets its contract: the answer decides, and a window that is taken has a place in its table.
use Rattle.std.proofs.Common.{◌<◌, refl, arith, rules}
use Rattle.commands.specs.declared.entries.Command.TheVariants.{Window as command}
use Rattle.rules.proofs.Folds.{length_mapped}
use Rattle.book.proofs.Asked.{handed_at, taken_at, window_place}
use Rattle.book.proofs.Book.enter_window.Goals as goal
use Rattle.book.proofs.Book.enter_window.Goals.{In_ok-window_asked}

pub returns-in_err-window_asked : goal.returns-in_err-window_asked
returns-in_err-window_asked c =
    handed_at c.args.self.now c.args.room (command c.args.w) (c.in_err-window_asked.ensures {u = tt}) refl c.from_residual.ensures.1

place : (c : In_ok-window_asked) → c.args.self.now.nwindows < 128
place c = window_place c.args.self.now c.args.room c.args.w (c.in_ok-window_asked.ensures {u = tt}) refl (search (length_mapped, rules))

pub offset_bounds-self-n : goal.offset_bounds-self-n
offset_bounds-self-n c = omega (arith, place (goal.at.offset_bounds-self-n c).In_ok-window_asked)

pub bounds-self-n : goal.bounds-self-n
bounds-self-n c = place (goal.at.bounds-self-n c).In_ok-window_asked

pub overflow_add-self : goal.overflow_add-self
overflow_add-self c = omega (arith, place (goal.at.overflow_add-self c).In_ok-window_asked)

pub returns : goal.returns
returns c = taken_at c.args.self.now c.args.room (command c.args.w) (c.in_ok-window_asked.ensures {u = tt}) refl (λ m. refl)
