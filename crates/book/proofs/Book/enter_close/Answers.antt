-- `Book::enter_close` meets its contract: a close has no operands and no conditions of its own, so what the book refuses decides alone.
use mathlib.Core.Path.{◌≡◌, refl}
use Rattle.std.specs.Prelude.{Ok}
use Rattle.commands.specs.Input.{first_met, input_refusal}
use Rattle.commands.specs.Refusals.{outcome}
use Rattle.commands.specs.declared.entries.Command.TheVariants.{Close as command}
use Rattle.commands.proofs.Outcomes.{outcome_taken}
use Rattle.rules.specs.Answer.{Answer}
use Rattle.book.proofs.Refusals.{close_own}
use Rattle.book.proofs.Asked.{by_book, past_book, by_own, handed_at, taken_at}
use Rattle.book.proofs.Book.enter_close.Goals as goal

no_input : ◌≡◌ {A = Answer} (Ok tt) (outcome (input_refusal command))
unfolding input_refusal first_met outcome
no_input = refl

pub returns-in_err-first_refusal : goal.returns-in_err-first_refusal
returns-in_err-first_refusal c =
    let s = c.args in
    handed_at s.self.now s.room command
    (λ meter q. by_book s.self.now s.room command no_input c.requires (c.in_err-first_refusal.ensures {u = tt}) meter q) refl c.from_residual.ensures.1

pub returns : goal.returns
returns c =
    let s = c.args in
    let p = past_book s.self.now s.room command no_input c.requires (c.in_ok-first_refusal.ensures {u = tt}) in
    taken_at s.self.now s.room command (λ meter q. by_own s.self.now s.room command p meter q (outcome_taken _ (close_own s.self.now meter))) refl (λ m. refl)
