-- `Book::enter_revision` meets its contract: a revision whose operands are in range has a number above 0.
use mathlib.Core.Path.{◌≡◌, refl, sym, subst}
use Rattle.commands.specs.Input.{input_refusal}
use Rattle.commands.specs.declared.entries.Command.TheVariants.{Revision as command}
use Rattle.commands.proofs.Outcomes.{outcome_none}
use Rattle.book_memory.specs.Lent.{held_mut}
use Rattle.book_memory.specs.Meter.{room_in}
use Rattle.book_memory.proofs.TakenReading.{revision_is}
use Rattle.book.proofs.Asked.{by_input, handed_to}
use Rattle.book.proofs.Book.enter_revision.Goals as goal

pub returns-in_err-input_refusal : goal.returns-in_err-input_refusal
returns-in_err-input_refusal c =
    let s = c.args in
    let memory = held_mut s.memory.now in (
      handed_to s.self.now memory (command s.v)
          (by_input s.self.now (room_in memory) (command s.v) (c.in_err-input_refusal.ensures {u = tt}) memory refl) refl c.from_residual.ensures.1,
      (refl, refl),
    )

pub meter-requires : goal.meter-requires
meter-requires c =
    let fits = outcome_none (sym (c.in_ok-input_refusal.ensures {u = tt})) in
    (c.requires, subst (λ x. input_refusal x ≡ 0) (sym (revision_is c.args.v fits)) fits)

pub returns : goal.returns
returns c =
    let fits = outcome_none (sym (c.in_ok-input_refusal.ensures {u = tt})) in
    rw (revision_is c.args.v fits) at c.meter.ensures
