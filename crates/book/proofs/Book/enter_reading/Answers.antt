-- `Book::enter_reading` meets its contract: a plain reading is the one of revision 0.
use mathlib.Core.Path.{refl, sym}
use Rattle.commands.specs.declared.entries.Command.TheVariants.{Reading as command}
use Rattle.commands.proofs.Outcomes.{outcome_none}
use Rattle.book_memory.specs.Lent.{held_mut}
use Rattle.book_memory.specs.Meter.{room_in}
use Rattle.book.proofs.Asked.{by_input, handed_to}
use Rattle.book.proofs.Book.enter_reading.Goals as goal

pub returns-in_err-input_refusal : goal.returns-in_err-input_refusal
returns-in_err-input_refusal c =
    let s = c.args in
    let memory = held_mut s.memory.now in (
      handed_to s.self.now memory (command s.r)
          (by_input s.self.now (room_in memory) (command s.r) (c.in_err-input_refusal.ensures {u = tt}) memory refl) refl c.from_residual.ensures.1,
      (refl, refl),
    )

pub meter-requires : goal.meter-requires
meter-requires c = (c.requires, outcome_none (sym (c.in_ok-input_refusal.ensures {u = tt})))
