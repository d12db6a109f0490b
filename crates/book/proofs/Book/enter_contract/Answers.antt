-- `Book::enter_contract` meets its contract: the constructor's answer is that of the operands, a refusal or the contract itself.
use mathlib.Core.Path.{◌≡◌, refl, sym, subst}
use Rattle.commands.specs.Input.{input_refusal}
use Rattle.commands.specs.declared.entries.Command.TheVariants.{Contract as command}
use Rattle.commands.proofs.Input.{offer_says, offer_agrees}
use Rattle.book_memory.specs.Lent.{held_mut}
use Rattle.book_memory.specs.Meter.{room_in}
use Rattle.book.proofs.Asked.{by_input, handed_to}
use Rattle.book.proofs.Book.enter_contract.Goals as goal

pub agree-requires : goal.agree-requires
agree-requires c =
    let a = offer_agrees c.args.k _ (sym (c.in_ok-agreed.ensures {u = tt})) in
    (c.requires, subst (λ k. input_refusal (command k) ≡ 0) a.0 a.1)

pub returns : goal.returns
returns c =
    let a = offer_agrees c.args.k _ (sym (c.in_ok-agreed.ensures {u = tt})) in
    rw a.0 c.agree.ensures

pub returns-in_err-agreed : goal.returns-in_err-agreed
returns-in_err-agreed c =
    let s = c.args in
    let memory = held_mut s.memory.now in (
      handed_to s.self.now memory (command s.k)
          (by_input s.self.now (room_in memory) (command s.k) (offer_says s.k _ (c.in_err-agreed.ensures {u = tt})) memory refl) refl c.from_residual.ensures.1,
      (refl, refl),
    )
