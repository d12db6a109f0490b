-- `Book::agree` meets its contract: a contract has no conditions of its own, so what the book refuses decides alone; else its span fits both
-- memories.
use mathlib.Core.Path.{refl}
use native.Mathlib.Omega.{arith}
use Prim.Native.Nat.{◌≤◌}
use borrow.Author.Tests.{ltb-false}
use Rattle.commands.specs.declared.entries.Command.TheVariants.{Contract as command}
use Rattle.commands.proofs.Outcomes.{outcome_taken}
use Rattle.rules.specs.Ledger.{span_of}
use Rattle.book_memory.specs.Lent.{held_mut}
use Rattle.book_memory.specs.Meter.{room_in}
use Rattle.book_memory.proofs.Lengths.{room_cells, room_revisions}
use Rattle.book.proofs.Refusals.{contract_own}
use Rattle.book.proofs.Asked.{Past, by_book, past_book, by_own, handed_to, taken_to}
use Rattle.book.proofs.Book.agree.Goals as goal
use Rattle.book.proofs.Book.agree.Goals.{In_ok-any_refusal}

past : (c : In_ok-any_refusal) → let s = c.args in Past s.self.now (room_in (held_mut s.memory.now)) (command s.k)
past c =
    past_book _ _ (command c.args.k) (outcome_taken _ c.requires.1) c.requires.0
    (rw (c.span_of-span.ensures, c.room.ensures, c.read.ensures) at (c.in_ok-any_refusal.ensures {u = tt}))

-- the span that both memories have room for
span_fits : (c : In_ok-any_refusal) → c.span_of-span.result ≤ room_in (held_mut c.args.memory.now)
span_fits c =
    rw c.span_of-span.ensures
    (ltb-false (room_in (held_mut c.args.memory.now)) (span_of c.args.k) (past c).enough)

pub mark-requires : goal.mark-requires
mark-requires c = omega (arith, span_fits c.before, room_cells (held_mut c.args.memory.now))

pub clear-requires : goal.clear-requires
clear-requires c =
    omega (arith, span_fits c.before.before.before, room_revisions (held_mut c.args.memory.now))

pub returns : goal.returns
returns c =
    let s = c.args in
    let memory = held_mut s.memory.now in
    let p =
    past_book s.self.now (room_in memory) (command s.k) (outcome_taken _ c.requires.1) c.requires.0
    (rw (c.span_of-span.ensures, c.room.ensures, c.read.ensures) at (c.in_ok-any_refusal.ensures {u = tt})) in (
      rw (c.mark.ensures, c.clear.ensures, c.span_of-span.ensures)
          (taken_to s.self.now memory (command s.k) (by_own s.self.now (room_in memory) (command s.k) p memory refl (outcome_taken _ (contract_own s.self.now memory s.k))) refl),
      (refl, refl),
    )

pub returns-in_err-any_refusal : goal.returns-in_err-any_refusal
returns-in_err-any_refusal c =
    let s = c.args in
    let memory = held_mut s.memory.now in (
      handed_to s.self.now memory (command s.k)
          (by_book s.self.now (room_in memory) (command s.k) (outcome_taken _ c.requires.1) c.requires.0
          (rw (c.span_of-span.ensures, c.room.ensures, c.read.ensures) at (c.in_err-any_refusal.ensures {u = tt})) memory refl) refl c.from_residual.ensures.1,
      (refl, refl),
    )
