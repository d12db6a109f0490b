-- A date against a book: the number up to 15 that it meets, then its own, and the room for the hour of one that is taken.
use mathlib.Core.Path.{◌≡◌, sym}
use mathlib.Core.Bool.{Bool}
use Prim.Native.Nat.{ℕ, ◌+◌, ◌*◌, ◌≤◌, max}
use native.Mathlib.Nat.{le-max_left, le-max_right}
use native.Mathlib.Omega.{arith}
use lib.ListN.{length}
use borrow.Author.Tests.{ltb-false}
use Rattle.energy.specs.Lists.{any, between}
use Rattle.calendar.specs.Calendar.{days_of, gained_in}
use Rattle.calendar.specs.declared.Date.{Date}
use Rattle.commands.specs.Input.{is_reading}
use Rattle.commands.specs.declared.entries.Command.TheVariants.{Date as dateᶜ}
use Rattle.rules.specs.Ledger.{full_span}
use Rattle.rules.proofs.Reached.{dated-days}
use Rattle.book_memory.specs.Meter.{Memory, room_in, kw_at}
use Rattle.book_memory.proofs.Lengths.{room_cells}
use Rattle.book_refusal.specs.Refusals.{date_refusal}
use Rattle.book.specs.Book.{book_span, book_cells, ledger_in}
use Rattle.book.specs.Enter.{AnswersTo}
use Rattle.book.specs.declared.Book.{Book}
use Rattle.book.proofs.SoundTests.{contract_is}
use Rattle.book.proofs.Month.{span_cells}
use Rattle.book.proofs.Refusals.{own_of, date_number}
use Rattle.book.proofs.Asked.{Past, past_to, allowed_to}
use Rattle.rules.specs.Answer.{Answer}
use Rattle.std.specs.Prelude.{Ok}

-- what a date asks of lent memory
module _ (b : Book) (meter : Memory) (d : Date) (p : Past b (room_in meter) (dateᶜ d)) where
  room : max (book_cells b) (full_span b.contract d) ≤ room_in meter
  room = ltb-false (room_in meter) (max (book_cells b) (full_span b.contract d)) p.enough

  -- each minute of the span has a cell
  pub span_held : book_span b ≤ length meter.cells
  span_held = omega (arith, span_cells b, le-max_left (book_cells b) (full_span b.contract d), room, room_cells meter)

  -- its own number, from the span and its readings as the code has them
  pub dated_number : (span : ℕ) (read : Bool) → read ≡ any (λ m. is_reading (kw_at meter m)) (between 0 span) → span ≡ book_span b
      → length b.windows ≡ 128 → length b.instructions ≡ 64
      → date_refusal b.date b.nwindows b.ninstructions read b.contract d ≡ own_of b meter (dateᶜ d)
  dated_number span read r spans w i =
      rw (r, spans) (sym (date_number b meter p.agreed d (omega (arith, p.tables.windows)) (omega (arith, p.tables.instructions))))

-- one that is taken has room for its hour in both memories
pub date_room : (b : Book) (meter : Memory) (d : Date) {a : Answer} {u : Unit {0}} → AnswersTo b meter (dateᶜ d) a → a ≡ Ok u
    → 1440 * days_of d.year d.month + gained_in d.month ≤ room_in meter
date_room b meter d e f =
    let p = past_to b meter (dateᶜ d) e f in
    let a = allowed_to b meter (dateᶜ d) e f in
    let days = rw (contract_is b meter p.agreed) at (dated-days (ledger_in b meter) d a.kind.month) in
    omega (arith, days, room b meter d p, le-max_right (book_cells b) (full_span b.contract d))
