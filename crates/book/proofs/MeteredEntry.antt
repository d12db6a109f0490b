-- A reading of any revision against a book: the number up to 15 that it meets, then its own, and what the minute of one that is taken has.
use mathlib.Core.Path.{◌≡◌, refl, sym, ap, ◌∙◌}
use mathlib.Core.Bool.{Bool, true, false, not}
use Prim.Native.Nat.{ℕ, zero, suc, ◌<◌}
use native.Mathlib.Omega.{arith}
use lib.Dec.{T, leb, ltb}
use lib.ListN.{length}
use borrow.Author.Tests.{leb-false, ltb-false}
use Rattle.commands.specs.Command.{revised_as, always}
use Rattle.commands.specs.Input.{is_reading, input_refusal}
use Rattle.commands.specs.declared.entries.Reading.{Reading}
use Rattle.commands.proofs.ByKind.{revised_not}
use Rattle.rules.specs.Ledger.{is_contract, span_in}
use Rattle.rules.specs.Refusal.{beyond_span}
use Rattle.book_memory.specs.Meter.{Memory, room_in, written_at}
use Rattle.book_memory.proofs.Lengths.{room_holds}
use Rattle.book_memory.proofs.TakenReading.{put_revised, revised_fits}
use Rattle.book_refusal.specs.Refusals.{any_refusal, reading_refusal}
use Rattle.book.specs.Book.{book_span, book_cells, ledger_in, put_book}
use Rattle.book.specs.Enter.{AnswersTo, Enters, taken_as}
use Rattle.book.specs.Sound.{sound}
use Rattle.book.specs.declared.Book.{Book}
use Rattle.book.proofs.Month.{span_is, span_cells}
use Rattle.book.proofs.Refusals.{revised_cells, cells_of, any_of, own_of, reading_number}
use Rattle.book.proofs.Asked.{Past, past_to, taken_to, allowed_to}
use Rattle.rules.specs.Answer.{Answer}
use Rattle.std.specs.Prelude.{Ok}

-- it changes nothing in the book
pub same_book_lem : (b : Book) (n : ℕ) (r : Reading) → put_book b (revised_as n r) ≡ b
same_book_lem b zero r = refl
same_book_lem b (suc n) r = refl

-- 16 looks at its minute
by_minute : (b : Book) (meter : Memory) (n : ℕ) (r : Reading)
    → beyond_span (ledger_in b meter) (revised_as n r) ≡ leb (span_in (ledger_in b meter)) r.minute.0
by_minute b meter zero r = refl
by_minute b meter (suc n) r = refl

-- it is in a book with a contract
agreed : (b : Book) (meter : Memory) (n : ℕ) (r : Reading) → Past b (room_in meter) (revised_as n r) → b.agreed ≡ true
agreed b meter n r p = p.agreed ∙ ap not (revised_not (λ k. true) (always false) n r)

-- the number up to 15, which asks for the room that the book needs
pub any-revised : (b : Book) (room n : ℕ) (r : Reading)
    → any_of b room (revised_as n r) ≡ any_refusal (input_refusal (revised_as n r)) (sound b) b.closed b.agreed false (ltb room (book_cells b))
any-revised b room n r = rw (revised_not (λ k. true) (always false) n r, revised_cells b n r)

-- and where its operands are not refused
pub first_revised : (b : Book) (room : ℕ) (s : Bool) (n : ℕ) (r : Reading)
    → any_refusal 0 s b.closed b.agreed false (ltb room (book_cells b))
    ≡ any_refusal 0 s b.closed b.agreed (is_contract (revised_as n r)) (ltb room (cells_of b (revised_as n r)))
first_revised b room s n r = rw (revised_not (λ k. true) (always false) n r, revised_cells b n r) refl

-- its conditions, from the span as the code has it
pub revised_number : (b : Book) (meter : Memory) (n : ℕ) (r : Reading) (span : ℕ) → Past b (room_in meter) (revised_as n r) → span ≡ book_span b
    → reading_refusal span meter n r ≡ own_of b meter (revised_as n r)
revised_number b meter n r span p spans = rw spans (sym (reading_number b meter (agreed b meter n r p) n r))

-- one that is taken changes lent memory alone; its minute has a cell and a byte, and its kW fits the cell
module _ (b : Book) (meter : Memory) (n : ℕ) (r : Reading) {a : Answer} {u : Unit {0}} (e : AnswersTo b meter (revised_as n r) a) (f : a ≡ Ok u) where
  pub takes : Enters b meter (revised_as n r) (taken_as b) (written_at r.minute.0 r.kw.0 n meter)
  takes = rw (same_book_lem b n r, put_revised meter n r) at (taken_to b meter (revised_as n r) e f)

  pub place : input_refusal (revised_as n r) ≡ 0 → (r.minute.0 < length meter.cells) × (r.minute.0 < length meter.revisions) × T (is_reading r.kw.0)
  place i =
      let p = past_to b meter (revised_as n r) e f in
      let a = allowed_to b meter (revised_as n r) e f in
      let inside = leb-false (span_in (ledger_in b meter)) r.minute.0 (sym (by_minute b meter n r) ∙ a.kind.inside) in
      let room = ltb-false (room_in meter) (book_cells b) (ap (ltb (room_in meter)) (sym (revised_cells b n r)) ∙ p.enough) in
      let held = room_holds meter r.minute.0 (omega (arith, inside, room, span_is b meter (agreed b meter n r p), span_cells b)) in
      (held.0, held.1, revised_fits n r i)
