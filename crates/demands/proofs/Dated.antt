-- An October's book by the round trip: its commands are taken, so it is sound, and asks for 44,700 minutes.
use mathlib.Core.Path.{◌≡◌, refl, sym, ap, ◌∙◌, subst}
use mathlib.Core.List.{List}
use Prim.Native.Nat.{ℕ, ◌≤◌}
use native.Mathlib.Omega.{arith}
use borrow.Author.Tests.{le-ltb}
use lib.ListN.{length}
use Rattle.book_memory.specs.Meter.{Memory, room_in}
use Rattle.calendar.specs.Calendar.{gained_in, lost_in}
use Rattle.commands.specs.Input.{first_met}
use Rattle.rules.specs.Ledger.{cells_in}
use Rattle.rules.specs.Dates.{october, on}
use Rattle.rules.specs.File.{file_of}
use Rattle.rules.proofs.DatesTaken.{dates_taken}
use Rattle.book.specs.Book.{empty_book, book_span, book_cells, ledger_in, put_all}
use Rattle.book.proofs.FromCommands.{leads, Leads}
use Rattle.book.proofs.Month.{cells_sound}
use Rattle.file_write.specs.Write.{write_conditions, write_book}
use Rattle.demands.specs.RoundTrip.{RoundTrip·theorem}
use Rattle.demands.specs.Dated.{october_book, read_again, DatedAgain·theorem}
use Rattle.demands.proofs.RoundTrip.{round_trip}
use Rattle.std.specs.Prelude.{Ok}

left : Leads 44700 october
left = subst (Leads 44700) dates_taken.in_october (leads 44700 october)

cells : book_cells october_book ≡ 44700
unfolding book_cells gained_in put_all empty_book
cells = refl

span : book_span october_book ≡ 44700
unfolding book_span gained_in lost_in put_all empty_book
span = refl

date : october_book.date ≡ on 2024 10 1
unfolding put_all empty_book
date = refl

is_written : (memory : Memory) (bytes : List ℕ) → room_in memory ≡ 44700 → length (file_of (ledger_in october_book memory)) ≤ length bytes
    → (write_book october_book memory bytes).answer ≡ Ok (length (file_of (ledger_in october_book memory)))
unfolding write_book write_conditions first_met
is_written memory bytes room long =
    let s = left.follows.stands.sound in
    rw (
      s,
      le-ltb (room_in memory) (cells_in (ledger_in october_book memory)) (omega (arith, room, cells_sound october_book memory s, cells)),
      le-ltb (length bytes) (length (file_of (ledger_in october_book memory))) long,
    )

pub dated_again : DatedAgain·theorem
unfolding DatedAgain·theorem RoundTrip·theorem
dated_again memory fresh bytes byte room again long =
    let size : ℕ = length (file_of (ledger_in october_book memory)) in
    let w = is_written memory bytes room long in
    let same : read_again memory fresh bytes size ≡ october_book =
    (round_trip october_book memory fresh bytes size left.follows.stands.shaped byte (again ∙ sym room) w).same_book in
    record { size = size; written = w; date = ap (λ b. b.date) same ∙ date; span = ap book_span same ∙ span }
