-- Entering keeps a sound book sound, whatever lent memory holds: so a list of commands needs the test for 11 only once.
use mathlib.Core.Path.{◌≡◌, refl, sym, ◌∙◌, subst⁻¹}
use mathlib.Core.Bool.{true, false, not, true≢false}
use mathlib.Core.Option.{Option, none, some}
use Prim.Native.Nat.{ℕ, ◌≤◌, max}
use native.Mathlib.Omega.{arith}
use borrow.Author.Tests.{ltb-false}
use Rattle.book_memory.specs.Meter.{Memory, room_in}
use Rattle.commands.specs.Command.{on_date, always}
use Rattle.rules.specs.Ledger.{contract_of, cells_in, span_of, full_span}
use Rattle.rules.proofs.Span.{cells_asked}
use Rattle.rules.specs.Refusal.{refusal}
use Rattle.commands.specs.declared.entries.Command.{Command}
use Rattle.commands.specs.declared.entries.Command.TheVariants.{Contract as contractᶜ}
use Rattle.commands.proofs.Chain.{true_or_false}
use Rattle.commands.proofs.ByKind.{contract_or_not}
use Rattle.rules.proofs.Taken.{Allowed, allowed}
use Rattle.book.specs.Book.{book_cells, ledger_in}
use Rattle.book.specs.Sound.{sound, Shaped}
use Rattle.book.specs.Enter.{enter_book, entered_by}
use Rattle.book.specs.declared.Book.{Book}
use Rattle.book.proofs.Follow.{Stands, put_stands}
use Rattle.book.proofs.Holds.{agreed_before}
use Rattle.book.proofs.Month.{cells_is, cells_empty}
use Rattle.book.proofs.FromCommands.{book_reached}

-- lent memory has room where a command is taken
cells_held : (b : Book) (meter : Memory) (c : Command) → sound b ≡ true → Allowed (room_in meter) (ledger_in b meter) c → book_cells b ≤ room_in meter
cells_held b meter c e a =
    true_or_false b.agreed (λ s. rw (cells_is b meter s) at (under c s a)) (λ s. omega (arith, cells_empty b e s))
  where
    -- a book with a contract takes no other
    under : (c : Command) → b.agreed ≡ true → Allowed (room_in meter) (ledger_in b meter) c → cells_in (ledger_in b meter) ≤ room_in meter
    under =
        contract_or_not _
        (λ k s a. absurd (true≢false (sym s ∙ agreed_before b meter (contractᶜ k) a)))
        (λ c o s a.
        let g = ledger_in b meter in
        let asked : Command → ℕ = on_date (λ d. max (cells_in g) (full_span (contract_of g) d)) (always (cells_in g)) in
        omega (arith, cells_asked g c, ltb-false (room_in meter) (asked c) (rw (o _ span_of asked) at a.book.memory)))

-- what entering leaves of a sound book
pub record Kept (b : Book) : Type 0 where
  pub sound : sound b ≡ true
  pub shaped : Shaped b

pub kept : (b : Book) (meter : Memory) (c : Command) → Kept b → Kept (enter_book b meter c).entry.book
unfolding enter_book
kept b meter c k = go (refusal (not (sound b)) (room_in meter) (ledger_in b meter) c) refl
  where
    go : (o : Option ℕ) → refusal (not (sound b)) (room_in meter) (ledger_in b meter) c ≡ o → Kept (enter_book b meter c).entry.book
    go none q =
        let taken : refusal false (room_in meter) (ledger_in b meter) c ≡ none = rw k.sound at q in
        let a = allowed (room_in meter) (ledger_in b meter) c taken in
        let stands : Stands (room_in meter) b meter =
        record {
          reached = book_reached b meter (room_in meter) k.sound (cells_held b meter c k.sound a);
          sound = k.sound;
          shaped = k.shaped;
          memory = refl;
        } in
        let after = put_stands stands c taken in
        subst⁻¹ (λ o. Kept (entered_by o b meter c).entry.book) q (record { sound = after.sound; shaped = after.shaped })
    go (some n) q = subst⁻¹ (λ o. Kept (entered_by o b meter c).entry.book) q k
