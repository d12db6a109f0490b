-- When settling is refused, in the order of the numbers; and what a book has that is not refused.
use mathlib.Core.Path.{◌≡◌, refl, sym, ap, ◌∙◌}
use mathlib.Core.Bool.{Bool, true, false, not, cond}
use mathlib.Core.Option.{Option, none, some}
use Prim.Native.Nat.{ℕ, ◌≤◌, ◌<◌}
use native.Mathlib.Omega.{arith}
use lib.Dec.{ltb}
use lib.ListN.{length}
use borrow.Author.Tests.{lt-ltb, le-ltb, ltb-false}
use Rattle.book_memory.specs.Meter.{Memory, room_in}
use Rattle.energy.proofs.Tests.{off_not, of_T}
use Rattle.std.specs.Prelude.{Result, Ok, Err, MatchResult}
use Rattle.std.specs.Result.{IsErrAnd}
use Rattle.commands.specs.Refusals.{number_of}
use Rattle.commands.specs.declared.refusal.Refusal.{Refusal}
use Rattle.commands.proofs.Outcomes.{Answered, refused_by}
use Rattle.rules.specs.Ledger.{Ledger, cells_in}
use Rattle.commands.specs.Input.{first_met}
use Rattle.rules.specs.Segment.{complete, segments}
use Rattle.rules.specs.Statement.{settle_conditions, settle_refusal}
use Rattle.book.specs.Book.{book_cells, ledger_in}
use Rattle.book.specs.Sound.{sound}
use Rattle.book.specs.declared.Book.{Book}
use Rattle.book.proofs.Month.{cells_sound}
use Rattle.rules.proofs.Taken.{clear}
use Rattle.settle.specs.Settle.{refusal_for}

-- ---- the refusals in their order
module _ (b : Book) (meter : Memory) (room : ℕ) where
  abbrev g : Ledger
  g = ledger_in b meter

  abbrev refusal : Option ℕ
  refusal = refusal_for b meter room

  pub is_11 : sound b ≡ false → refusal ≡ some 11
  unfolding settle_refusal settle_conditions first_met
  is_11 e = rw e refl

  module _ (e : sound b ≡ true) where
    pub is_15 : room_in meter < book_cells b → refusal ≡ some 15
    unfolding settle_refusal settle_conditions first_met
    is_15 h = rw (e, lt-ltb (room_in meter) (cells_in g) (omega (arith, cells_sound b meter e))) refl

    module _ (h : book_cells b ≤ room_in meter) where
      long : ltb (room_in meter) (cells_in g) ≡ false
      long = le-ltb (room_in meter) (cells_in g) (omega (arith, cells_sound b meter e))

      pub is_24 : b.closed ≡ false → refusal ≡ some 24
      unfolding settle_refusal settle_conditions first_met ledger_in
      is_24 c = rw (e, long, c) refl

      module _ (c : b.closed ≡ true) where
        pub is_25 : complete g ≡ false → refusal ≡ some 25
        unfolding settle_refusal settle_conditions first_met ledger_in
        is_25 k = rw (e, long, k, c) refl

        module _ (k : complete g ≡ true) where
          pub is_26 : room < length (segments g) → refusal ≡ some 26
          unfolding settle_refusal settle_conditions first_met ledger_in
          is_26 l = rw (e, long, k, lt-ltb room (length (segments g)) l, c) refl

          pub is_taken : length (segments g) ≤ room → refusal ≡ none
          unfolding settle_refusal settle_conditions first_met ledger_in
          is_taken l = rw (e, long, k, le-ltb room (length (segments g)) l, c) refl

-- what `?` hands on is the refusal that it met
pub handed : {A : Type 0} {e : Refusal} (x : Result A Refusal) → IsErrAnd x (λ y. y ≡ e) → x ≡ Err e
handed (Ok u) f = absurd f
handed (Err d) f = ap Err f

-- of a condition that holds, and so of the rules
pub met : {A : Type 0} {o : Option ℕ} {b : Bool} {e : Refusal} (P : A → Type 0) (r : Refusal) (x : Result A Refusal) → IsErrAnd x (λ y. y ≡ e)
    → ◌≡◌ {A = Answered} (Err e) (cond b (Err r) (Ok tt)) → (b ≡ true → o ≡ some (number_of r)) → MatchResult x P (λ d. o ≡ some (number_of d))
met P r (Ok u) f q h = absurd f
met P r (Err d) f q h = let t = refused_by q in h t.0 ∙ ap (λ y. some (number_of y)) (sym t.1 ∙ sym f)

-- ---- none of them
pub record Open (b : Book) (meter : Memory) (room : ℕ) : Type 0 where
  pub sound : sound b ≡ true
  pub cells : book_cells b ≤ room_in meter
  pub closed : b.closed ≡ true
  pub complete : complete (ledger_in b meter) ≡ true
  pub few : length (segments (ledger_in b meter)) ≤ room

pub open_for : {b : Book} {meter : Memory} {room : ℕ} → refusal_for b meter room ≡ none → Open b meter room
unfolding settle_refusal settle_conditions ledger_in
open_for {b} {meter} {room} e =
    let g : Ledger = ledger_in b meter in
    let c = clear (settle_conditions (not (sound b)) (room_in meter) room g) e in
    let s : sound b ≡ true = of_T (sound b) (off_not (sound b) c.0) in
    record {
      sound = s;
      cells = omega (arith, ltb-false (room_in meter) (cells_in g) c.1.0, cells_sound b meter s);
      closed = of_T b.closed (off_not b.closed c.1.1.0);
      complete = of_T (complete g) (off_not (complete g) c.1.1.1.0);
      few = ltb-false room (length (segments g)) c.1.1.1.1.0;
    }
