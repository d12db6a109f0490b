-- A settlement for the commands taken is right: it is answered exactly where none of its conditions holds, which are closed, complete and room for the
-- lines, and its statement is the rules' own, whose lines part the active minutes and whose totals are near the exact sums.
use mathlib.Core.Path.{◌≡◌, refl, sym, ap, ◌∙◌, subst, subst⁻¹}
use mathlib.Core.Logic.{◌↔◌, ⊎_elim}
use mathlib.Core.Bool.{Bool, false}
use mathlib.Core.List.Memᴰ
use mathlib.Core.List.{List, [], ◌∷◌, ◌++◌, Memᴰ}
use mathlib.Core.Option.{Option, none, some, none-ne-some}
use Prim.Native.Nat.{ℕ, ◌≤◌}
use native.Mathlib.Omega.{arith}
use borrow.Author.Tests.{ltb-false, le-ltb}
use lib.Dec.{T}
use lib.ListN.{length, take, drop, length-map}
use lib.Seq.{take-append_seam, drop-append_seam}
use Rattle.book_memory.specs.Meter.{Memory, room_in}
use Rattle.energy.specs.Lists.{all, is_some}
use Rattle.energy.proofs.Tests.{of_T, T_and, and_T, off_not}
use Rattle.commands.specs.Input.{first_met}
use Rattle.rules.specs.Ledger.{Ledger, Metered, ledger_of, cells_in}
use Rattle.rules.specs.Reached.{Reached}
use Rattle.rules.specs.Refusal.{answer_of}
use Rattle.rules.specs.Segment.{needed, complete, segments}
use Rattle.rules.specs.Statement.{lines, line_of, statement_of, settle_refusal, settle_conditions}
use Rattle.commands.specs.declared.entries.Command.{Command}
use Rattle.rules.specs.declared.statement.Line.{Line}
use Rattle.rules.proofs.Taken.{Clear, clear}
use Rattle.rules.proofs.FileLength.{cells_fit}
use Rattle.rules.proofs.Partition.{partition}
use Rattle.rules.proofs.Bounds.{bounds}
use Rattle.rules.specs.declared.statement.Statement.{Statement}
use Rattle.book.specs.declared.Book.{Book}
use Rattle.settle.specs.Settle.{settle_book, settled_by}
use Rattle.demands.specs.Demand3.{Needed, Given, SettlementRight, StatementRight}
use Rattle.demands.proofs.Along.{Along, settles}
use Rattle.commands.specs.Refusals.{refusal_of}
use Rattle.rules.specs.Answer.{Taken}
use Rattle.std.specs.Prelude.{Result, Ok, Err}
use Rattle.commands.specs.declared.refusal.Refusal.{Refusal}
use Rattle.rules.specs.Answer.{Answer}

-- ---- a reading in every needed minute

module _ {A : Type 0} where
  all-member : (f : A → Bool) (l : List A) → T (all f l) → (a : A) → Memᴰ a l → T (f a)
  unfolding all
  all-member f [] t a h = absurd (Memᴰ.not-nil h)
  all-member f (x ∷ xs) t a h =
      let ts : T (f x) × T (all f xs) = T_and (f x) (all f xs) t in
      ⊎_elim (λ e. subst (λ y. T (f y)) (sym e) ts.0) (λ k. all-member f xs ts.1 a k) (Memᴰ.cases_cons h)

  member-all : (f : A → Bool) (l : List A) → ((a : A) → Memᴰ a l → T (f a)) → T (all f l)
  unfolding all
  member-all f [] h = tt
  member-all f (x ∷ xs) h = and_T (f x) (all f xs) (h x (Memᴰ.head refl)) (member-all f xs (λ a k. h a (Memᴰ.tail k)))

given : (g : Ledger) (m : ℕ) → T (is_some (g.reading m)) → Given g m
unfolding is_some
given g m t = go (g.reading m) refl t
  where
    go : (o : Option Metered) → g.reading m ≡ o → T (is_some o) → Given g m
    go none e t = absurd t
    go (some x) e t = record { held = x; read = e }

is_given : (g : Ledger) (m : ℕ) → Given g m → T (is_some (g.reading m))
unfolding is_some
is_given g m h = subst (λ o. T (is_some o)) (sym h.read) tt

pub complete_given : (g : Ledger) → T (complete g) ↔ ((m : ℕ) → Needed g m → Given g m)
unfolding complete
complete_given g = (
  λ t m h. given g m (all-member (λ k. is_some (g.reading k)) (needed g) t m h.minute),
  λ h. member-all (λ k. is_some (g.reading k)) (needed g) (λ m k. is_given g m (h m (record { minute = k }))),
)

-- ---- when a settlement is answered

-- the book is closed and complete, and there are records enough
pub record Settleable (room : ℕ) (g : Ledger) : Type 0 where
  pub closed : T g.closed
  pub whole : T (complete g)
  pub enough : length (lines g) ≤ room

-- so it is where no condition holds
pub settleable : (size room : ℕ) (g : Ledger) → settle_refusal false size room g ≡ none → Settleable room g
unfolding settle_refusal settle_conditions lines
settleable size room g e =
    let c : Clear (settle_conditions false size room g) = clear (settle_conditions false size room g) e in
    record {
      closed = off_not g.closed c.1.1.0;
      whole = off_not (complete g) c.1.1.1.0;
      enough = omega (arith, ltb-false room (length (segments g)) c.1.1.1.1.0, length-map (segments g) (line_of g));
    }

-- and nowhere else, with the cells for the span
not_refused : (size room : ℕ) (g : Ledger) → cells_in g ≤ size → Settleable room g → settle_refusal false size room g ≡ none
unfolding settle_refusal settle_conditions first_met lines
not_refused size room g fits s =
    rw (
      le-ltb size (cells_in g) fits,
      of_T (complete g) s.whole,
      le-ltb room (length (segments g)) (omega (arith, s.enough, length-map (segments g) (line_of g))),
      of_T g.closed s.closed,
    )

-- a refusal is no taking
pub refused_taken : (r : Refusal) → ◌≡◌ {A = Answer} (Err r) Taken → ⊥
refused_taken n e = let z : ◌≡◌ {A = ℕ} 0 1 = cc in omega arith

-- ---- the settlement

statement_right : (g : Ledger) → StatementRight g (statement_of g) (lines g)
unfolding statement_of
statement_right g = record { ruled = refl; ruled_lines = refl; partition = partition g; halves = bounds g }

-- a statement is no refusal, and of two statements answered they are one
one_statement : {s u : Statement} → ◌≡◌ {A = Result Statement Refusal} (Ok s) (Ok u) → s ≡ u
one_statement e = cc

no_statement : {A : Type 0} {s : Statement} (r : Refusal) → ◌≡◌ {A = Result Statement Refusal} (Err r) (Ok s) → A
no_statement r e = cc

module _ (size : ℕ) (t : List Command) (records : List Line) (fits : cells_in (ledger_of t) ≤ size) where
  abbrev g : Ledger
  g = ledger_of t

  settled_right : SettlementRight size t records (settled_by (settle_refusal false size (length records) g) g records)
  unfolding statement_of
  settled_right = go (settle_refusal false size (length records) g) refl
    where
      go : (o : Option ℕ) → settle_refusal false size (length records) g ≡ o → SettlementRight size t records (settled_by o g records)
      go none e =
          let s : Settleable (length records) g = settleable size (length records) g e in
          record {
            number = ap answer_of (sym e);
            answered = (λ d. (s.closed, (complete_given g).0 s.whole, s.enough), λ h. (statement_of g, refl));
            statement = λ u d.
                subst (λ u. StatementRight g u (take u.lines (lines g ++ drop (length (lines g)) records))) (one_statement d)
                (subst⁻¹ (λ l. StatementRight g (statement_of g) l) (take-append_seam (lines g) (drop (length (lines g)) records)) (statement_right g));
            kept = λ u d.
                subst (λ (u : Statement). drop u.lines (lines g ++ drop (length (lines g)) records) ≡ drop u.lines records) (one_statement d)
                (drop-append_seam (lines g) (drop (length (lines g)) records));
            refused_kept = λ x d. no_statement x (sym d);
          }
      go (some n) e =
          record {
            number = ap answer_of (sym e);
            answered = (
              λ d. no_statement (refusal_of n) d.1,
              λ h.
                  let s : Settleable (length records) g = record { closed = h.0; whole = (complete_given g).1 h.1; enough = h.2 } in
                  absurd (none-ne-some n (sym (not_refused size (length records) g fits s) ∙ e)),
            );
            statement = λ u d. no_statement (refusal_of n) d;
            kept = λ u d. no_statement (refusal_of n) d;
            refused_kept = λ m d. refl;
          }

-- of a book that follows the commands taken
pub settlement_right : {memory : Memory} {t : List Command} {b : Book} {m : Memory} (records : List Line) → Along memory t b m
    → SettlementRight (room_in memory) t records (settle_book b m records)
settlement_right {memory} {t} records a =
    subst⁻¹ (λ r. SettlementRight (room_in memory) t records r) (settles a records)
    (settled_right (room_in memory) t records (cells_fit (subst (Reached (room_in memory)) a.follows.ledger a.follows.stands.reached)))
