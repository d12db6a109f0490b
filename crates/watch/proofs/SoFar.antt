-- The minutes of a segment as far as minute m: m alone where a segment begins there, else those as far as the minute before it, and m.
use mathlib.Core.Path.{◌≡◌, refl, sym, ap, ap₂, ◌∙◌}
use mathlib.Core.Logic.{◌⊎◌, inl, inr}
use mathlib.Core.Bool.{Bool, true, false, ◌&&◌, and-true, and-false}
use mathlib.Core.List.{List, [], ◌∷◌, ◌++◌, append-nil}
use Prim.Native.Nat.{ℕ, suc, ◌+◌, ◌-◌, ◌≤◌, ◌<◌}
use native.Mathlib.Nat.{le_refl}
use native.Mathlib.Numerals.{add-one}
use native.Mathlib.Omega.{arith}
use lib.Dec.{eqb, leb}
use borrow.Author.Tests.{eq-eqb, ne_eqb, le-leb, lt-leb}
use Rattle.energy.specs.Lists.{between, filter}
use Rattle.energy.proofs.Sums.{between_ind, between-snoc, between_split}
use Rattle.commands.specs.declared.contract.Contract.{Contract}
use Rattle.commands.specs.declared.entries.Instruction.{Instruction}
use Rattle.rules.specs.Ledger.{ramp_start, end_of}
use Rattle.rules.specs.Segment.{active, alike}
use Rattle.rules.proofs.Cuts.{alike_rank, rank_of, rank_mono}
use Rattle.rules.proofs.Lists.{filter-append, filter_none, filter_yes}
use Rattle.watch.specs.Running.{ActiveMinute, minutes_to}

-- tests that are the same from a to b − 1 keep the same
filter_same : (f g : ℕ → Bool) (a b : ℕ) → ((x : ℕ) → a ≤ x → x < b → f x ≡ g x) → filter f (between a b) ≡ filter g (between a b)
unfolding filter
filter_same f g a b h =
    between_ind (λ l. filter f l ≡ filter g l) a b refl
    (λ x l i k r. ap₂ (λ b l. elim b as (λ z. List ℕ) [ true ↦ x ∷ l | false ↦ l ]) (h x i k) r)

module _ (k : Contract) (n : ℕ) (i : Instruction) where
  abbrev pub minute_at : ℕ → ActiveMinute
  minute_at m = record { number = n; instruction = i; minute = m }

  abbrev A : ℕ
  A = ramp_start k i

  abbrev B : ℕ
  B = end_of k i

  abbrev r : ℕ → ℕ
  r = rank_of k i

  -- those before m, and m
  minutes_are : (m : ℕ) → A ≤ m → m < B → minutes_to k (minute_at m) ≡ filter (λ x. eqb (r x) (r m)) (between A m) ++ m ∷ []
  unfolding minutes_to active filter
  minutes_are m h l =
      let f : ℕ → Bool = λ x. alike k i x m && leb x m in
      ap (filter f) (between_split A (m + 1) B (omega arith) (omega arith) ∙ ap (λ z. z ++ between (m + 1) B) (between-snoc A m h))
      ∙ filter-append f (between A m ++ m ∷ []) (between (m + 1) B)
      ∙ ap₂ ◌++◌ (filter-append f (between A m) (m ∷ [])
      ∙ ap₂ ◌++◌
      (filter_same f (λ x. eqb (r x) (r m)) A m (λ x a b. rw (le-leb x m (omega arith), and-true (alike k i x m)) (alike_rank k i x m)))
      (filter_yes f m [] (rw (le-leb m m (le_refl m), and-true (alike k i m m)) (alike_rank k i m m ∙ eq-eqb (r m) (r m) refl))))
      (filter_none f (m + 1) B (λ x a b. rw (lt-leb x m (omega arith)) (and-false (alike k i x m))))
      ∙ append-nil (filter (λ x. eqb (r x) (r m)) (between A m) ++ m ∷ [])

  -- a segment begins at m
  pub minutes_fresh : (m : ℕ) → A ≤ m → m < B → (m ≡ A) ⊎ (r (m - 1) < r m) → minutes_to k (minute_at m) ≡ m ∷ []
  minutes_fresh m h l q =
      minutes_are m h l ∙ ap (λ z. z ++ m ∷ []) (filter_none (λ x. eqb (r x) (r m)) A m (λ x a b. ne_eqb (r x) (r m) (λ e. before x a b q e)))
    where
      before : (x : ℕ) → A ≤ x → x < m → (m ≡ A) ⊎ (r (m - 1) < r m) → r x ≡ r m → ⊥
      before x a b (inl z) e = omega arith
      before x a b (inr z) e = omega (arith, rank_mono k i x (m - 1) (omega arith))

  -- it goes on from p
  pub minutes_on : (p : ℕ) → A ≤ p → suc p < B → r p ≡ r (suc p) → minutes_to k (minute_at (suc p)) ≡ minutes_to k (minute_at p) ++ suc p ∷ []
  unfolding filter
  minutes_on p h l e =
      minutes_are (suc p) (omega arith) l
      ∙ ap (λ z. z ++ suc p ∷ [])
      (filter_same (λ x. eqb (r x) (r (suc p))) (λ x. eqb (r x) (r p)) A (suc p) (λ x a b. ap (eqb (r x)) (sym e))
      ∙ ap (filter (λ x. eqb (r x) (r p))) (ap (between A) (sym (add-one p)) ∙ between-snoc A p h)
      ∙ filter-append (λ x. eqb (r x) (r p)) (between A p) (p ∷ [])
      ∙ ap (λ z. filter (λ x. eqb (r x) (r p)) (between A p) ++ z) (filter_yes (λ x. eqb (r x) (r p)) p [] (eq-eqb (r p) (r p) refl))
      ∙ sym (minutes_are p h (omega arith)))
