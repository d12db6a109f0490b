-- What a function gives of the first n numbers: a list that it is put into, a list that has it in its places, and a sum that grows by it.
use mathlib.Core.Path.{◌≡◌, refl, sym, ◌∙◌, ap}
use mathlib.Core.List.{List, ◌∷◌, ◌++◌, map, append_assoc}
use Prim.Native.Nat.{ℕ, zero, suc, ◌+◌, ◌-◌, ◌≤◌, ◌<◌}
use native.Mathlib.Numerals.{add-one}
use native.Mathlib.Omega.{arith}
use lib.IntN.{ℤ, pos, ◌+ℤ◌}
use lib.ListN.{length, get_or, drop, set}
use lib.Seq.{drop-cons, set_at, ext_get_or}
use Rattle.energy.specs.Lists.{sum, run, between}
use Rattle.rules.proofs.Folds.{length-first, first-snoc, sum-snoc}

module _ {A : Type 0} (f : ℕ → A) where
  -- put one after the other into a list's first places
  pub sets_first : (s : ℕ → List A) → ((n : ℕ) → s (suc n) ≡ set (s n) n (f n)) → (n : ℕ) → n ≤ length (s 0)
      → s n ≡ map f (between 0 n) ++ drop n (s 0)
  unfolding between run
  sets_first s e zero h = refl
  sets_first s e (suc n) h =
      let l : map f (between 0 n) ++ drop n (s 0) ≡ map f (between 0 n) ++ get_or (s 0) n (f n) ∷ drop (suc n) (s 0) = rw (drop-cons (s 0) n (f n) h) in
      e n ∙ ap (λ z. set z n (f n)) (sets_first s e n (omega arith) ∙ l)
      ∙ set_at (map f (between 0 n)) (get_or (s 0) n (f n)) (drop (suc n) (s 0)) (f n) n (length-first f n)
      ∙ sym (rw (← add-one n, first-snoc f n, append_assoc))

  first_go : (d : A) (a n i : ℕ) → i < n → get_or (map f (run a n)) i d ≡ f (a + i)
  unfolding run
  first_go d a zero i h = absurd (omega arith)
  first_go d a (suc n) zero h = ap f (omega arith)
  first_go d a (suc n) (suc i) h = first_go d (suc a) n i (omega arith) ∙ ap f (omega arith)

  -- a list of n elements that has them in its places
  pub first_are : (d : A) (xs : List A) (n : ℕ) → length xs ≡ n → ((i : ℕ) → i < n → get_or xs i d ≡ f i) → xs ≡ map f (between 0 n)
  unfolding between
  first_are d xs n e h =
      ext_get_or d xs (map f (between 0 n)) (e ∙ sym (length-first f n))
      (λ i l. h i (omega (arith, e)) ∙ sym (first_go d 0 (n - 0) i (omega (arith, e)) ∙ ap f (omega arith)))

  -- a number that grows by g of each
  pub sum_first : (g : A → ℤ) (v : ℕ → ℤ) (m : ℕ) → v 0 ≡ pos 0 → ((n : ℕ) → n < m → v (suc n) ≡ v n +ℤ g (f n)) → (n : ℕ) → n ≤ m
      → v n ≡ sum g (map f (between 0 n))
  unfolding sum between run
  sum_first g v m z e zero h = z
  sum_first g v m z e (suc n) h =
      e n h ∙ ap (λ x. x +ℤ g (f n)) (sum_first g v m z e n (omega arith))
      ∙ sym (rw (← add-one n, first-snoc f n, sum-snoc g (map f (between 0 n)) (f n)))
