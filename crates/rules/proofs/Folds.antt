-- A test, a number or a list that grows with the first n elements is the whole list's at its length.
use mathlib.Core.Path.{◌≡◌, refl, sym, ◌∙◌, ap, ap₂}
use mathlib.Core.Bool.{Bool, true, false, cond, ◌&&◌, ◌||◌}
use mathlib.Core.List.{List, [], ◌∷◌, ◌++◌, map}
use Prim.Native.Nat.{ℕ, zero, suc, ◌+◌, ◌-◌, ◌≤◌, ◌<◌, zero-le}
use native.Mathlib.Nat.{le_refl}
use native.Mathlib.Omega.{arith}
use lib.IntN.{ℤ, ◌+ℤ◌, +ℤ_idr}
use lib.ListN.{length, get_or, take, length-map}
use lib.Seq.{take-suc, take-length}
use Rattle.energy.specs.Lists.{any, count, filter, sum, run, between}
use Rattle.energy.proofs.Sums.{between-snoc, length-between, sum-append}
use Rattle.energy.proofs.Tests.{any_snoc}
use Rattle.rules.proofs.Lists.{count-append}
pub use Rattle.rules.proofs.Taken.{concat_map_snoc}

module _ {A : Type 0} where
  any_to : (f : A → Bool) (d : A) (xs : List A) (r : ℕ → Bool) → r 0 ≡ false → ((n : ℕ) → n < length xs → r (suc n) ≡ (r n || f (get_or xs n d))) → (n : ℕ)
      → n ≤ length xs → r n ≡ any f (take n xs)
  unfolding any
  any_to f d xs r z e zero h = z
  any_to f d xs r z e (suc n) h =
      e n h ∙ ap (λ b. b || f (get_or xs n d)) (any_to f d xs r z e n (omega arith)) ∙ sym (ap (any f) (take-suc xs n d h) ∙ any_snoc f (take n xs) (get_or xs n d))

  -- a test that holds of none at first, and then of one more
  pub any-all : (f : A → Bool) (d : A) (xs : List A) (r : ℕ → Bool) → r 0 ≡ false → ((n : ℕ) → n < length xs → r (suc n) ≡ (r n || f (get_or xs n d)))
      → r (length xs) ≡ any f xs
  any-all f d xs r z e = any_to f d xs r z e (length xs) (le_refl (length xs)) ∙ ap (any f) (take-length xs)

  pub any_and : (a : Bool) (p q : A → Bool) (xs : List A) → any (λ x. (a && p x) && q x) xs ≡ (a && any (λ x. p x && q x) xs)
  unfolding any
  any_and true p q xs = refl
  any_and false p q [] = refl
  any_and false p q (x ∷ xs) = any_and false p q xs

  pub count-snoc : (f : A → Bool) (xs : List A) (x : A) → count f (xs ++ (x ∷ [])) ≡ count f xs + cond (f x) 1 0
  unfolding count
  count-snoc f xs x = count-append f xs (x ∷ []) ∙ ap (λ n. count f xs + n) (go (f x))
    where
      go : (b : Bool) → ◌≡◌ {A = ℕ} (elim b [ true ↦ 1 | false ↦ 0 ]) (cond b 1 0)
      go true = refl
      go false = refl

  pub sum-snoc : (f : A → ℤ) (xs : List A) (x : A) → sum f (xs ++ (x ∷ [])) ≡ sum f xs +ℤ f x
  unfolding sum
  sum-snoc f xs x = sum-append f xs (x ∷ []) ∙ ap (λ z. sum f xs +ℤ z) (+ℤ_idr (f x))

  -- what a test keeps of a list is counted by it
  pub count-filter : (f : A → Bool) (xs : List A) → length (filter f xs) ≡ count f xs
  unfolding filter count
  count-filter f [] = refl
  count-filter f (x ∷ xs) = go (f x) (count-filter f xs)
    where
      go : (b : Bool) → length (filter f xs) ≡ count f xs
          → length {A = A} (elim b [ true ↦ x ∷ filter f xs | false ↦ filter f xs ]) ≡ elim b [ true ↦ suc (count f xs) | false ↦ count f xs ]
      go true e = ap suc e
      go false e = e

module _ {A B : Type 0} where
  pub map_snoc : (f : A → B) (xs : List A) (x : A) → map f (xs ++ (x ∷ [])) ≡ map f xs ++ (f x ∷ [])
  map_snoc f [] x = refl
  map_snoc f (y ∷ xs) x = ap (λ l. f y ∷ l) (map_snoc f xs x)

  -- an array's length, as owning it tells, is that of the list of its elements' values
  pub length_mapped : (f : A → B) (l : List A) (n : ℕ) → length (map f l) ≡ n → length l ≡ n
  length_mapped f l n e = sym (length-map l f) ∙ e

-- ---- numbers in a row
pub count_none : (f : ℕ → Bool) (a : ℕ) → count f (between a a) ≡ 0
unfolding count between run
count_none f a = let e : a - a ≡ 0 = omega arith in rw e refl

count_go : (f g : ℕ → Bool) (a c n : ℕ) → ((m : ℕ) → m < n → f (a + m) ≡ g (c + m)) → count f (run a n) ≡ count g (run c n)
unfolding count run
count_go f g a c zero h = refl
count_go f g a c (suc n) h =
    let e : f a ≡ g c = ap f (omega arith) ∙ h 0 (omega arith) ∙ ap g (omega arith) in
    let k : Bool → ℕ → ℕ = λ b m. elim b [ true ↦ suc m | false ↦ m ] in
    ap₂ k e (count_go f g (suc a) (suc c) n (λ m l. ap f (omega arith) ∙ h (suc m) (omega arith) ∙ ap g (omega arith)))

-- the same test of the numbers in another row
pub count_shift : (f g : ℕ → Bool) (a b c d : ℕ) → b - a ≡ d - c → ((m : ℕ) → m < b - a → f (a + m) ≡ g (c + m)) → count f (between a b) ≡ count g (between c d)
unfolding between
count_shift f g a b c d e h = count_go f g a c (b - a) h ∙ ap (λ n. count g (run c n)) e

-- what f gives of the first n numbers
module _ {A : Type 0} (f : ℕ → A) where
  pub length-first : (n : ℕ) → length (map f (between 0 n)) ≡ n
  length-first n = length-map (between 0 n) f ∙ length-between 0 n ∙ omega arith

  pub first-snoc : (n : ℕ) → map f (between 0 (n + 1)) ≡ map f (between 0 n) ++ (f n ∷ [])
  first-snoc n = ap (map f) (between-snoc 0 n zero-le) ∙ map_snoc f (between 0 n) n
