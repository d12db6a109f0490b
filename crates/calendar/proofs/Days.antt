-- Sums over lists, and over numbers in a row: one more at the end, the same number by number, shifted; counts and lengths as sums.
use mathlib.Core.Path.{◌≡◌, refl, ap, ap₂, ◌∙◌}
use mathlib.Core.Bool.{Bool, true, false, cond}
use mathlib.Core.List.{List, [], ◌∷◌, ◌++◌, map}
use Prim.Native.Nat.{ℕ, zero, suc, ◌+◌, ◌-◌, ◌*◌, ◌≤◌, ◌<◌}
use native.Mathlib.Nat.{mul-suc}
use native.Mathlib.Omega.{arith}
use lib.ListN.{length}
use Rattle.energy.specs.Lists.{between, concat_map, count, run, sum_ℕ}
use Rattle.energy.proofs.Sums.{between-snoc, between_ind, length-between}

module _ {A : Type 0} where
  pub sum-append : (f : A → ℕ) (xs ys : List A) → sum_ℕ f (xs ++ ys) ≡ sum_ℕ f xs + sum_ℕ f ys
  unfolding sum_ℕ
  sum-append f [] ys = omega arith
  sum-append f (x ∷ xs) ys = omega (arith, sum-append f xs ys)

  -- each counts as 1
  pub count-sum : (f : A → Bool) (xs : List A) → count f xs ≡ sum_ℕ (λ x. cond (f x) 1 0) xs
  unfolding count sum_ℕ
  count-sum f [] = refl
  count-sum f (x ∷ xs) = go (f x) (count-sum f xs)
    where
      go : (b : Bool) → count f xs ≡ sum_ℕ (λ x. cond (f x) 1 0) xs
          → ◌≡◌ {A = ℕ} (elim b as (λ b. ℕ) [ true ↦ suc (count f xs) | false ↦ count f xs ]) (cond b 1 0 + sum_ℕ (λ x. cond (f x) 1 0) xs)
      go true e = omega arith
      go false e = omega arith

  pub length-sum : (xs : List A) → length xs ≡ sum_ℕ (λ x. 1) xs
  unfolding sum_ℕ
  length-sum [] = refl
  length-sum (x ∷ xs) = omega (arith, length-sum xs)

module _ {A B : Type 0} where
  pub sum-map : (f : B → ℕ) (g : A → B) (xs : List A) → sum_ℕ f (map g xs) ≡ sum_ℕ (λ x. f (g x)) xs
  unfolding sum_ℕ
  sum-map f g [] = refl
  sum-map f g (x ∷ xs) = ap (λ n. f (g x) + n) (sum-map f g xs)

  -- list by list
  pub sum-concat : (f : B → ℕ) (g : A → List B) (xs : List A) → sum_ℕ f (concat_map g xs) ≡ sum_ℕ (λ x. sum_ℕ f (g x)) xs
  unfolding sum_ℕ concat_map
  sum-concat f g [] = refl
  sum-concat f g (x ∷ xs) = sum-append f (g x) (concat_map g xs) ∙ ap (λ n. sum_ℕ f (g x) + n) (sum-concat f g xs)

-- ---- numbers in a row

-- one number more, at the end
pub sum-snoc : (f : ℕ → ℕ) (a b : ℕ) → a ≤ b → sum_ℕ f (between a (b + 1)) ≡ sum_ℕ f (between a b) + f b
unfolding sum_ℕ
sum-snoc f a b h = ap (sum_ℕ f) (between-snoc a b h) ∙ sum-append f (between a b) (b ∷ []) ∙ omega arith

-- as many numbers from a
pub between_same : (a b c : ℕ) → b - a ≡ c - a → between a b ≡ between a c
unfolding between
between_same a b c e = ap (run a) e

-- the same number by number
pub sum_ext : (f h : ℕ → ℕ) (a b : ℕ) → ((m : ℕ) → a ≤ m → m < b → f m ≡ h m) → sum_ℕ f (between a b) ≡ sum_ℕ h (between a b)
unfolding sum_ℕ
sum_ext f h a b e = between_ind (λ l. sum_ℕ f l ≡ sum_ℕ h l) a b refl (λ m l i k r. ap₂ ◌+◌ (e m i k) r)

pub sum_same : (f : ℕ → ℕ) (q a b : ℕ) → ((m : ℕ) → a ≤ m → m < b → f m ≡ q) → sum_ℕ f (between a b) ≡ q * (b - a)
unfolding sum_ℕ
sum_same f q a b h =
    rw (← length-between a b)
    (between_ind (λ l. sum_ℕ f l ≡ q * length l) a b (omega arith) (λ m l i k r. omega (arith, h m i k, mul-suc q (length l))))

-- the numbers a further on
pub sum_shift : (f : ℕ → ℕ) (a k n : ℕ) → sum_ℕ (λ d. f (a + d)) (run k n) ≡ sum_ℕ f (run (a + k) n)
unfolding sum_ℕ run
sum_shift f a k zero = refl
sum_shift f a k (suc n) = let e : a + suc k ≡ suc (a + k) = omega arith in ap (λ s. f (a + k) + s) (sum_shift f a (suc k) n ∙ rw e refl)
