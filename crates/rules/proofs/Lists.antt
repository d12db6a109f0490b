-- Laws of what a test keeps of a list, and how many it keeps; and what stands within a list.
use mathlib.Core.Path.{◌≡◌, refl, sym, ap, ap₂, ◌∙◌, subst}
use mathlib.Core.Logic.{⊎_elim}
use mathlib.Core.Bool.{Bool, true, false, ◌&&◌}
use mathlib.Core.List.Memᴰ
use mathlib.Core.List.{List, [], ◌∷◌, ◌++◌, map, Memᴰ}
use Prim.Native.Nat.{ℕ, zero, suc, ◌+◌, ◌≤◌, ◌<◌}
use native.Mathlib.Nat.{zero-add}
use native.Mathlib.Omega.{arith}
use lib.Dec.{T}
use lib.ListN.{length, get_or}
use Rattle.energy.specs.Lists.{filter, count, between}
use Rattle.energy.proofs.Sums.{between_ind}
use Rattle.energy.proofs.Tests.{to-T, either}

-- ---- filter

module _ {A : Type 0} where
  pub filter_ext : (f g : A → Bool) → ((x : A) → f x ≡ g x) → (xs : List A) → filter f xs ≡ filter g xs
  unfolding filter
  filter_ext f g h [] = refl
  filter_ext f g h (x ∷ xs) = ap₂ (λ b l. elim b as (λ z. List A) [ true ↦ x ∷ l | false ↦ l ]) (h x) (filter_ext f g h xs)

module _ {A : Type 0} (f : A → Bool) where
  -- one element more, by what its test gives
  pub filter_yes : (x : A) (xs : List A) → f x ≡ true → filter f (x ∷ xs) ≡ x ∷ filter f xs
  unfolding filter
  filter_yes x xs e = ap (λ b. elim b as (λ z. List A) [ true ↦ x ∷ filter f xs | false ↦ filter f xs ]) e

  pub filter_no : (x : A) (xs : List A) → f x ≡ false → filter f (x ∷ xs) ≡ filter f xs
  unfolding filter
  filter_no x xs e = ap (λ b. elim b as (λ z. List A) [ true ↦ x ∷ filter f xs | false ↦ filter f xs ]) e

  -- a list filtered, by what the test of its first element gives
  pub filter_cases : (P : List A → Type 0) (x : A) (xs : List A) → (f x ≡ true → P (x ∷ filter f xs)) → (f x ≡ false → P (filter f xs)) → P (filter f (x ∷ xs))
  filter_cases P x xs p q = either (f x) (λ e. rw (filter_yes x xs e) (p e)) (λ e. rw (filter_no x xs e) (q e))

  pub filter-append : (xs ys : List A) → filter f (xs ++ ys) ≡ filter f xs ++ filter f ys
  unfolding filter
  filter-append [] ys = refl
  filter-append (x ∷ xs) ys =
      either (f x) (λ e. rw (filter_yes x (xs ++ ys) e, filter_yes x xs e) (ap (λ l. x ∷ l) (filter-append xs ys)))
      (λ e. rw (filter_no x (xs ++ ys) e, filter_no x xs e) (filter-append xs ys))

  -- what is kept was there, and passes the test
  pub kept_was : (xs : List A) {a : A} → Memᴰ a (filter f xs) → Memᴰ a xs × T (f a)
  unfolding filter
  kept_was [] h = absurd (Memᴰ.not-nil h)
  kept_was (x ∷ xs) {a} h =
      filter_cases (λ l. Memᴰ a l → Memᴰ a (x ∷ xs) × T (f a)) x xs
      (λ e m. ⊎_elim (λ q. (Memᴰ.head q, subst (λ y. T (f y)) (sym q) (to-T e))) (λ q. let r = kept_was xs q in (Memᴰ.tail r.0, r.1))
      (Memᴰ.cases_cons m))
      (λ e m. let r = kept_was xs m in (Memᴰ.tail r.0, r.1))
      h

-- ---- numbers in a row

pub in_between : (a b m : ℕ) → Memᴰ m (between a b) → (a ≤ m) × (m < b)
in_between a b m =
    between_ind (λ l. Memᴰ m l → (a ≤ m) × (m < b)) a b (λ h. absurd (Memᴰ.not-nil h))
    (λ x l i k r h. ⊎_elim (λ e. omega arith) r (Memᴰ.cases_cons h))

module _ (f : ℕ → Bool) where
  pub filter-all : (a b : ℕ) → ((x : ℕ) → a ≤ x → x < b → f x ≡ true) → filter f (between a b) ≡ between a b
  unfolding filter
  filter-all a b h = between_ind (λ l. filter f l ≡ l) a b refl (λ x l i k r. filter_yes f x l (h x i k) ∙ ap (λ l. x ∷ l) r)

  pub filter_none : (a b : ℕ) → ((x : ℕ) → a ≤ x → x < b → f x ≡ false) → filter f (between a b) ≡ []
  unfolding filter
  filter_none a b h = between_ind (λ l. filter f l ≡ []) a b refl (λ x l i k r. filter_no f x l (h x i k) ∙ r)

-- ---- count

module _ {A : Type 0} where
  pub count_yes : (f : A → Bool) (x : A) (xs : List A) → f x ≡ true → count f (x ∷ xs) ≡ suc (count f xs)
  unfolding count
  count_yes f x xs e = ap (λ b. elim b as (λ z. ℕ) [ true ↦ suc (count f xs) | false ↦ count f xs ]) e

  pub count_no : (f : A → Bool) (x : A) (xs : List A) → f x ≡ false → count f (x ∷ xs) ≡ count f xs
  unfolding count
  count_no f x xs e = ap (λ b. elim b as (λ z. ℕ) [ true ↦ suc (count f xs) | false ↦ count f xs ]) e

  pub count_ext : (f g : A → Bool) (xs : List A) → ((x : A) → f x ≡ g x) → count f xs ≡ count g xs
  unfolding count
  count_ext f g [] h = refl
  count_ext f g (x ∷ xs) h = ap₂ (λ b n. elim b as (λ z. ℕ) [ true ↦ suc n | false ↦ n ]) (h x) (count_ext f g xs h)

  pub count_none : (f : A → Bool) (xs : List A) → ((x : A) → f x ≡ false) → count f xs ≡ 0
  count_none f [] h = unfold count in refl
  count_none f (x ∷ xs) h = count_no f x xs (h x) ∙ count_none f xs h

  pub count-append : (f : A → Bool) (xs ys : List A) → count f (xs ++ ys) ≡ count f xs + count f ys
  unfolding count
  count-append f [] ys = sym (zero-add (count f ys))
  count-append f (x ∷ xs) ys =
      either (f x) (λ e. rw (count_yes f x (xs ++ ys) e, count_yes f x xs e) (omega (arith, count-append f xs ys)))
      (λ e. rw (count_no f x (xs ++ ys) e, count_no f x xs e) (count-append f xs ys))

  pub count-filter : (f p : A → Bool) (xs : List A) → count f (filter p xs) ≡ count (λ x. p x && f x) xs
  unfolding count filter
  count-filter f p [] = refl
  count-filter f p (x ∷ xs) = go (p x) (count-filter f p xs)
    where
      go : (a : Bool) → count f (filter p xs) ≡ count (λ x. p x && f x) xs
          → count f (elim a as (λ z. List A) [ true ↦ x ∷ filter p xs | false ↦ filter p xs ])
          ≡ elim (a && f x) as (λ z. ℕ) [ true ↦ suc (count (λ x. p x && f x) xs) | false ↦ count (λ x. p x && f x) xs ]
      go true e = ap (λ n. elim (f x) as (λ z. ℕ) [ true ↦ suc n | false ↦ n ]) e
      go false e = e

pub count-without : (f : ℕ → Bool) (a b : ℕ) → ((x : ℕ) → a ≤ x → x < b → f x ≡ false) → count f (between a b) ≡ 0
unfolding count
count-without f a b h = between_ind (λ l. count f l ≡ 0) a b refl (λ x l i k r. count_no f x l (h x i k) ∙ r)

module _ {A B : Type 0} where
  pub count_map : (f : B → Bool) (g : A → B) (xs : List A) → count f (map g xs) ≡ count (λ x. f (g x)) xs
  unfolding count
  count_map f g [] = refl
  count_map f g (x ∷ xs) = ap (λ n. elim (f (g x)) as (λ z. ℕ) [ true ↦ suc n | false ↦ n ]) (count_map f g xs)

-- ---- places

-- within the list, what stands past its end does not matter
pub get_d_within : {A : Type 0} (l : List A) (i : ℕ) (d d' : A) → i < length l → get_or l i d ≡ get_or l i d'
get_d_within [] i d d' h = absurd (omega arith)
get_d_within (x ∷ l) zero d d' h = refl
get_d_within (x ∷ l) (suc i) d d' h = get_d_within l i d d' (omega arith)
