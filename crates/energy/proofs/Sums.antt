-- Sums and tests over the minutes a to b - 1: a minute more, two parts, the same minute by minute, bounds; and what a segment delivers, by the sum of its
-- readings and its length.
use mathlib.Core.Path.{◌≡◌, refl, sym, ap, ap₂, ◌∙◌}
use mathlib.Core.Bool.{Bool, true, false, cond, not, ◌&&◌, ◌||◌, and-true}
use mathlib.Core.List.{List, [], ◌∷◌, ◌++◌, Memᴰ}
use Prim.Native.Nat.{ℕ, zero, suc, ◌+◌, ◌-◌, ◌*◌, ◌≤◌, ◌<◌}
use native.Mathlib.Nat.{le_refl, mul-suc}
use native.Mathlib.Omega.{arith}
use lib.Dec.{eqb}
use lib.IntN.{ℤ, pos, ◌+ℤ◌, ◌-ℤ◌, ◌*ℤ◌, zero-*ℤ, *ℤ-zero, +ℤ_assoc, +ℤ_idl, +ℤ_idr}
use lib.ListN.{length}
use lib.Signed.{◌≤ℤ◌}
use Rattle.energy.specs.Lists.{sum, all, any, run, between}
use Rattle.energy.specs.Energy.{delivers}
use Rattle.energy.specs.Number.{Within}
use borrow.Author.Tests.{not-true}
use Rattle.energy.proofs.Tests.{on_and, off_not, of_T, either-eq, any_snoc as any-after}
pub use Rattle.energy.proofs.Tests.{all_append}
use Rattle.energy.proofs.Integers.{distrib, add_parts, diff_parts, mul-parts, arith_ℤ}

-- ---- numbers in a row
pub run-append : (a m n : ℕ) → run a (m + n) ≡ run a m ++ run (a + m) n
unfolding run
run-append a zero n = let e : zero + n ≡ n = omega arith in let f : a + zero ≡ a = omega arith in rw (e, f) refl
run-append a (suc m) n =
    let e : suc m + n ≡ suc (m + n) = omega arith in let f : a + suc m ≡ suc a + m = omega arith in
    rw (e, f) (ap (λ l. a ∷ l) (run-append (suc a) m n))

pub between_split : (a b c : ℕ) → a ≤ b → b ≤ c → between a c ≡ between a b ++ between b c
unfolding between
between_split a b c h k =
    let e : c - a ≡ (b - a) + (c - b) = omega arith in let f : a + (b - a) ≡ b = omega arith in
    rw e (run-append a (b - a) (c - b) ∙ rw f refl)

pub between_cons : (a b : ℕ) → a < b → between a b ≡ a ∷ between (suc a) b
unfolding between run
between_cons a b h = let e : b - a ≡ suc (b - suc a) = omega arith in rw e refl

-- what holds of no number, and of one more of those from a to b - 1, holds of all of them
pub between_ind : (P : List ℕ → Type 0) (a b : ℕ) → P [] → ((m : ℕ) (l : List ℕ) → a ≤ m → m < b → P l → P (m ∷ l)) → P (between a b)
unfolding between run
between_ind P a b none more = go (b - a) a (le_refl a) (le_refl (b - a))
  where
    go : (n m : ℕ) → a ≤ m → n ≤ b - m → P (run m n)
    go zero m h k = none
    go (suc n) m h k = more m (run (suc m) n) h (omega arith) (go n (suc m) (omega arith) (omega arith))

pub length_run : (a n : ℕ) → length (run a n) ≡ n
unfolding run
length_run a zero = refl
length_run a (suc n) = ap suc (length_run (suc a) n)

pub length-between : (a b : ℕ) → length (between a b) ≡ b - a
unfolding between
length-between a b = length_run a (b - a)

module _ {A : Type 0} where
  pub sum-append : (f : A → ℤ) (xs ys : List A) → sum f (xs ++ ys) ≡ sum f xs +ℤ sum f ys
  unfolding sum
  sum-append f [] ys = sym (+ℤ_idl (sum f ys))
  sum-append f (x ∷ xs) ys = ap (λ z. f x +ℤ z) (sum-append f xs ys) ∙ sym (+ℤ_assoc (f x) (sum f xs) (sum f ys))

  -- of numbers that are not below 0
  pub sum_above : (f : A → ℤ) (xs : List A) → ((x : A) → Memᴰ x xs → pos 0 ≤ℤ f x) → pos 0 ≤ℤ sum f xs
  unfolding sum
  sum_above f [] h = omega arith_ℤ
  sum_above f (x ∷ xs) h =
      omega (arith_ℤ, h x (Memᴰ.head refl), sum_above f xs (λ y m. h y (Memᴰ.tail m)), add_parts (f x) (sum f xs))

-- one minute more, at the end
pub between-snoc : (a b : ℕ) → a ≤ b → between a (b + 1) ≡ between a b ++ (b ∷ [])
unfolding between run
between-snoc a b h = let e : b + 1 - a ≡ (b - a) + 1 = omega arith in let g : a + (b - a) ≡ b = omega arith in rw e (run-append a (b - a) 1 ∙ rw g refl)

pub sum-snoc : (f : ℕ → ℤ) (a b : ℕ) → a ≤ b → sum f (between a (b + 1)) ≡ sum f (between a b) +ℤ f b
unfolding sum
sum-snoc f a b h = ap (sum f) (between-snoc a b h) ∙ sum-append f (between a b) (b ∷ []) ∙ ap (λ z. sum f (between a b) +ℤ z) (+ℤ_idr (f b))

pub sum-none : (f : ℕ → ℤ) (a : ℕ) → sum f (between a a) ≡ pos 0
unfolding sum between run
sum-none f a = let e : a - a ≡ 0 = omega arith in rw e refl

-- the same for a test of each minute
pub all_snoc : (f : ℕ → Bool) (a b : ℕ) → a ≤ b → all f (between a (b + 1)) ≡ (all f (between a b) && f b)
unfolding all
all_snoc f a b h = ap (all f) (between-snoc a b h) ∙ all_append f (between a b) (b ∷ []) ∙ ap (λ z. all f (between a b) && z) (and-true (f b))

pub all_none : (f : ℕ → Bool) (a : ℕ) → all f (between a a) ≡ true
unfolding all between run
all_none f a = let e : a - a ≡ 0 = omega arith in rw e refl

-- the same minute by minute
pub sum_ext : (f h : ℕ → ℤ) (a b : ℕ) → ((m : ℕ) → a ≤ m → m < b → f m ≡ h m) → sum f (between a b) ≡ sum h (between a b)
unfolding sum
sum_ext f h a b e = between_ind (λ l. sum f l ≡ sum h l) a b refl (λ m l i k r. ap₂ ◌+ℤ◌ (e m i k) r)

pub all_ext : (f h : ℕ → Bool) (a b : ℕ) → ((m : ℕ) → a ≤ m → m < b → f m ≡ h m) → all f (between a b) ≡ all h (between a b)
unfolding all
all_ext f h a b e = between_ind (λ l. all f l ≡ all h l) a b refl (λ m l i k r. ap₂ ◌&&◌ (e m i k) r)

-- where all minutes pass a test, each does
all_go : (f : ℕ → Bool) (a n : ℕ) → all f (run a n) ≡ true → (m : ℕ) → a ≤ m → m < a + n → f m ≡ true
unfolding all run
all_go f a zero e m h l = absurd (omega arith)
all_go f a (suc n) e m h l =
    let (x, y) = on_and (f a) (all f (run (suc a) n)) e in
    either-eq a m (λ d. ap f (sym d) ∙ x) (λ d. all_go f (suc a) n y m (omega (arith, d)) (omega arith))

pub all_in : (f : ℕ → Bool) (a b : ℕ) → all f (between a b) ≡ true → (m : ℕ) → a ≤ m → m < b → f m ≡ true
unfolding between
all_in f a b e m h l = all_go f a (b - a) e m h (omega arith)

-- some minute passes a test: a minute more; none where none does, and then each does not
pub any_snoc : (f : ℕ → Bool) (a b : ℕ) → a ≤ b → any f (between a (b + 1)) ≡ (any f (between a b) || f b)
any_snoc f a b h = ap (any f) (between-snoc a b h) ∙ any-after f (between a b) b

pub any_none : (f : ℕ → Bool) (a b : ℕ) → ((m : ℕ) → a ≤ m → m < b → f m ≡ false) → any f (between a b) ≡ false
unfolding any
any_none f a b e = between_ind (λ l. any f l ≡ false) a b refl (λ m l i k r. ap₂ ◌||◌ (e m i k) r)

pub any_ext : (f h : ℕ → Bool) (a b : ℕ) → ((m : ℕ) → a ≤ m → m < b → f m ≡ h m) → any f (between a b) ≡ any h (between a b)
unfolding any
any_ext f h a b e = between_ind (λ l. any f l ≡ any h l) a b refl (λ m l i k r. ap₂ ◌||◌ (e m i k) r)

any_as_all : (f : ℕ → Bool) (l : List ℕ) → any f l ≡ not (all (λ m. not (f m)) l)
unfolding any all
any_as_all f [] = refl
any_as_all f (m ∷ l) = ap (λ b. f m || b) (any_as_all f l) ∙ go (f m) (all (λ m. not (f m)) l)
  where
    go : (a b : Bool) → (a || not b) ≡ not (not a && b)
    go true b = refl
    go false b = refl

pub any_off : (f : ℕ → Bool) (a b : ℕ) → any f (between a b) ≡ false → (m : ℕ) → a ≤ m → m < b → f m ≡ false
any_off f a b e m h l =
    let passed = of_T (all (λ m. not (f m)) (between a b)) (off_not (all (λ m. not (f m)) (between a b)) (sym (any_as_all f (between a b)) ∙ e)) in
    not-true (f m) (all_in (λ m. not (f m)) a b passed m h l)

module _ (f : ℕ → ℤ) where
  -- at most b in each minute
  pub sum-within : (b a c : ℕ) → ((m : ℕ) → a ≤ m → m < c → Within b (f m)) → Within (b * (c - a)) (sum f (between a c))
  unfolding sum
  sum-within b a c h =
      rw (← length-between a c)
      (between_ind (λ l. Within (b * length l) (sum f l)) a c (omega arith)
      (λ m l i k r. omega (arith, h m i k, add_parts (f m) (sum f l), mul-suc b (length l))))

  -- the same number in each minute
  pub sum_same : (z : ℤ) (a b : ℕ) → ((m : ℕ) → a ≤ m → m < b → f m ≡ z) → sum f (between a b) ≡ pos (b - a) *ℤ z
  unfolding sum
  sum_same z a b h =
      rw (← length-between a b)
      (between_ind (λ l. sum f l ≡ pos (length l) *ℤ z) a b (sym (zero-*ℤ z)) (λ m l i k r. ap₂ ◌+ℤ◌ (h m i k) r ∙ one_more (length l)))
    where
      one_more : (n : ℕ) → z +ℤ pos n *ℤ z ≡ pos (suc n) *ℤ z
      one_more n = omega (arith_ℤ, mul-parts (pos (suc n)) z, mul-parts (pos n) z, add_parts z (pos n *ℤ z))

  -- p times each
  sum-times : (p : ℤ) (xs : List ℕ) → sum (λ m. p *ℤ f m) xs ≡ p *ℤ sum f xs
  unfolding sum
  sum-times p [] = sym (*ℤ-zero p)
  sum-times p (x ∷ xs) = ap (λ z. p *ℤ f x +ℤ z) (sum-times p xs) ∙ sym (distrib p (f x) (sum f xs))

  -- less another number in each minute
  sum_diff : (h : ℕ → ℤ) (xs : List ℕ) → sum (λ m. f m -ℤ h m) xs ≡ sum f xs -ℤ sum h xs
  unfolding sum
  sum_diff h [] = refl
  sum_diff h (x ∷ xs) =
      let s = sum f xs in
      let t = sum h xs in
      ap (λ z. (f x -ℤ h x) +ℤ z) (sum_diff h xs)
      ∙ omega (
        arith_ℤ,
        diff_parts (f x) (h x),
        diff_parts s t,
        add_parts (f x -ℤ h x) (s -ℤ t),
        add_parts (f x) s,
        add_parts (h x) t,
        diff_parts (f x +ℤ s) (h x +ℤ t),
      )

  abbrev pub above_of : ℤ → ℕ → ℕ → ℤ
  above_of S a b = pos 4 *ℤ sum f (between a b) -ℤ pos (b - a) *ℤ S

-- how much a minute delivers at most, either way
pub delivers-within : (kind : ℕ) (S x : ℤ) → Within 2000000 S → Within 500000 x → Within 4000000 (delivers kind S x)
delivers-within kind S x h k =
    elim (eqb kind 0) as (λ t. Within 4000000 (cond t (pos 4 *ℤ x -ℤ S) (S -ℤ pos 4 *ℤ x))) [
      | true ↦ omega (arith, mul-parts (pos 4) x, diff_parts (pos 4 *ℤ x) S)
      | false ↦ omega (arith, mul-parts (pos 4) x, diff_parts S (pos 4 *ℤ x))
    ]

-- what is delivered: that, or as much below the base load
pub sum-delivers : (f : ℕ → ℤ) (kind : ℕ) (S : ℤ) (a b : ℕ)
    → sum (λ m. delivers kind S (f m)) (between a b) ≡ cond (eqb kind 0) (above_of f S a b) (pos 0 -ℤ above_of f S a b)
sum-delivers f kind S a b = go (eqb kind 0)
  where
    four : ℕ → ℤ
    four m = pos 4 *ℤ f m

    read : sum four (between a b) ≡ pos 4 *ℤ sum f (between a b)
    read = sum-times f (pos 4) (between a b)

    base : sum (λ m. S) (between a b) ≡ pos (b - a) *ℤ S
    base = sum_same (λ m. S) S a b (λ m i k. refl)

    go : (t : Bool) → sum (λ m. cond t (four m -ℤ S) (S -ℤ four m)) (between a b) ≡ cond t (above_of f S a b) (pos 0 -ℤ above_of f S a b)
    go true = sum_diff four (λ m. S) (between a b) ∙ ap₂ ◌-ℤ◌ read base
    go false =
        let x = pos 4 *ℤ sum f (between a b) in
        let y = pos (b - a) *ℤ S in
        sum_diff (λ m. S) four (between a b) ∙ ap₂ ◌-ℤ◌ base read ∙ omega (arith_ℤ, diff_parts x y, diff_parts y x, diff_parts (pos 0) (x -ℤ y))
