-- Laws of tests, which are Bools: a test that holds, `T b` or `b ≡ true`, one that does not, and tests of whole lists.
use mathlib.Core.Path.{◌≡◌, refl, sym, ap, ◌∙◌, subst}
use mathlib.Core.Bool.{Bool, true, false, not, ◌&&◌, ◌||◌, and_assoc, or_assoc, or-false, true≢false, false≢true}
use mathlib.Core.List.{List, [], ◌∷◌, ◌++◌}
use Prim.Native.Nat.{ℕ, ◌≤◌, ◌<◌}
use mathlib.Core.Logic.{◌≢◌}
use lib.Dec.{T, leb, eqb}
use borrow.Author.Tests.{leb-true, leb-false, eqb-true, eqb-false}
use Rattle.energy.specs.Lists.{pass, all, any}
pub use borrow.Author.Tests.{eq-eqb as eq-true, ne_eqb as eq-false, leb-false as off-leb, ltb-false as off-ltb}

pub to-T : {b : Bool} → b ≡ true → T b
to-T e = subst (λ x. T x) (sym e) tt

pub of_T : (b : Bool) → T b → b ≡ true
of_T true t = refl
of_T false t = absurd t

pub T_and : (a b : Bool) → T (a && b) → T a × T b
T_and true b t = (tt, t)
T_and false b t = absurd t

pub and_T : (a b : Bool) → T a → T b → T (a && b)
and_T true b s t = t
and_T false b s t = s

-- a condition that does not hold
pub off_not : (b : Bool) → not b ≡ false → T b
off_not true e = tt
off_not false e = absurd (true≢false e)

pub off-T : (b : Bool) → b ≡ false → T (not b)
off-T true e = absurd (true≢false e)
off-T false e = tt

pub off_or : (a b : Bool) → (a || b) ≡ false → (a ≡ false) × (b ≡ false)
off_or true b e = absurd (true≢false e)
off_or false b e = (refl, e)

-- and one that does
pub or-T : (a b : Bool) → T a → T (a || b)
or-T true b t = tt
or-T false b t = absurd t

pub on_and : (a b : Bool) → (a && b) ≡ true → (a ≡ true) × (b ≡ true)
on_and true b e = (refl, e)
on_and false b e = absurd (false≢true e)

-- tests that hold together are one
pub same_test : (a b : Bool) → (T a → T b) → (T b → T a) → a ≡ b
same_test true b f g = sym (of_T b (f tt))
same_test false true f g = absurd (g tt)
same_test false false f g = refl

-- ---- two cases
module _ {X : Type 0} where
  -- a test holds or not
  pub either : (b : Bool) → (b ≡ true → X) → (b ≡ false → X) → X
  either true f g = f refl
  either false f g = g refl

  -- a number is at most another or above it, and is the other or not
  pub either-le : (a b : ℕ) → (a ≤ b → X) → (b < a → X) → X
  either-le a b f g = either (leb a b) (λ e. f (leb-true a b e)) (λ e. g (leb-false a b e))

  pub either-eq : (a b : ℕ) → (a ≡ b → X) → (a ≢ b → X) → X
  either-eq a b f g = either (eqb a b) (λ e. f (eqb-true a b e)) (λ e. g (eqb-false a b e))

-- ---- tests of lists
abbrev pub Passes : List Bool → Type 0
Passes [] = Unit {0}
Passes (b ∷ bs) = T b × Passes bs

pub passes : (bs : List Bool) → T (pass bs) → Passes bs
unfolding pass
passes [] t = tt
passes (b ∷ bs) t = ((T_and b (pass bs) t).0, passes bs (T_and b (pass bs) t).1)

pub passed : (bs : List Bool) → Passes bs → T (pass bs)
unfolding pass
passed [] h = tt
passed (b ∷ bs) h = and_T b (pass bs) h.0 (passed bs h.1)

module _ {A : Type 0} where
  pub all_mono : (f g : A → Bool) (xs : List A) → ((x : A) → T (f x) → T (g x)) → T (all f xs) → T (all g xs)
  unfolding all
  all_mono f g [] h t = tt
  all_mono f g (x ∷ xs) h t = and_T (g x) (all g xs) (h x (T_and (f x) (all f xs) t).0) (all_mono f g xs h (T_and (f x) (all f xs) t).1)

  -- of two lists one after the other
  pub all_append : (f : A → Bool) (xs ys : List A) → all f (xs ++ ys) ≡ (all f xs && all f ys)
  unfolding all
  all_append f [] ys = refl
  all_append f (x ∷ xs) ys = ap (λ b. f x && b) (all_append f xs ys) ∙ sym (and_assoc (f x) (all f xs) (all f ys))

  pub any_append : (f : A → Bool) (xs ys : List A) → any f (xs ++ ys) ≡ (any f xs || any f ys)
  unfolding any
  any_append f [] ys = refl
  any_append f (x ∷ xs) ys = ap (λ b. f x || b) (any_append f xs ys) ∙ sym (or_assoc (f x) (any f xs) (any f ys))

  -- and of one element more
  pub all_snoc : (f : A → Bool) (xs : List A) (a : A) → T (all f xs) → T (f a) → T (all f (xs ++ (a ∷ [])))
  unfolding all
  all_snoc f xs a t s = rw all_append (and_T (all f xs) (f a && true) t (and_T (f a) true s tt))

  pub any_snoc : (f : A → Bool) (xs : List A) (a : A) → any f (xs ++ (a ∷ [])) ≡ (any f xs || f a)
  unfolding any
  any_snoc f xs a = any_append f xs (a ∷ []) ∙ ap (λ b. any f xs || b) (or-false (f a))
