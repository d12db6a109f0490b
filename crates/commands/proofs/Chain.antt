-- A chain of tests `a && b && ..`, taken apart and put together, and the two cases of a test.
use mathlib.Core.Path.{◌≡◌, refl}
use mathlib.Core.Bool.{Bool, true, false, not, ◌&&◌}
use mathlib.Core.List.{List, [], ◌∷◌}
use lib.Dec.{T}
use Rattle.energy.proofs.Tests.{Passes, T_and, and_T}

abbrev pub chain : Bool → List Bool → Bool
chain a [] = a
chain a (b ∷ bs) = chain (a && b) bs

pub apart : (a : Bool) (bs : List Bool) → T (chain a bs) → T a × Passes bs
apart a [] t = (t, tt)
apart a (b ∷ bs) t =
    let q = apart (a && b) bs t in
    let p = T_and a b q.0 in
    (p.0, (p.1, q.1))

pub together : (a : Bool) (bs : List Bool) → T a → Passes bs → T (chain a bs)
together a [] t h = t
together a (b ∷ bs) t h = together (a && b) bs (and_T a b t h.0) h.1

pub not_on : (b : Bool) → T (not b) → b ≡ false
not_on true t = absurd t
not_on false t = refl

-- a test holds or it does not
pub true_or_false : (b : Bool) {P : Type 0} → (b ≡ true → P) → (b ≡ false → P) → P
true_or_false true f g = f refl
true_or_false false f g = g refl
