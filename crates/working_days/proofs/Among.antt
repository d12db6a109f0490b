-- A day among the holidays, in the words of a slice's `contains`.
use Rattle.std.proofs.Common.{◌≡◌, refl, sym, ap, ◌||◌, List, [], ◌∷◌, ℕ, eqb}
use Rattle.std.specs.List.{list_any}
use Rattle.energy.specs.Lists.{any}
use Rattle.energy.proofs.Tests.{either-eq, eq-false}

pub among : (n : ℕ) (holidays : List ℕ) → list_any (λ y. eqb y n) holidays ≡ any (eqb n) holidays
unfolding any
among n [] = refl
among n (x ∷ xs) =
    either-eq x n (λ e. rw e (ap (λ b. eqb n n || b) (among n xs)))
    (λ e. rw (eq-false x n e, eq-false n x (λ s. e (sym s))) (among n xs))
