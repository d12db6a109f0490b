-- `calendar::days_of` meets its contract, arm by arm: the months of an arm have its days, and a month in none has no day. Assumes nothing.
use mathlib.Core.Path.{◌≡◌, refl, sym, ◌∙◌}
use mathlib.Core.Bool.{Bool, true, false, ◌||◌, false≢true}
use mathlib.Core.List.{List, [], ◌∷◌}
use Prim.Native.Nat.{ℕ, ◌<◌, zero-le}
use mir.Val.{has_key}
use types.Run.{OneOf, hit}
use Rattle.energy.specs.Lists.{all, between, run}
use Rattle.energy.proofs.Tests.{to-T, either, either-le}
use Rattle.energy.proofs.Sums.{all_in}
use Rattle.calendar.specs.Calendar.{days_of}
use Rattle.calendar.proofs.Months.{no_month}
use Rattle.calendar.proofs.days_of.Goals as goal

-- a month is none of some
none_of : (ks : List ℕ) (m : ℕ) → (OneOf ks m → ⊥) → has_key ks m ≡ false
none_of ks m h = either (has_key ks m) (λ e. absurd (h (hit ks m (to-T e)))) (λ e. e)

-- a month in no arm
unlisted : (y m : ℕ) → (OneOf (2 ∷ []) m → ⊥) → (OneOf (4 ∷ 6 ∷ 9 ∷ 11 ∷ []) m → ⊥) → (OneOf (1 ∷ 3 ∷ 5 ∷ 7 ∷ []) m → ⊥)
    → (OneOf (8 ∷ 10 ∷ 12 ∷ []) m → ⊥) → (OneOf (0 ∷ []) m → ⊥) → 0 ≡ days_of y m
unfolding all between run
unlisted y m a b c d e = either-le 13 m (λ h. sym (no_month y m h)) (λ h. absurd (false≢true (in-none h)))
  where
    listing : ℕ → Bool
    listing m =
        has_key (2 ∷ []) m || has_key (4 ∷ 6 ∷ 9 ∷ 11 ∷ []) m || has_key (1 ∷ 3 ∷ 5 ∷ 7 ∷ []) m || has_key (8 ∷ 10 ∷ 12 ∷ []) m || has_key (0 ∷ []) m

    in-none : m < 13 → false ≡ true
    in-none h =
        rw (none_of _ m a, none_of _ m b, none_of _ m c, none_of _ m d, none_of _ m e) at (all_in listing 0 13 refl m zero-le h)

pub returns-then-is_leap : goal.returns-then-is_leap
unfolding days_of
returns-then-is_leap c = rw (c.in-2.is, sym c.is_leap.ensures ∙ c.if-is_leap.true) refl

pub returns-else-is_leap : goal.returns-else-is_leap
unfolding days_of
returns-else-is_leap c = rw (c.in-2.is, sym c.is_leap.ensures ∙ c.if-is_leap.false) refl

pub returns-in-0-2 : goal.returns-in-0-2
returns-in-0-2 c = let r = c.in-0.in-0-own.rest in let a = c.args in unlisted a.year a.month r.0.0.0.0.1 r.0.0.0.1 r.0.0.1 r.0.1 r.1
