-- The numbers of conditions, by computation: the lists have the same length for every command and book. That the first which applies is given, by
-- the list.
use mathlib.Core.Path.{◌≡◌, refl, sym, ap, ◌∙◌}
use mathlib.Core.Logic.{⊎_elim}
use mathlib.Core.Bool.{true, false, true≢false}
use mathlib.Core.List.Memᴰ
use mathlib.Core.List.{List, [], ◌∷◌}
use mathlib.Core.Option.{some, none-ne-some, some-injective}
use Prim.Native.Nat.{ℕ}
use Rattle.energy.specs.Lists.{any}
use Rattle.energy.proofs.Tests.{either}
use Rattle.commands.specs.Input.{Condition, first_met}
use Rattle.rules.specs.Conditions.{Numbered, Applies, AppliesFirst, GivesFirst, First}
use Rattle.rules.proofs.Taken.{at_first, past_first}
use Rattle.rules.proofs.Definitions.{opened}

pub numbered : Numbered
unfolding opened
numbered = search

-- ---- a condition more

module _ (c : Condition) (cs : List Condition) where
  -- the number given is the first's where it holds
  its_number : c.holds ≡ true → (n : ℕ) → first_met (c ∷ cs) ≡ some n → c.number ≡ n
  its_number h n e = some-injective c.number n (sym (at_first c cs h) ∙ e)

  -- a number that applies is that of a later condition where the first does not hold
  applies_past : c.holds ≡ false → (m : ℕ) → Applies m (c ∷ cs) → Applies m cs
  applies_past h m a = ⊎_elim (λ e. absurd (true≢false (ap (λ (x : Condition). x.holds) e ∙ h))) (λ t. t) (Memᴰ.cases_cons a)

-- ---- what is given

-- a condition that does not hold stands before what is given
stands-later : (c : Condition) (cs : List Condition) (n : ℕ) → c.holds ≡ false → AppliesFirst n cs → AppliesFirst n (c ∷ cs)
unfolding any
stands-later c cs n h a = record { before = c ∷ a.before; after = a.after; stands = ap (λ l. c ∷ l) a.stands; none = rw (h, a.none) }

given_of : (cs : List Condition) (n : ℕ) → first_met cs ≡ some n → AppliesFirst n cs
unfolding first_met any
given_of [] n e = absurd (none-ne-some n e)
given_of (c ∷ cs) n e =
    either c.holds
    (λ h.
    let p = its_number c cs h n e in
    record { before = []; after = cs; stands = λ i. record { number = p i; holds = h i } ∷ cs; none = refl })
    (λ h. stands-later c cs n h (given_of cs n (sym (past_first c cs h) ∙ e)))

whenever_of : (cs : List Condition) (m : ℕ) → Applies m cs → (n : ℕ) × (first_met cs ≡ some n)
whenever_of [] m a = absurd (Memᴰ.not-nil a)
whenever_of (c ∷ cs) m a =
    either c.holds (λ h. (c.number, at_first c cs h))
    (λ h. let r = whenever_of cs m (applies_past c cs h m a) in (r.0, past_first c cs h ∙ r.1))

gives_first : (cs : List Condition) → GivesFirst cs
gives_first cs = record { given = given_of cs; whenever = whenever_of cs }

pub first_given : First
first_given = search gives_first
