-- That each number of a list of conditions is known makes the number that is given known: it is the number of one of them.
use mathlib.Core.Path.{◌≡◌, refl, sym, ◌∙◌, subst}
use mathlib.Core.Bool.{true, false}
use mathlib.Core.List.{List, [], ◌∷◌}
use mathlib.Core.Option.{some, none-ne-some, some-injective}
use Prim.Native.Nat.{ℕ}
use lib.Dec.{eqb}
use borrow.Author.Tests.{eqb-true}
use Rattle.energy.specs.Lists.{all, between, run}
use Rattle.energy.proofs.Tests.{either, on_and}
use Rattle.commands.specs.Input.{Condition, first_met}
use Rattle.commands.specs.Refusals.{number_of, refusal_of}
use Rattle.rules.specs.Conditions.{numbers}
use Rattle.rules.specs.Refusal.{refusal}
use Rattle.rules.specs.Statement.{settle_refusal}
use Rattle.rules.proofs.Taken.{at_first, past_first}
use Rattle.rules.proofs.Conditions.{numbered}
use Rattle.rules_refused.specs.Known.{Known, NumbersKnown}

known : ℕ → mathlib.Core.Bool.Bool
known n = eqb (number_of (refusal_of n)) n

given_known : (cs : List Condition) → all known (numbers cs) ≡ true → (n : ℕ) → first_met cs ≡ some n → Known n
unfolding first_met all known
given_known [] a n e = absurd (none-ne-some n e)
given_known (c ∷ cs) a n e =
    let both = on_and (known c.number) (all known (numbers cs)) a in
    either c.holds
    (λ h. subst Known (some-injective c.number n (sym (at_first c cs h) ∙ e)) (eqb-true (number_of (refusal_of c.number)) c.number both.0))
    (λ h. given_known cs both.1 n (sym (past_first c cs h) ∙ e))

pub numbers_known : NumbersKnown
unfolding refusal settle_refusal refusal_of all known between run
numbers_known =
    record {
      unknown_command = refl;
      cut_off = refl;
      command = λ u s g c n e. given_known _ (rw (numbered.command u s g c) refl) n e;
      settling = λ u s r g n e. given_known _ (rw (numbered.settling u s r g) refl) n e;
      writing = λ u s r g n e. given_known _ (rw (numbered.writing u s r g) refl) n e;
    }
