-- Laws of the refusals from the input: how they come out as one number, and the offer for it.
use mathlib.Core.Path.{◌≡◌, refl, sym, ap, ◌∙◌}
use mathlib.Core.Logic.{◌≢◌}
use mathlib.Core.Bool.{Bool, true, false, not, ◌&&◌, ◌||◌, cond}
use mathlib.Core.List.{List, [], ◌∷◌, ◌++◌}
use mathlib.Core.Option.{Option, none, some}
use Prim.Native.Nat.{ℕ, zero, suc}
use native.Mathlib.Omega.{arith}
use lib.Dec.{T, eqb, ltb}
use borrow.Author.Tests.{ne_eqb}
use Rattle.energy.proofs.Tests.{T_and}
use Rattle.commands.specs.Input.{in_range, ramp_too_long, bad_window, no_such_date, Condition, input_conditions, first_met, input_refusal, or_zero}
use Rattle.commands.specs.Input.{offer_for, offer_of}
use Rattle.commands.specs.declared.contract.Contract.{Contract}
use Rattle.commands.specs.declared.refusal.Refusal.{Refusal}
use Rattle.commands.specs.declared.refusal.Refusal.TheVariants.{OutOfRange}
use Rattle.commands.proofs.Outcomes.{Answered, outcome_ok}
use Rattle.commands.specs.Refusals.{outcome, refusal_of}
use Rattle.std.specs.Prelude.{Result, Ok, Err, is_ok}
use Rattle.commands.specs.declared.entries.Command.{Command}
use Rattle.commands.specs.declared.entries.Command.TheVariants.{Contract as contractᶜ}

-- ---- conditions as one number

-- every condition has a number
abbrev pub Numbered : List Condition → Bool
Numbered [] = true
Numbered (c ∷ cs) = ltb 0 c.number && Numbered cs

-- the number of the first condition that holds
unfoldable pub numbers : List Condition → ℕ
numbers [] = 0
numbers (c ∷ cs) = cond c.holds c.number (numbers cs)

-- 0 stands for none
abbrev pub numbered : ℕ → Option ℕ
numbered zero = none
numbered (suc n) = some (suc n)

pub numbered_some : (n : ℕ) → n ≢ 0 → numbered n ≡ some n
numbered_some zero h = absurd (h refl)
numbered_some (suc n) h = refl

-- it says which number is the first
pub first_numbered : (cs : List Condition) → T (Numbered cs) → first_met cs ≡ numbered (numbers cs)
unfolding first_met numbers
first_numbered [] t = refl
first_numbered (c ∷ cs) t =
    let q = T_and (ltb 0 c.number) (Numbered cs) t in
    go c.holds c.number q.0 (first_numbered cs q.1)
  where
    go : (b : Bool) (n : ℕ) → T (ltb 0 n) → first_met cs ≡ numbered (numbers cs)
        → ◌≡◌ {A = Option ℕ} (elim b as (λ x. Option ℕ) [ true ↦ some n | false ↦ first_met cs ]) (numbered (cond b n (numbers cs)))
    go true zero h e = absurd h
    go true (suc n) h e = refl
    go false n h e = e

pub first_number : (cs : List Condition) → T (Numbered cs) → or_zero (first_met cs) ≡ numbers cs
first_number cs t = rw (first_numbered cs t) (back (numbers cs))
  where
    back : (n : ℕ) → or_zero (numbered n) ≡ n
    back zero = refl
    back (suc n) = refl

-- of two lists of conditions the first decides, and where none of it holds the second
pub numbers-append : (xs ys : List Condition) → T (Numbered xs) → numbers (xs ++ ys) ≡ cond (eqb (numbers xs) 0) (numbers ys) (numbers xs)
unfolding numbers
numbers-append [] ys t = refl
numbers-append (c ∷ xs) ys t =
    let q = T_and (ltb 0 c.number) (Numbered xs) t in
    go c.number c.holds q.0 (numbers-append xs ys q.1)
  where
    go : (n : ℕ) (b : Bool) → T (ltb 0 n) → numbers (xs ++ ys) ≡ cond (eqb (numbers xs) 0) (numbers ys) (numbers xs)
        → cond b n (numbers (xs ++ ys)) ≡ cond (eqb (cond b n (numbers xs)) 0) (numbers ys) (cond b n (numbers xs))
    go zero true h e = absurd h
    go (suc n) true h e = rw (ne_eqb (suc n) 0 (λ q. omega arith))
    go n false h e = e

-- ---- the number from the input, test by test

pub input_number : (c : Command) → first_met (input_conditions c) ≡ numbered (input_refusal c)
unfolding input_refusal
input_number c = first_numbered (input_conditions c) tt ∙ ap numbered (sym (first_number (input_conditions c) tt))

pub input_cond : (c : Command) → input_refusal c ≡ cond (not (in_range c)) 3 (cond (ramp_too_long c) 4 (cond (bad_window c) 5 (cond (no_such_date c) 28 0)))
unfolding input_refusal numbers
input_cond c = first_number (input_conditions c) tt

-- the number of the conditions after the test of the range
abbrev pub rest_number : Command → ℕ
rest_number c = cond (ramp_too_long c) 4 (cond (bad_window c) 5 (cond (no_such_date c) 28 0))

-- an operand outside its range comes first
pub input_out : (c : Command) → in_range c ≡ false → Err OutOfRange ≡ outcome (input_refusal c)
unfolding outcome refusal_of
input_out c e = rw (input_cond c, e) refl

pub input_in : (c : Command) → in_range c ≡ true → outcome (rest_number c) ≡ outcome (input_refusal c)
input_in c e = rw (input_cond c, e) refl

-- what is answered where there is no condition after it
pub input_only : (c : Command) {b : Bool} {r : Answered} → r ≡ cond (not b) (Err OutOfRange) (Ok tt) → b ≡ in_range c → rest_number c ≡ 0
    → r ≡ outcome (input_refusal c)
unfolding outcome
input_only c {b = true} e f g = e ∙ rw g at (input_in c (sym f))
input_only c {b = false} e f g = e ∙ input_out c (sym f)

-- no number from the input: no condition of it holds
pub input_none : (c : Command) → eqb (input_refusal c) 0 ≡ (in_range c && (not (ramp_too_long c) && not (no_such_date c || bad_window c)))
input_none c = ap (λ n. eqb n 0) (input_cond c) ∙ go (in_range c) (ramp_too_long c) (bad_window c) (no_such_date c)
  where
    go : (p q r s : Bool) → eqb (cond (not p) 3 (cond q 4 (cond r 5 (cond s 28 0)))) 0 ≡ (p && (not q && not (s || r)))
    go true true r s = refl
    go true false true true = refl
    go true false true false = refl
    go true false false true = refl
    go true false false false = refl
    go false q r s = refl

-- and nothing is answered but that there is none
pub input_ok : (c : Command) → is_ok (outcome (input_refusal c)) ≡ (in_range c && (not (ramp_too_long c) && not (no_such_date c || bad_window c)))
input_ok c = outcome_ok (input_refusal c) ∙ input_none c

-- ---- what is answered for a number

-- the contract where its operands are taken, or their refusal
abbrev pub offered : Contract → Answered → Result Contract Refusal
offered k (Ok u) = Ok k
offered k (Err e) = Err e

pub offer_is : (k : Contract) → offer_of k ≡ offered k (outcome (input_refusal (contractᶜ k)))
unfolding offer_of outcome
offer_is k = rw (input_number (contractᶜ k)) (go (input_refusal (contractᶜ k)))
  where
    go : (n : ℕ) → offer_for k (numbered n) ≡ offered k (outcome n)
    go zero = refl
    go (suc n) = refl

-- a contract that is agreed to has no number, and is the one that was offered
pub offer_agrees : (k a : Contract) → offer_of k ≡ Ok a → (k ≡ a) × (input_refusal (contractᶜ k) ≡ 0)
unfolding offer_of
offer_agrees k a e = go (input_refusal (contractᶜ k)) (sym (ap (offer_for k) (input_number (contractᶜ k))) ∙ e)
  where
    go : (x : ℕ) → offer_for k (numbered x) ≡ Ok a → (k ≡ a) × (x ≡ 0)
    go zero q = (cc, refl)
    go (suc x) q = let z : ◌≡◌ {A = ℕ} 0 1 = cc in absurd (omega arith)

-- a refusal of the offer is that of the operands
pub offer_says : (k : Contract) (r : Refusal) → Err r ≡ offer_of k → Err r ≡ outcome (input_refusal (contractᶜ k))
unfolding offer_of outcome
offer_says k r e = go (input_refusal (contractᶜ k)) (e ∙ ap (offer_for k) (input_number (contractᶜ k)))
  where
    go : (n : ℕ) → Err r ≡ offer_for k (numbered n) → Err r ≡ outcome n
    go zero q = cc
    go (suc n) q = cc
