-- Live totals never fall: what a step adds is a line's capped kWh and pence, which are not below 0, or nothing.
use mathlib.Core.Path.{subst, sym}
use mathlib.Core.Bool.{Bool, true, false, cond, not}
use mathlib.Core.List.{List, [], ◌∷◌}
use Prim.Native.Nat.{ℕ, zero, suc, ◌+◌, ◌≤◌}
use native.Mathlib.Nat.{le_of_eq}
use native.Mathlib.Omega.{arith}
use lib.Dec.{eqb}
use lib.IntN.{ℤ, pos, ◌+ℤ◌}
use lib.ListN.{length-replicate, replicate, take}
use lib.Signed.{◌≤ℤ◌}
use Rattle.energy.specs.Energy.{capped, kwh, payment}
use Rattle.energy.proofs.Integers.{add_parts, arith_ℤ}
use Rattle.energy.proofs.Rounding.{payment_above}
use Rattle.rules.specs.Ledger.{Ledger, ledger_of}
use Rattle.rules.specs.Refusal.{taken}
use Rattle.book.specs.Book.{empty_book, put_all}
use Rattle.watch_month.specs.MonthOf.{month_book}
use Rattle.watch_step.specs.Month.{month_numbers}
use Rattle.watch_step.specs.Step.{advanced, answer_to, base_now, cut_before, no_totals, price_at, step_of, stepped_by, totals_after}
use Rattle.watch_step.specs.declared.totals.Totals.{Totals}
use Rattle.watch_step.specs.declared.step.NotStepped.{NotStepped}
use Rattle.std.specs.Prelude.{Option, Some, None}
use Rattle.watch.specs.Running.{ActiveMinute, active_minutes, running_of}
use Rattle.watch.specs.Watched.{Watched·theorem, base_for, reading_for, step_all, step_at}
use Rattle.watch.specs.Rising.{NoLess, StepRises·theorem, Rising·theorem}
use Rattle.watch.proofs.Watched.{watched}

no_less : (s : Totals) → NoLess s s
no_less s = record { capped = omega arith_ℤ; pence = omega arith_ℤ }

no_less_then : {s t u : Totals} → NoLess s t → NoLess t u → NoLess s u
no_less_then a b = record { capped = omega (arith_ℤ, a.capped, b.capped); pence = omega (arith_ℤ, a.pence, b.pence) }

-- ---- a step

-- a number with another added that is not below 0, or with nothing
added : (ends : Bool) (a b : ℤ) → pos 0 ≤ℤ b → a ≤ℤ (a +ℤ cond ends b (pos 0))
added true a b h = omega (arith_ℤ, add_parts a b)
added false a b h = omega (arith_ℤ, add_parts a (pos 0))

advance_rises : (month : List ℕ) (new : Bool) (s : Totals) (n m : ℕ) (kw S : ℤ) → NoLess s (advanced month new s n m kw S)
unfolding advanced
advance_rises month new s n m kw S =
    let t : Totals = advanced month new s n m kw S in
    let c : ℤ = capped (kwh t.expected) (kwh t.delivered) in
    let up : pos 0 ≤ℤ c = omega arith_ℤ in
    record {
      capped = added (cut_before month n (m + 1)) s.capped.0 c up;
      pence = added (cut_before month n (m + 1)) s.pence.0 (payment c (price_at month n m)) (payment_above c (price_at month n m) up);
    }

answered : (a : Option NotStepped) (after before : Totals) → NoLess before after → NoLess before (totals_after before (stepped_by a after))
answered None after before h = h
answered (Some e) after before h = no_less before

pub step_rises : StepRises·theorem
unfolding StepRises·theorem step_of
step_rises month s n r base =
    let new : Bool = not (eqb n s.instruction) in
    answered (answer_to month s n r base) (advanced month new s n r.minute.0 r.kw.0 (base_now new s base)) s
    (advance_rises month new s n r.minute.0 r.kw.0 (base_now new s base))

-- ---- the steps of a month

module _ (month : List ℕ) (g : Ledger) where
  one_rises : (s : Totals) (a : ActiveMinute) → NoLess s (totals_after s (step_at month g s a))
  unfolding step_at StepRises·theorem
  one_rises s a = step_rises month s a.number (reading_for g a) (base_for g a)

  all_rise : (xs : List ActiveMinute) (s : Totals) → NoLess s (step_all month g s xs)
  unfolding step_all
  all_rise [] s = no_less s
  all_rise (a ∷ xs) s = no_less_then (one_rises s a) (all_rise xs (totals_after s (step_at month g s a)))

  more_rise : (xs : List ActiveMinute) (s : Totals) (n m : ℕ) → n ≤ m → NoLess (step_all month g s (take n xs)) (step_all month g s (take m xs))
  unfolding step_all
  more_rise xs s zero m h = all_rise (take m xs) s
  more_rise xs s (suc n) zero h = absurd (omega arith)
  more_rise [] s (suc n) (suc m) h = no_less s
  more_rise (a ∷ xs) s (suc n) (suc m) h = more_rise xs (totals_after s (step_at month g s a)) n m (omega arith)

pub rising : Rising·theorem
unfolding Rising·theorem Watched·theorem
rising size cs c n m h =
    let g : Ledger = ledger_of (taken size cs) in
    let memory : List ℕ = replicate month_numbers 0 in
    let (answer, w) = watched size cs c memory (le_of_eq (sym (length-replicate {A = ℕ} month_numbers 0))) in
    let month : List ℕ = (month_book (put_all empty_book (taken size cs)) memory).month in
    subst (λ t. NoLess (running_of g n) t) (w.totals m)
    (subst (λ s. NoLess s (step_all month g no_totals (take m (active_minutes g)))) (w.totals n) (more_rise month g (active_minutes g) no_totals n m h))
