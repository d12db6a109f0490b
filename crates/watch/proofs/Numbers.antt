-- The steps over a host's numbers: totals that are written and read again are the same, so they go as the steps themselves.
use mathlib.Core.Path.{◌≡◌, refl, ap, ◌∙◌}
use mathlib.Core.Bool.{true, ◌&&◌}
use mathlib.Core.List.{List, [], ◌∷◌, ◌++◌, map}
use Prim.Native.Nat.{ℕ, zero, suc, ◌+◌, ◌≤◌}
use native.Mathlib.Omega.{arith}
use lib.Dec.{T}
use lib.IntN.{ℤ, pos, negsuc}
use lib.ListN.{length, take}
use borrow.Author.Tests.{le-leb}
use Rattle.energy.specs.Lists.{last}
use Rattle.energy.specs.Number.{Within}
use Rattle.energy.proofs.Integers.{abs-parts, le_z_yes}
use Rattle.energy.proofs.Sums.{between_ind}
use Rattle.energy.proofs.Tests.{either, on_and}
use Rattle.commands.specs.Input.{from_to_ℤ, most_minute}
use Rattle.commands.specs.declared.contract.Contract.{Contract}
use Rattle.commands.specs.declared.entries.Instruction.{Instruction}
use Rattle.commands.specs.declared.entries.Reading.{Reading}
use Rattle.rules.specs.Ledger.{Ledger, ramp_start, end_of}
use Rattle.rules.specs.Reached.{instructions_sound}
use Rattle.rules.specs.Segment.{active}
use Rattle.rules.proofs.Tables.{instructions_cons}
use Rattle.watch_step.specs.Step.{answer_to, month_fits, step_of, stepped_by, totals_fit}
use Rattle.watch_step.specs.declared.totals.Totals.{Totals}
use Rattle.watch_step.specs.declared.step.NotStepped.{NotStepped}
use Rattle.std.specs.Prelude.{Option, Some, None, Ok}
use Rattle.watch_step.proofs.Fits.{TotalsFit, totals_fit_lem}
use Rattle.host_watch.specs.StepNumbers.{are_totals, is_sum, numbers_of, step_numbers, totals_in}
use Rattle.watch.specs.Running.{ActiveMinute, active_from, running_at}
use Rattle.watch.specs.Watched.{base_for, reading_for, step_at, step_numbers_all, step_numbers_at}
use Rattle.watch.proofs.Steps.{Chain}

-- ---- totals written and read again

-- an instruction's number and a minute that their types can hold
abbrev Small : ℕ → ℕ → Type 0
Small n m = (n ≤ 64) × (m ≤ most_minute)

sum_yes : (z : ℤ) → Within 120000000 z → is_sum z ≡ true
sum_yes z h = rw (le_z_yes (negsuc 2147483647) z (omega arith), le_z_yes z (pos 2147483647) (omega arith)) refl

upto_yes : (n most : ℕ) → n ≤ most → from_to_ℤ (pos 0) (pos most) (pos n) ≡ true
upto_yes n most h = rw (le_z_yes (pos 0) (pos n) (omega arith), le_z_yes (pos n) (pos most) (omega arith)) refl

held : (s : Totals) (more : List ℤ) → TotalsFit s → Small s.instruction s.minute.0 → are_totals (numbers_of s ++ more) ≡ true
unfolding are_totals
held s more f (n, m) =
    rw (
      le-leb 7 (length (numbers_of s ++ more)) (omega arith),
      upto_yes s.instruction 4294967295 (omega arith),
      upto_yes s.minute.0 65535 (omega arith),
      sum_yes s.base (omega (arith, f.base)),
      sum_yes s.expected (omega (arith, f.expected, abs-parts s.expected)),
      sum_yes s.delivered (omega (arith, f.delivered)),
    )
    refl

read_again : (s : Totals) (more : List ℤ) → totals_in (numbers_of s ++ more) ≡ s
unfolding totals_in
read_again s more = refl

-- ---- a step that is taken

answer_is : (a : Option NotStepped) (x y : Totals) → stepped_by a x ≡ Ok y → a ≡ None
answer_is None x y e = refl
answer_is (Some r) x y e = absurd (cc)

-- its totals before it fit
fit-taken : (month : List ℕ) (s : Totals) (n : ℕ) (r : Reading) (base : List ℤ) → answer_to month s n r base ≡ None → totals_fit s ≡ true
unfolding answer_to
fit-taken month s n r base q =
    either (month_fits month && totals_fit s) (λ e. (on_and (month_fits month) (totals_fit s) e).1)
    (λ e. let z = rw e at q in absurd (cc))

-- ---- a month's active minutes

-- active minutes that their types can hold
abbrev pub Minutes : List ActiveMinute → Type 0
Minutes [] = Unit {0}
Minutes (a ∷ rest) = Small a.number a.minute × Minutes rest

-- every month's are
pub minutes_small : (k : Contract) (span : ℕ) → span ≤ most_minute → (is : List Instruction) (n e : ℕ) → T (instructions_sound k span e is) → n + length is ≤ 65
    → Minutes (active_from k n is)
unfolding active_from active
minutes_small k span b [] n e t h = tt
minutes_small k span b (i ∷ is) n e t h =
    let (x, rest) = instructions_cons k span e i is t in
    let others = minutes_small k span b is (suc n) (end_of k i + k.recovery.0) rest (omega arith) in
    between_ind (λ l. Minutes (map (λ m. record { number = n; instruction = i; minute = m }) l ++ active_from k (suc n) is)) (ramp_start k i) (end_of k i)
    others (λ m l p q r. ((omega arith, omega (arith, x.inside)), r))

-- ---- the steps

module _ (month : List ℕ) (g : Ledger) (P : Totals → Type 0) where
  one : (s : Totals) (a : ActiveMinute) (more : List ℤ) → Small s.instruction s.minute.0
      → step_at month g s a ≡ Ok (running_at g a)
      → (step_numbers_at month g (numbers_of s ++ more) a).memory ≡ numbers_of (running_at g a) ++ more
  unfolding step_numbers_at step_numbers step_at step_of
  one s a more h e =
      let is : answer_to month s a.number (reading_for g a) (base_for g a) ≡ None =
      answer_is (answer_to month s a.number (reading_for g a) (base_for g a)) _ (running_at g a) e in
      let fits : TotalsFit s = totals_fit_lem s (fit-taken month s a.number (reading_for g a) (base_for g a) is) in
      rw (held s more fits h, read_again s more, e) refl

  pub chain_numbers : (xs : List ActiveMinute) (s : Totals) → Chain month g P s xs → Small s.instruction s.minute.0 → Minutes xs
      → (n : ℕ) (more : List ℤ)
      → step_numbers_all month g (numbers_of s ++ more) (take n xs) ≡ numbers_of (last s (map (running_at g) (take n xs))) ++ more
  unfolding step_numbers_all last running_at
  chain_numbers [] s c h m zero more = refl
  chain_numbers [] s c h m (suc n) more = refl
  chain_numbers (a ∷ xs) s c h m zero more = refl
  chain_numbers (a ∷ xs) s (e, c) h (b, m) (suc n) more =
      ap (λ z. step_numbers_all month g z (take n xs)) (one s a more h e) ∙ chain_numbers xs (running_at g a) c b m n more
