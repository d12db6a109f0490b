-- The survey is the rules': complete exactly where every needed minute has a reading, and its count is the number of segments.
use mathlib.Core.Path.{◌≡◌, refl, sym, ◌∙◌, ap, ap₂}
use mathlib.Core.Bool.{Bool, ◌&&◌}
use mathlib.Core.List.{List, [], ◌∷◌, ◌++◌}
use Prim.Native.Nat.{ℕ, zero, suc, ◌+◌, ◌-◌, ◌≤◌, ◌<◌}
use native.Mathlib.Nat.{le_refl}
use native.Mathlib.Omega.{arith}
use lib.IntN.{ℤ}
use lib.ListN.{length, take, length-append}
use lib.Seq.{take-suc, take-length}
use Rattle.energy.specs.Lists.{all, concat_map, between, is_some}
use Rattle.energy.proofs.Sums.{all_append, all_ext}
use Rattle.rules.specs.Ledger.{Ledger, contract_of, span_in}
use Rattle.rules.specs.Segment.{base_minutes, active, needed, complete, segments_of, segments_from, segments}
use Rattle.commands.specs.declared.contract.Contract.{Contract}
use Rattle.commands.specs.declared.entries.Instruction.{Instruction}
use Rattle.rules.proofs.Count.{count-segments}
use Rattle.book.specs.Book.{no_instruction}
use Rattle.settle_terms.specs.declared.Terms.{Terms}
use Rattle.settle_terms.specs.Terms.{issue_of, cease_of}
use Rattle.settle_survey.specs.Survey.{Surveyable, has, survey_of, survey_to}
use Rattle.rules.proofs.Folds.{concat_map_snoc}
use Rattle.settle.proofs.LedgerTables.{TermsOf, instruction_at}

-- the instructions are a ledger's, and so are the cells
pub record Surveyed (g : Ledger) (t : Terms) (calls : List Instruction) (meter : List ℤ) : Type 0 where
  pub laid : Surveyable t calls meter
  pub terms : TermsOf g t calls
  pub reading : (m : ℕ) → m < span_in g → is_some (g.reading m) ≡ has meter m

from_snoc : (k : Contract) (n : ℕ) (xs : List Instruction) (x : Instruction) → length (segments_from k n (xs ++ (x ∷ [])))
    ≡ length (segments_from k n xs) + length (segments_of k (n + length xs) x)
unfolding segments_from
from_snoc k n [] x =
    let e : n ≡ n + 0 = omega arith in
    length-append (segments_of k n x) [] ∙ omega (arith, ap (λ z. length (segments_of k z x)) e)
from_snoc k n (y ∷ xs) x =
    let e : n + suc (length xs) ≡ suc n + length xs = omega arith in
    simp length-append (omega (arith, from_snoc k (suc n) xs x, ap (λ z. length (segments_of k z x)) e))

module _ {g : Ledger} {t : Terms} {calls : List Instruction} {meter : List ℤ} (S : Surveyed g t calls meter) where
  abbrev k : Contract
  k = contract_of g

  abbrev is : List Instruction
  is = g.instructions

  abbrev some? : ℕ → Bool
  some? m = is_some (g.reading m)

  abbrev needs : Instruction → List ℕ
  needs i = base_minutes i ++ active k i

  taken : (n : ℕ) → n < length calls → take (suc n) is ≡ take n is ++ (instruction_at g n ∷ [])
  taken n h = take-suc is n no_instruction (omega (arith, S.terms.count))

  one_complete : (n : ℕ) → n < length calls → (all (has meter) (between (issue_of calls n - 3) (issue_of calls n + 1)) && all (has meter)
      (between (issue_of calls n + t.response.0 - t.upminutes.0) (cease_of calls n + t.downminutes.0))) ≡ all some? (needs (instruction_at g n))
  unfolding base_minutes active
  one_complete n h =
      let q = S.laid.each n h in let s = S.terms.each n h in
      let known : (a b : ℕ) → b ≤ span_in g → all (has meter) (between a b) ≡ all some? (between a b) =
      λ a b l. all_ext (has meter) some? a b (λ m x y. sym (S.reading m (omega arith))) in
      ap₂ ◌&&◌ (known _ _ (omega (arith, q, s)) ∙ ap (λ z. all some? (between (z - 3) (z + 1))) s.issue)
      (known _ _ (omega (arith, s)) ∙ ap₂ (λ a b. all some? (between a b)) s.start s.end)
      ∙ sym (all_append some? (base_minutes (instruction_at g n)) (active k (instruction_at g n)))

  complete_to : (n : ℕ) → n ≤ length calls → (survey_to t calls meter n).complete ≡ all some? (concat_map needs (take n is))
  unfolding survey_of concat_map all
  complete_to zero h = refl
  complete_to (suc n) h =
      ap₂ ◌&&◌ (complete_to n (omega arith)) (one_complete n h)
      ∙ sym (rw (taken n h, concat_map_snoc needs (take n is) (instruction_at g n))
      (all_append some? (concat_map needs (take n is)) (needs (instruction_at g n))))

  count_to : (n : ℕ) → n ≤ length calls → (survey_to t calls meter n).count ≡ length (segments_from k 1 (take n is))
  unfolding survey_of segments_from
  count_to zero h = refl
  count_to (suc n) h =
      let i : Instruction = instruction_at g n in
      let q = S.laid.each n h in let s = S.terms.each n h in
      let one = count-segments k (1 + length (take n is)) i s.timed (omega (arith, S.laid, q, s)) in
      rw (count_to n (omega arith), s.start, s.end, s.expiry, s.cease, taken n h) (sym (from_snoc k 1 (take n is) i ∙ rw one refl))

  all-taken : take (length calls) is ≡ is
  all-taken = rw S.terms.count (take-length is)

  pub survey_complete : (survey_to t calls meter (length calls)).complete ≡ complete g
  unfolding complete needed
  survey_complete = complete_to (length calls) (le_refl (length calls)) ∙ ap (λ l. all some? (concat_map needs l)) all-taken

  pub survey_count : (survey_to t calls meter (length calls)).count ≡ length (segments g)
  unfolding segments
  survey_count = count_to (length calls) (le_refl (length calls)) ∙ ap (λ l. length (segments_from k 1 l)) all-taken
