-- What the lines complete sum up to, instruction by instruction: before an instruction's first minute, from minute to minute, and after its last.
use mathlib.Core.Path.{◌≡◌, sym, ap, ◌∙◌}
use mathlib.Core.Bool.{cond}
use mathlib.Core.List.{List, ◌∷◌}
use Prim.Native.Nat.{ℕ, suc, ◌+◌, ◌-◌, ◌≤◌, ◌<◌}
use native.Mathlib.Omega.{arith}
use lib.Dec.{T}
use lib.IntN.{ℤ, pos, ◌+ℤ◌, +ℤ_assoc, +ℤ_idr}
use Rattle.energy.specs.Lists.{sum}
use Rattle.commands.specs.Input.{up_minutes}
use Rattle.commands.specs.declared.contract.Contract.{Contract}
use Rattle.commands.specs.declared.entries.Instruction.{Instruction}
use Rattle.rules.specs.Ledger.{expiry, ramp_start, end_of}
use Rattle.rules.specs.Reached.{instructions_sound}
use Rattle.rules.specs.Segment.{Segment, segments_from, segments_of}
use Rattle.rules.proofs.Cuts.{Timed, cut, segment_at}
use Rattle.watch.proofs.Cut.{cut_at}
use Rattle.watch.proofs.Done.{Begins, none_before, of_after, of_before, of_grows, sum_to_append, sum_to}

module _ (f : Segment → ℤ) (k : Contract) (span : ℕ) (u : up_minutes k ≤ k.response.0) (n : ℕ) (i : Instruction) (is : List Instruction) (t : Timed k i)
    (rest : T (instructions_sound k span (end_of k i + k.recovery.0) is))
    (ss : List Segment) (P : ℤ) (e : ℕ) (h : e ≤ ramp_start k i)
    (H : (m : ℕ) → e ≤ suc m → sum_to f m ss ≡ P +ℤ sum_to f m (segments_from k n (i ∷ is))) where
  abbrev A : ℕ
  A = ramp_start k i

  abbrev B : ℕ
  B = end_of k i

  -- before the next instruction this one's segments decide
  here : (m : ℕ) → e ≤ suc m → m < B → sum_to f m ss ≡ P +ℤ sum_to f m (segments_of k n i)
  unfolding segments_from
  here m a b =
      H m a
      ∙ ap (λ z. P +ℤ z)
      (sum_to_append f m (segments_of k n i) (segments_from k (suc n) is)
      ∙ ap (λ z. sum_to f m (segments_of k n i) +ℤ z) (none_before f k span u is (suc n) (B + k.recovery.0) m rest (omega arith))
      ∙ +ℤ_idr (sum_to f m (segments_of k n i)))

  pub at_first : 1 ≤ A → A < B → sum_to f (A - 1) ss ≡ P
  at_first o l = here (A - 1) (omega arith) (omega arith) ∙ ap (λ z. P +ℤ z) (of_before f k n i t (A - 1) (omega arith)) ∙ +ℤ_idr P

  pub grows : (v : ℕ → ℤ)
      → ((h m : ℕ) → A ≤ h → h < B → Begins f k n i t h → h ≤ m → cut k i h ≡ suc m → f (segment_at k n i h) ≡ v m)
      → 1 ≤ A → (m : ℕ) → A ≤ m → m < B
      → sum_to f m ss ≡ sum_to f (m - 1) ss +ℤ cond (cut_at (expiry k i) i.cease.0 B (suc m)) (v m) (pos 0)
  grows v ends o m a b =
      let x : ℤ = cond (cut_at (expiry k i) i.cease.0 B (suc m)) (v m) (pos 0) in
      here m (omega arith) b ∙ ap (λ z. P +ℤ z) (of_grows f k n i t v ends o m a b)
      ∙ sym (+ℤ_assoc P (sum_to f (m - 1) (segments_of k n i)) x)
      ∙ ap (λ z. z +ℤ x) (sym (here (m - 1) (omega arith) (omega arith)))

  -- from the last minute p on the next instructions add to what there is
  pub later : (p : ℕ) → suc p ≡ B → A ≤ p → (m : ℕ) → B + k.recovery.0 ≤ suc m → sum_to f m ss ≡ sum_to f p ss +ℤ sum_to f m (segments_from k (suc n) is)
  unfolding segments_from
  later p q a m b =
      let own : ℤ = sum f (segments_of k n i) in
      let others : ℤ = sum_to f m (segments_from k (suc n) is) in
      H m (omega arith)
      ∙ ap (λ z. P +ℤ z) (sum_to_append f m (segments_of k n i) (segments_from k (suc n) is) ∙ ap (λ z. z +ℤ others) (of_after f k n i t m (omega arith)))
      ∙ sym (+ℤ_assoc P own others)
      ∙ ap (λ z. z +ℤ others) (sym (here p (omega arith) (omega arith) ∙ ap (λ z. P +ℤ z) (of_after f k n i t p (omega arith))))
