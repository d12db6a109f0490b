-- How many segments an instruction has: the periods that each of its three stages touches.
use mathlib.Core.Path.{◌≡◌, refl, sym, ap, ◌∙◌}
use mathlib.Core.Bool.{cond}
use Prim.Native.Nat.{ℕ, zero, suc, ◌+◌, ◌-◌, ◌*◌, ◌/◌, ◌≤◌, ◌<◌, min}
use native.Mathlib.Nat.{le_refl}
use native.Mathlib.Omega.{arith}
use lib.Dec.{ltb}
use lib.ListN.{length}
use borrow.Author.Tests.{ltb-true, ltb-false, lt-ltb, le-ltb}
use Rattle.energy.proofs.Tests.{either, either-le}
use Rattle.rules.specs.Ledger.{expiry, ramp_start, end_of}
use Rattle.rules.specs.Segment.{segments_of}
use Rattle.commands.specs.declared.contract.Contract.{Contract}
use Rattle.commands.specs.declared.entries.Instruction.{Instruction}
use Rattle.rules.proofs.Cuts.{split, rises, cut, cuts_from, segments_cuts, Timed}
use Rattle.rules.specs.Cuts.{cut_of, touched}

touched_yes : (a b : ℕ) → a < b → touched a b ≡ (b - 1) / 30 - a / 30 + 1
unfolding touched
touched_yes a b h = rw (lt-ltb a b h) refl

touched_no : (a b : ℕ) → b ≤ a → touched a b ≡ 0
unfolding touched
touched_no a b h = rw (le-ltb a b h) refl

touched_most : (a b : ℕ) → touched a b ≤ (b - 1) / 30 - a / 30 + 1
touched_most a b = either-le b a (λ h. omega (arith, touched_no a b h)) (λ h. omega (arith, touched_yes a b h))

-- three stages, one after the other, touch few periods twice
pub stages_most : (a e c f : ℕ) → a < e → e ≤ c → c < f → touched a e + touched e c + touched c f + a / 30 ≤ 3 + (f - 1) / 30
stages_most a e c f h o o' = omega (arith, touched_most a e, touched_most e c, touched_most c f)

module _ (e c f : ℕ) (o : e ≤ c) (o' : c ≤ f) where
  -- the segments from m on
  left : ℕ → ℕ
  left m = cond (ltb m e) (touched m e + touched e c + touched c f) (cond (ltb m c) (touched m c + touched c f) (touched m f))

  up_left : (m : ℕ) → m < e → left m ≡ touched m e + touched e c + touched c f
  unfolding left
  up_left m h = rw (lt-ltb m e h) refl

  steady_left : (m : ℕ) → e ≤ m → m < c → left m ≡ touched m c + touched c f
  unfolding left
  steady_left m h k = rw (le-ltb m e h, lt-ltb m c k) refl

  down_left : (m : ℕ) → e ≤ m → c ≤ m → left m ≡ touched m f
  unfolding left
  down_left m h k = rw (le-ltb m e h, le-ltb m c k) refl

  left_none : (m : ℕ) → f ≤ m → left m ≡ 0
  left_none m h = down_left m (omega arith) (omega arith) ∙ touched_no m f h

  -- a stage from m to s: one segment, and the rest of the stage or what is after it
  stage_step : (m s : ℕ) → m < s → touched m s ≡ suc (touched (min s (30 * (m / 30) + 30)) s)
  stage_step m s h =
      let next = min s (30 * (m / 30) + 30) in
      either-le s (30 * (m / 30) + 30) (λ l. omega (arith, touched_yes m s h, touched_no next s (omega arith)))
      (λ l. omega (arith, touched_yes m s h, touched_yes next s (omega arith)))

  -- at the end of a stage the rest is what comes after it
  from_expiry : left e ≡ touched e c + touched c f
  from_expiry =
      either-le c e
      (λ l. let q : c ≡ e = omega arith in down_left e (le_refl e) l ∙ omega (arith, touched_no e c l, ap (λ z. touched z f) q))
      (λ l. steady_left e (le_refl e) l)

  step_left : (m : ℕ) → m < f → left m ≡ suc (left (cut_of e c f m))
  unfolding cut_of
  step_left m h =
      split e c m (λ p q. left m ≡ suc (left (min (cond p e (cond q c f)) (30 * (m / 30) + 30))))
      (λ l q.
      let next = min e (30 * (m / 30) + 30) in
      let here = up_left m l in
      let step = stage_step m e l in
      either-le e next
      (λ d. let same : next ≡ e = omega arith in omega (arith, touched_no next e (omega arith), ap left same, from_expiry))
      (λ d. omega (arith, up_left next d)))
      (λ k l.
      let next = min c (30 * (m / 30) + 30) in
      let here = steady_left m k l in
      let step = stage_step m c l in
      either-le c next
      (λ d. let same : next ≡ c = omega arith in omega (arith, touched_no next c (omega arith), ap left same, down_left c o (le_refl c)))
      (λ d. omega (arith, steady_left next (omega arith) d)))
      (λ k l. omega (arith, down_left m k l, down_left (min f (30 * (m / 30) + 30)) (omega arith) (omega arith), stage_step m f h))

module _ (k : Contract) (n : ℕ) (i : Instruction) (t : Timed k i) where
  abbrev o' : i.cease.0 ≤ end_of k i
  o' = omega arith

  count_go : (u m : ℕ) → end_of k i ≤ m + u → length (cuts_from k n i u m) ≡ left (expiry k i) i.cease.0 (end_of k i) t.steady o' m
  unfolding cuts_from
  count_go zero m h = sym (left_none (expiry k i) i.cease.0 (end_of k i) t.steady o' m (omega arith))
  count_go (suc u) m h =
      either (ltb m (end_of k i))
      (λ e.
      let a : m < end_of k i = ltb-true m (end_of k i) e in
      let further = (rises (expiry k i) i.cease.0 (end_of k i) t.steady o').above m a in
      rw e (ap suc (count_go u (cut k i m) (omega arith)) ∙ sym (step_left (expiry k i) i.cease.0 (end_of k i) t.steady o' m a)))
      (λ e. rw e (sym (left_none (expiry k i) i.cease.0 (end_of k i) t.steady o' m (ltb-false m (end_of k i) e))))

  -- the number of segments
  pub count-segments : 0 < expiry k i - ramp_start k i
      → length (segments_of k n i) ≡ touched (ramp_start k i) (expiry k i) + touched (expiry k i) i.cease.0 + touched i.cease.0 (end_of k i)
  count-segments h =
      ap length (segments_cuts k n i t) ∙ count_go (end_of k i - ramp_start k i) (ramp_start k i) (omega arith)
      ∙ up_left (expiry k i) i.cease.0 (end_of k i) t.steady o' (ramp_start k i) (omega arith)
