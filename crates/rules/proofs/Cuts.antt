-- A segment's minutes are an interval: from its first minute up to the end of its stage or of its period, whichever is first. So the segments
-- of an instruction are the cuts of its active minutes, one after the other.
use mathlib.Core.Path.{◌≡◌, refl, sym, ap, ap₂, ◌∙◌, subst}
use mathlib.Core.Logic.{◌⊎◌, inl, inr, ⊎_elim}
use mathlib.Core.Bool.{Bool, true, false, cond, not, ◌&&◌, ◌||◌, or-true}
use mathlib.Core.List.{List, [], ◌∷◌, ◌++◌, append-nil, map}
use Prim.Native.Nat.{ℕ, zero, suc, ◌+◌, ◌-◌, ◌*◌, ◌/◌, ◌≤◌, ◌<◌, zero-le, min}
use native.Mathlib.Nat.{le_refl, le_of_lt}
use native.Mathlib.Omega.{arith}
use lib.Dec.{T, ltb, eqb, eqb→eq}
use borrow.Author.Tests.{ltb-true, ltb-false, eq-eqb, ne_eqb}
use Rattle.energy.specs.Lists.{filter, between}
use Rattle.energy.proofs.Sums.{between_split, between_cons}
use Rattle.energy.proofs.Tests.{T_and, and_T, to-T, same_test, either, either-le}
use Rattle.rules.specs.Ledger.{expiry, ramp_start, end_of}
use Rattle.rules.specs.Cuts.{stage_at, stage_end, cut_of}
use Rattle.rules.specs.Segment.{period_of, stage_of, same_stage, alike, heads, active, Segment, segments_of}
use Rattle.commands.specs.declared.contract.Contract.{Contract}
use Rattle.commands.specs.declared.entries.Instruction.{Instruction}
use Rattle.rules.specs.declared.statement.Stage.{Stage}
use Rattle.rules.specs.declared.statement.Stage.TheVariants.{Up, Steady, Down}
use Rattle.rules.proofs.Lists.{filter_ext, filter_yes, filter-append, filter-all, filter_none}

-- ---- a number that never falls, r, and the place where it next rises, cut
pub record Rises (r cut : ℕ → ℕ) (B : ℕ) : Type 0 where
  pub mono : (x y : ℕ) → x ≤ y → r x ≤ r y
  pub above : (m : ℕ) → m < B → m < cut m
  pub inside : (m : ℕ) → m < B → cut m ≤ B
  pub flat : (m x : ℕ) → m ≤ x → x < cut m → r x ≡ r m
  pub jump : (m : ℕ) → cut m < B → r m < r (cut m)

-- x is the first of its run, from A on
unfoldable pub head_test : (ℕ → ℕ) → ℕ → ℕ → Bool
head_test r A x = eqb x A || not (eqb (r (x - 1)) (r x))

-- it is A, or above the one before it
pub head_yes : (r : ℕ → ℕ) (A m : ℕ) → (m ≡ A) ⊎ (r (m - 1) < r m) → head_test r A m ≡ true
unfolding head_test
head_yes r A m (inl e) = rw (eq-eqb m A e)
head_yes r A m (inr j) = rw (ne_eqb (r (m - 1)) (r m) (λ e. omega arith)) (or-true (eqb m A))

pub head_no : (r : ℕ → ℕ) (A x : ℕ) → A < x → r (x - 1) ≡ r x → head_test r A x ≡ false
unfolding head_test
head_no r A x h e = rw (ne_eqb x A (λ q. omega arith), eq-eqb (r (x - 1)) (r x) e)

module _ (r cut : ℕ → ℕ) (A B : ℕ) (R : Rises r cut B) where
  abbrev Head : ℕ → Type 0
  Head m = (m ≡ A) ⊎ (r (m - 1) < r m)

  -- the minutes of a run are an interval
  run-between : (m : ℕ) → A ≤ m → m < B → Head m → filter (λ x. eqb (r m) (r x)) (between A B) ≡ between m (cut m)
  run-between m h l q =
      let u : m < cut m = R.above m l in let v : cut m ≤ B = R.inside m l in
      ap (filter (λ x. eqb (r m) (r x))) (between_split A m B h (omega arith) ∙ ap (λ z. between A m ++ z) (between_split m (cut m) B (omega arith) v))
      ∙ filter-append _ (between A m) (between m (cut m) ++ between (cut m) B)
      ∙ ap₂ ◌++◌ (filter_none _ A m (λ x i k. ne_eqb (r m) (r x) (λ e. before x i k q e)))
      (filter-append _ (between m (cut m)) (between (cut m) B)
      ∙ ap₂ ◌++◌ (filter-all _ m (cut m) (λ x i k. eq-eqb (r m) (r x) (sym (R.flat m x i k))))
      (filter_none _ (cut m) B (λ x i k. ne_eqb (r m) (r x) (λ e. omega (arith, R.jump m (omega arith), R.mono (cut m) x i)))))
      ∙ append-nil (between m (cut m))
    where
      before : (x : ℕ) → A ≤ x → x < m → Head m → r m ≡ r x → ⊥
      before x i k (inl e) d = omega arith
      before x i k (inr j) d = omega (arith, R.mono x (m - 1) (omega arith))

  -- the first of the runs from m on: m, and then those from the cut on
  heads-cons : (m : ℕ) → A ≤ m → m < B → Head m → filter (head_test r A) (between m B) ≡ m ∷ filter (head_test r A) (between (cut m) B)
  heads-cons m h l q =
      let u : m < cut m = R.above m l in let v : cut m ≤ B = R.inside m l in
      ap (filter (head_test r A)) (between_cons m B l ∙ ap (λ z. m ∷ z) (between_split (suc m) (cut m) B u v))
      ∙ filter_yes (head_test r A) m (between (suc m) (cut m) ++ between (cut m) B) (head_yes r A m q)
      ∙ ap (λ z. m ∷ z) (filter-append (head_test r A) (between (suc m) (cut m)) (between (cut m) B)
      ∙ ap (λ z. z ++ filter (head_test r A) (between (cut m) B)) (filter_none (head_test r A) (suc m) (cut m)
      (λ x i k. head_no r A x (omega arith) (R.flat m (x - 1) (omega arith) (omega arith) ∙ sym (R.flat m x (omega arith) k)))))

  head_next : (m : ℕ) → m < B → cut m < B → Head (cut m)
  head_next m l k = inr (omega (arith, R.jump m k, R.flat m (cut m - 1) (omega (arith, R.above m l)) (omega (arith, R.above m l))))

-- ---- stage and period as one number that never falls
-- e the expiry, c the cease, f the end
abbrev pub stage_ix : Stage → ℕ
stage_ix Up = 0
stage_ix Steady = 1
stage_ix Down = 2

abbrev pub rank : ℕ → ℕ → ℕ → ℕ
rank e c m = period_of m + stage_ix (stage_at e c m)

-- the three stages of a minute
pub split : (e c m : ℕ) (P : Bool → Bool → Type 0) → (m < e → (q : Bool) → P true q) → (e ≤ m → m < c → P false true) → (e ≤ m → c ≤ m → P false false)
    → P (ltb m e) (ltb m c)
split e c m P up steady down =
    either (ltb m e) (λ a. rw a (up (ltb-true m e a) (ltb m c)))
    (λ a.
    either (ltb m c) (λ b. rw (a, b) (steady (ltb-false m e a) (ltb-true m c b))) (λ b. rw (a, b) (down (ltb-false m e a) (ltb-false m c b))))

abbrev ix_of : Bool → Bool → ℕ
ix_of p q = stage_ix (cond p Up (cond q Steady Down))

ix_mono : (e c m n : ℕ) → m ≤ n → stage_ix (stage_at e c m) ≤ stage_ix (stage_at e c n)
ix_mono e c m n h =
    split e c m (λ p q. ix_of p q ≤ ix_of (ltb n e) (ltb n c)) (λ l q. zero-le)
    (λ k l. split e c n (λ p q. 1 ≤ ix_of p q) (λ l q. absurd (omega arith)) (λ i j. le_refl 1) (λ i j. omega arith))
    (λ k l. split e c n (λ p q. 2 ≤ ix_of p q) (λ l q. absurd (omega arith)) (λ i j. absurd (omega arith)) (λ i j. le_refl 2))

ix_flat : (e c f m n : ℕ) → m ≤ n → n < stage_end e c f m → stage_ix (stage_at e c n) ≡ stage_ix (stage_at e c m)
ix_flat e c f m n h =
    split e c m (λ p q. n < cond p e (cond q c f) → ix_of (ltb n e) (ltb n c) ≡ ix_of p q)
    (λ l q k. split e c n (λ p q. ix_of p q ≡ 0) (λ i q. refl) (λ i j. absurd (omega arith)) (λ i j. absurd (omega arith)))
    (λ a b k. split e c n (λ p q. ix_of p q ≡ 1) (λ i q. absurd (omega arith)) (λ i j. refl) (λ i j. absurd (omega arith)))
    (λ a b k. split e c n (λ p q. ix_of p q ≡ 2) (λ i q. absurd (omega arith)) (λ i j. absurd (omega arith)) (λ i j. refl))

ix_jump : (e c f m : ℕ) → e ≤ c → stage_end e c f m < f → stage_ix (stage_at e c m) < stage_ix (stage_at e c (stage_end e c f m))
ix_jump e c f m o =
    split e c m (λ p q. cond p e (cond q c f) < f → ix_of p q < ix_of (ltb (cond p e (cond q c f)) e) (ltb (cond p e (cond q c f)) c))
    (λ l q k. split e c e (λ p q. 0 < ix_of p q) (λ i q. absurd (omega arith)) (λ i j. omega arith) (λ i j. omega arith))
    (λ l i k. split e c c (λ p q. 1 < ix_of p q) (λ i q. absurd (omega arith)) (λ i j. absurd (omega arith)) (λ i j. omega arith))
    (λ l i k. absurd (omega arith))

pub rises : (e c f : ℕ) → e ≤ c → c ≤ f → Rises (rank e c) (cut_of e c f) f
unfolding cut_of
rises e c f o o' =
    record {
      mono = λ x y h. omega (arith, ix_mono e c x y h);
      above = λ m h. split e c m (λ p q. m < min (cond p e (cond q c f)) (30 * (m / 30) + 30)) (λ l q. omega arith) (λ k l. omega arith) (λ k l. omega arith);
      inside = λ m h. split e c m (λ p q. min (cond p e (cond q c f)) (30 * (m / 30) + 30) ≤ f) (λ l q. omega arith) (λ k l. omega arith) (λ k l. omega arith);
      flat = λ m x h k. let i : stage_ix (stage_at e c x) ≡ stage_ix (stage_at e c m) = ix_flat e c f m x h (omega arith) in omega arith;
      jump = λ m h.
          -- the stage ends within the period, or goes on after it
          either-le (stage_end e c f m) (30 * (m / 30) + 30)
          (λ l.
          let a : min (stage_end e c f m) (30 * (m / 30) + 30) ≡ stage_end e c f m = omega arith in
          let b : m ≤ stage_end e c f m =
          split e c m (λ p q. cond p e (cond q c f) < f → m ≤ cond p e (cond q c f)) (λ l q z. omega arith) (λ k l z. omega arith)
          (λ k l z. absurd (omega arith)) (omega arith) in
          rw a (omega (arith, ix_jump e c f m o (omega arith))))
          (λ l.
          let a : min (stage_end e c f m) (30 * (m / 30) + 30) ≡ 30 * (m / 30) + 30 = omega arith in
          rw a (omega (arith, ix_mono e c m (30 * (m / 30) + 30) (omega arith))));
    }

-- ---- two minutes are alike where this number is the same
-- the stage of a number is got back from it
ix_back : (s : Stage) → stage_at 1 2 (stage_ix s) ≡ s
ix_back Up = refl
ix_back Steady = refl
ix_back Down = refl

ix_same : (s t : Stage) → stage_ix s ≡ stage_ix t → s ≡ t
ix_same s t p = sym (ix_back s) ∙ ap (stage_at 1 2) p ∙ ix_back t

by_stage : (P : Stage → Type 0) → P Up → P Steady → P Down → (s : Stage) → P s
by_stage P u s d Up = u
by_stage P u s d Steady = s
by_stage P u s d Down = d

same_ix : (s t : Stage) → same_stage s t ≡ eqb (stage_ix s) (stage_ix t)
same_ix Up = by_stage (λ t. same_stage Up t ≡ eqb 0 (stage_ix t)) refl refl refl
same_ix Steady = by_stage (λ t. same_stage Steady t ≡ eqb 1 (stage_ix t)) refl refl refl
same_ix Down = by_stage (λ t. same_stage Down t ≡ eqb 2 (stage_ix t)) refl refl refl

-- a test of two stages, and what it tells
pub same_stage_lem : (s t : Stage) → T (same_stage s t) → s ≡ t
same_stage_lem s t h = ix_same s t (eqb→eq (stage_ix s) (stage_ix t) (subst (λ b. T b) (same_ix s t) h))

pub stage_same : (s : Stage) → same_stage s s ≡ true
stage_same s = same_ix s s ∙ eq-eqb (stage_ix s) (stage_ix s) refl

both_eq : (p q a b : ℕ) → ((p ≤ q) × (a ≤ b)) ⊎ ((q ≤ p) × (b ≤ a)) → (eqb p q && eqb a b) ≡ eqb (p + a) (q + b)
both_eq p q a b h =
    same_test (eqb p q && eqb a b) (eqb (p + a) (q + b))
    (λ t. let s = T_and (eqb p q) (eqb a b) t in to-T (eq-eqb (p + a) (q + b) (ap₂ ◌+◌ (eqb→eq p q s.0) (eqb→eq a b s.1))))
    (λ t.
    let e : p + a ≡ q + b = eqb→eq (p + a) (q + b) t in
    let (d, d') : (p ≡ q) × (a ≡ b) = ⊎_elim (λ w. omega arith) (λ w. omega arith) h in
    and_T (eqb p q) (eqb a b) (to-T (eq-eqb p q d)) (to-T (eq-eqb a b d')))

-- of the minutes of an instruction
abbrev pub rank_of : Contract → Instruction → ℕ → ℕ
rank_of k i = rank (expiry k i) i.cease.0

pub rank_mono : (k : Contract) (i : Instruction) (m n : ℕ) → m ≤ n → rank_of k i m ≤ rank_of k i n
rank_mono k i m n h = omega (arith, ix_mono (expiry k i) i.cease.0 m n h)

pub alike_rank : (k : Contract) (i : Instruction) (m n : ℕ) → alike k i m n ≡ eqb (rank_of k i m) (rank_of k i n)
unfolding alike stage_of
alike_rank k i m n =
    ap (λ x. eqb (period_of m) (period_of n) && x) (same_ix (stage m) (stage n))
    ∙ both_eq (period_of m) (period_of n) (stage_ix (stage m)) (stage_ix (stage n))
    (either-le m n (λ h. inl (omega arith, ix_mono (expiry k i) i.cease.0 m n h))
    (λ l. inr (omega arith, ix_mono (expiry k i) i.cease.0 n m (le_of_lt l))))
  where
    stage : ℕ → Stage
    stage = stage_at (expiry k i) i.cease.0

-- the heads of an instruction's segments are the first minutes of each rank
pub heads_rank : (k : Contract) (i : Instruction) → heads k i ≡ filter (head_test (rank_of k i) (ramp_start k i)) (active k i)
unfolding heads head_test
heads_rank k i =
    filter_ext (λ m. eqb m (ramp_start k i) || not (alike k i (m - 1) m)) (head_test (rank_of k i) (ramp_start k i))
    (λ m. ap (λ b. eqb m (ramp_start k i) || not b) (alike_rank k i (m - 1) m)) (active k i)

-- ---- the segments of an instruction are its cuts
-- the end of the segment that begins at m
abbrev pub cut : Contract → Instruction → ℕ → ℕ
cut k i m = cut_of (expiry k i) i.cease.0 (end_of k i) m

abbrev pub segment_at : Contract → ℕ → Instruction → ℕ → Segment
segment_at k n i m = record { number = n; instruction = i; head = m; minutes = between m (cut k i m) }

-- the segments from m on: at most u of them
unfoldable pub cuts_from : Contract → ℕ → Instruction → ℕ → ℕ → List Segment
cuts_from k n i zero m = []
cuts_from k n i (suc u) m = cond (ltb m (end_of k i)) (segment_at k n i m ∷ cuts_from k n i u (cut k i m)) []

-- what the book ensures of an instruction's times
pub record Timed (k : Contract) (i : Instruction) : Type 0 where
  pub starts : ramp_start k i ≤ expiry k i
  pub steady : expiry k i ≤ i.cease.0

module _ (k : Contract) (n : ℕ) (i : Instruction) (t : Timed k i) where
  abbrev R : Rises (rank_of k i) (cut k i) (end_of k i)
  R = rises (expiry k i) i.cease.0 (end_of k i) t.steady (omega arith)

  abbrev r : ℕ → ℕ
  r = rank_of k i

  abbrev Hd : ℕ → Type 0
  Hd = Head r (cut k i) (ramp_start k i) (end_of k i) R

  abbrev seg : ℕ → Segment
  seg m = record { number = n; instruction = i; head = m; minutes = filter (alike k i m) (active k i) }

  seg_at : (m : ℕ) → ramp_start k i ≤ m → m < end_of k i → Hd m → seg m ≡ segment_at k n i m
  unfolding active
  seg_at m h l q = ap (λ (z : List ℕ). record { number = n; instruction = i; head = m; minutes = z })
      (filter_ext (alike k i m) (λ x. eqb (r m) (r x)) (λ x. alike_rank k i m x) (between (ramp_start k i) (end_of k i))
      ∙ run-between r (cut k i) (ramp_start k i) (end_of k i) R m h l q)

  abbrev test : ℕ → Bool
  test = head_test r (ramp_start k i)

  cuts_go : (u m : ℕ) → end_of k i ≤ m + u → ramp_start k i ≤ m → (m < end_of k i → Hd m) → map seg (filter test (between m (end_of k i))) ≡ cuts_from k n i u m
  unfolding cuts_from
  cuts_go zero m h l q = ap (map seg) (filter_none test m (end_of k i) (λ x a b. absurd (omega arith)))
  cuts_go (suc u) m h l q =
      either (ltb m (end_of k i))
      (λ e.
      let a : m < end_of k i = ltb-true m (end_of k i) e in
      let b : m < cut k i m = R.above m a in
      rw e
      (ap (map seg) (heads-cons r (cut k i) (ramp_start k i) (end_of k i) R m l a (q a))
      ∙ ap₂ ◌∷◌ (seg_at m l a (q a))
      (cuts_go u (cut k i m) (omega arith) (omega arith) (λ z. head_next r (cut k i) (ramp_start k i) (end_of k i) R m a z))))
      (λ e. rw e (ap (map seg) (filter_none test m (end_of k i) (λ x a b. absurd (omega (arith, ltb-false m (end_of k i) e))))))

  -- the segments of an instruction, one after the other
  pub segments_cuts : segments_of k n i ≡ cuts_from k n i (end_of k i - ramp_start k i) (ramp_start k i)
  unfolding segments_of active
  segments_cuts = ap (map seg) (heads_rank k i) ∙ cuts_go (end_of k i - ramp_start k i) (ramp_start k i) (omega arith) (le_refl (ramp_start k i)) (λ z. inl refl)

-- the stage is the same throughout a segment
pub stage_flat : (e c f m n : ℕ) → m ≤ n → n < cut_of e c f m → stage_at e c n ≡ stage_at e c m
unfolding cut_of
stage_flat e c f m n h k = ix_same (stage_at e c n) (stage_at e c m) (ix_flat e c f m n h (omega arith))
