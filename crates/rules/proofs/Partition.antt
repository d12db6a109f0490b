-- Each active minute belongs to exactly one line, and each line has one: of every ledger.
use mathlib.Core.Path.{◌≡◌, refl, ap, ap₂, ◌∙◌, subst}
use mathlib.Core.Logic.{inl, inr, ⊎_elim, ◌≢◌}
use mathlib.Core.Bool.{Bool, true, false, ◌&&◌, and-false}
use mathlib.Core.List.Memᴰ
use mathlib.Core.List.{List, [], ◌∷◌, Memᴰ}
use mathlib.Core.Option.{some, some-injective, none-ne-some}
use Prim.Native.Nat.{ℕ, zero, suc, ◌+◌, ◌-◌, ◌≤◌, ◌<◌}
use native.Mathlib.Nat.{le_of_lt}
use native.Mathlib.Omega.{arith}
use lib.Dec.{T, eqb}
use lib.ListN.{get_elem?}
use borrow.Author.Tests.{eq-eqb, ne_eqb}
use Rattle.energy.specs.Lists.{count, filter, between}
use Rattle.energy.proofs.Sums.{between_split, between_cons}
use Rattle.energy.proofs.Tests.{to-T, either-le, either-eq}
use Rattle.rules.specs.Ledger.{Ledger, contract_of, ramp_start, end_of}
use Rattle.rules.specs.Segment.{period_of, stage_of, same_stage, alike, heads, active, Segment, segments_of, segments_from, segments}
use Rattle.rules.specs.Statement.{line_of, lines}
use Rattle.rules.specs.Lines.{belongs, Active, MinuteOf, Partition·theorem}
use Rattle.commands.specs.declared.contract.Contract.{Contract}
use Rattle.commands.specs.declared.entries.Instruction.{Instruction}
use Rattle.rules.specs.declared.statement.Line.{Line}
use Rattle.rules.specs.declared.statement.Stage.{Stage}
use Rattle.commands.proofs.Chain.{together}
use Rattle.rules.proofs.Lists.{kept_was, in_between, count_yes, count_ext, count_none, count-without, count-append, count-filter, count_map}
use Rattle.rules.proofs.Cuts.{stage_same, head_test, head_yes, head_no, rank_of, rank_mono, alike_rank, heads_rank}

-- ---- of the minutes where a number that never falls has one value, one is the first

module _ (f : ℕ → ℕ) (mono : (x y : ℕ) → x ≤ y → f x ≤ f y) (A v : ℕ) where
  starts : ℕ → Bool
  starts x = head_test f A x && eqb (f x) v

  starts_no : (x : ℕ) → f x ≢ v → starts x ≡ false
  unfolding starts
  starts_no x h = ap (λ b. head_test f A x && b) (ne_eqb (f x) v h) ∙ and-false (head_test f A x)

  starts_on : (x : ℕ) → A < x → f (x - 1) ≡ f x → starts x ≡ false
  unfolding starts
  starts_on x h e = rw (head_no f A x h e)

  -- where m is the first with this value, none but m starts
  alone : (B m : ℕ) → A ≤ m → m < B → f m ≡ v → ((x : ℕ) → A ≤ x → x < m → f x ≢ v) → count starts (between A B) ≡ 1
  unfolding starts
  alone B m h l e before =
      rw (between_split A m B h (le_of_lt l), between_cons m B l)
      (count-append starts (between A m) (m ∷ between (suc m) B)
      ∙ ap₂ ◌+◌ (count-without starts A m (λ x i k. starts_no x (before x i k)))
      (count_yes starts m (between (suc m) B) here ∙ ap suc (count-without starts (suc m) B after)))
    where
      here : starts m ≡ true
      here =
          rw (
            head_yes f A m
                (either-eq m A inl (λ d. inr (omega (arith, before (m - 1) (omega arith) (omega arith), mono (m - 1) m (omega arith))))),
            eq-eqb (f m) v e,
          )

      after : (x : ℕ) → suc m ≤ x → x < B → starts x ≡ false
      after x i k =
          let up = mono m (x - 1) (omega arith) in
          let on = mono (x - 1) x (omega arith) in
          either-eq (f x) v (λ d. starts_on x (omega arith) (omega arith)) (λ d. starts_no x d)

  count_starts : (B m : ℕ) → A ≤ m → m < B → f m ≡ v → count starts (between A B) ≡ 1
  count_starts B zero h l e = alone B zero h l e (λ x i k. absurd (omega arith))
  count_starts B (suc m) h l e =
      either-le A m
      (λ i. either-eq (f m) v (λ d. count_starts B m i (omega arith) d)
      (λ d. alone B (suc m) h l e (λ x j k q. omega (arith, mono x m (omega arith), mono m (suc m) (omega arith)))))
      (λ i. alone B (suc m) h l e (λ x j k. absurd (omega arith)))

-- exactly one segment's first minute is like an active minute m
heads_once : (k : Contract) (i : Instruction) (m : ℕ) → ramp_start k i ≤ m → m < end_of k i → count (λ h. alike k i h m) (heads k i) ≡ 1
unfolding active starts
heads_once k i m h l =
    let test : ℕ → Bool = head_test (rank_of k i) (ramp_start k i) in
    let minutes : List ℕ = between (ramp_start k i) (end_of k i) in
    ap (count (λ x. alike k i x m)) (heads_rank k i) ∙ count-filter (λ x. alike k i x m) test minutes
    ∙ count_ext (λ x. test x && alike k i x m) (starts (rank_of k i) (rank_mono k i) (ramp_start k i) (rank_of k i m)) minutes
    (λ x. ap (λ b. test x && b) (alike_rank k i x m))
    ∙ count_starts (rank_of k i) (rank_mono k i) (ramp_start k i) (rank_of k i m) (end_of k i) m h l refl

-- ---- over all instructions

-- the test of `belongs`, on a segment
hit : Contract → ℕ → Instruction → ℕ → Segment → Bool
hit k n i m s = eqb s.number n && eqb (period_of s.head) (period_of m) && same_stage (stage_of k s.instruction s.head) (stage_of k i m)

-- the segment of instruction n that begins at x
abbrev pub segment_from : Contract → ℕ → Instruction → ℕ → Segment
segment_from k n i x = record { number = n; instruction = i; head = x; minutes = filter (alike k i x) (active k i) }

hits_of : (k : Contract) (n : ℕ) (i : Instruction) (m : ℕ) → ramp_start k i ≤ m → m < end_of k i → count (hit k n i m) (segments_of k n i) ≡ 1
unfolding segments_of hit
hits_of k n i m h l =
    count_map (hit k n i m) (segment_from k n i) (heads k i)
    ∙ count_ext (λ x. hit k n i m (segment_from k n i x)) (λ x. alike k i x m) (heads k i)
    (λ x. unfold alike in ap (λ b. b && eqb (period_of x) (period_of m) && same_stage (stage_of k i x) (stage_of k i m)) (eq-eqb n n refl))
    ∙ heads_once k i m h l

-- another instruction's segments have another number
hits_other : (k : Contract) (n n' : ℕ) (i i' : Instruction) (m : ℕ) → n' ≢ n → count (hit k n i m) (segments_of k n' i') ≡ 0
unfolding segments_of hit
hits_other k n n' i i' m d =
    count_map (hit k n i m) (segment_from k n' i') (heads k i')
    ∙ count_none (λ x. hit k n i m (segment_from k n' i' x)) (heads k i')
    (λ x. ap (λ b. b && eqb (period_of x) (period_of m) && same_stage (stage_of k i' x) (stage_of k i m)) (ne_eqb n' n d))

hits_later : (k : Contract) (n n' : ℕ) (i : Instruction) (is : List Instruction) (m : ℕ) → n < n' → count (hit k n i m) (segments_from k n' is) ≡ 0
unfolding segments_from count
hits_later k n n' i [] m h = refl
hits_later k n n' i (i' ∷ is) m h =
    count-append (hit k n i m) (segments_of k n' i') (segments_from k (suc n') is)
    ∙ ap₂ ◌+◌ (hits_other k n n' i i' m (λ e. omega arith)) (hits_later k n (suc n') i is m (omega arith))

hits_from : (k : Contract) (is : List Instruction) (n j : ℕ) (i : Instruction) (m : ℕ) → get_elem? is j ≡ some i → ramp_start k i ≤ m → m < end_of k i
    → count (hit k (n + j) i m) (segments_from k n is) ≡ 1
unfolding segments_from
hits_from k [] n j i m e h l = absurd (none-ne-some i e)
hits_from k (i' ∷ is) n zero i m e h l =
    let q : i' ≡ i = some-injective i' i e in
    count-append (hit k (n + 0) i m) (segments_of k n i') (segments_from k (suc n) is)
    ∙ ap₂ ◌+◌
    (ap₂ (λ a b. count (hit k a i m) (segments_of k n b)) (omega arith) q ∙ hits_of k n i m h l)
    (hits_later k (n + 0) (suc n) i is m (omega arith))
hits_from k (i' ∷ is) n (suc j) i m e h l =
    count-append (hit k (n + suc j) i m) (segments_of k n i') (segments_from k (suc n) is)
    ∙ ap₂ ◌+◌
    (hits_other k (n + suc j) n i i' m (λ q. omega arith))
    (ap (λ a. count (hit k a i m) (segments_from k (suc n) is)) (omega arith) ∙ hits_from k is (suc n) j i m e h l)

once : (g : Ledger) (n : ℕ) (i : Instruction) (m : ℕ) → Active g n i m → count (belongs (contract_of g) (suc n) i m) (lines g) ≡ 1
unfolding lines line_of segments hit
once g n i m a =
    count_map (belongs (contract_of g) (suc n) i m) (line_of g) (segments g)
    ∙ ap (λ x. count (hit (contract_of g) x i m) (segments g)) (omega arith)
    ∙ hits_from (contract_of g) g.instructions 1 n i m a.given a.begun a.before_end

-- ---- no line is without a minute

-- where a segment comes from: its instruction, and a head of it
pub record From (k : Contract) (is : List Instruction) (n : ℕ) (s : Segment) : Type 0 where
  pub place : ℕ
  pub given : get_elem? is place ≡ some s.instruction
  pub same : s ≡ segment_from k (n + place) s.instruction s.head
  pub is_head : Memᴰ s.head (heads k s.instruction)

pub segment_from_lem : (k : Contract) (is : List Instruction) (n : ℕ) (s : Segment) → Memᴰ s (segments_from k n is) → From k is n s
unfolding segments_from segments_of
segment_from_lem k [] n s h = absurd (Memᴰ.not-nil h)
segment_from_lem k (i ∷ is) n s h = ⊎_elim here (λ q. go (segment_from_lem k is (suc n) s q)) (Memᴰ.append_cases (segments_of k n i) h)
  where
    here : Memᴰ s (segments_of k n i) → From k (i ∷ is) n s
    here q =
        let (x, r, e) = Memᴰ.of_map (segment_from k n i) (heads k i) q in
        let z : n ≡ n + 0 = omega arith in
        subst (λ s. From k (i ∷ is) n s) e (record { place = 0; given = refl; same = ap (λ a. segment_from k a i x) z; is_head = r })

    go : From k is (suc n) s → From k (i ∷ is) n s
    go f =
        let z : suc n + f.place ≡ n + suc f.place = omega arith in
        record { place = suc f.place; given = f.given; same = f.same ∙ ap (λ a. segment_from k a s.instruction s.head) z; is_head = f.is_head }

-- a head is an active minute, and the first of its rank
pub head_active : (k : Contract) (i : Instruction) (m : ℕ) → Memᴰ m (heads k i) → (ramp_start k i ≤ m) × (m < end_of k i) × T
    (head_test (rank_of k i) (ramp_start k i) m)
unfolding active
head_active k i m h =
    let q = kept_was (head_test (rank_of k i) (ramp_start k i)) (between (ramp_start k i) (end_of k i)) (subst (λ l. Memᴰ m l) (heads_rank k i) h) in
    let r = in_between (ramp_start k i) (end_of k i) m q.0 in
    (r.0, r.1, q.1)

nonempty : (g : Ledger) (l : Line) → Memᴰ l (lines g) → MinuteOf g l
unfolding lines line_of segments
nonempty g l h =
    let k : Contract = contract_of g in
    let (s, q, e) = Memᴰ.of_map (line_of g) (segments g) h in
    let f : From k g.instructions 1 s = segment_from_lem k g.instructions 1 s q in
    let a = head_active k s.instruction s.head f.is_head in
    let number : s.number ≡ 1 + f.place = ap (λ (s : Segment). s.number) f.same in
    let stage : Stage = stage_of k s.instruction s.head in
    subst (λ l. MinuteOf g l) e
    (record {
      n = f.place;
      i = s.instruction;
      m = s.head;
      active = record { given = f.given; begun = a.0; before_end = a.1 };
      its_line =
          together (eqb s.number (suc f.place)) (eqb (period_of s.head) (period_of s.head) ∷ same_stage stage stage ∷ [])
          (to-T (eq-eqb s.number (suc f.place) (omega arith)))
          (to-T (eq-eqb (period_of s.head) (period_of s.head) refl), (to-T (stage_same stage), tt));
    })

pub partition : Partition·theorem
partition g = record { once = once g; nonempty = nonempty g }
