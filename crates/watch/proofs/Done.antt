-- Lines complete: what the segments without a later minute than m sum up to. From minute to minute it grows by the segment that ends there, if one does.
use mathlib.Core.Path.{◌≡◌, refl, sym, ap, ap₂, ◌∙◌}
use mathlib.Core.Logic.{◌⊎◌, inl, inr}
use mathlib.Core.Bool.{Bool, true, false, cond, and-false}
use mathlib.Core.List.{List, [], ◌∷◌, ◌++◌}
use Prim.Native.Nat.{ℕ, zero, suc, ◌+◌, ◌-◌, ◌≤◌, ◌<◌}
use native.Mathlib.Numerals.{add-one}
use native.Mathlib.Omega.{arith}
use lib.Dec.{T, eqb, leb, ltb}
use lib.IntN.{ℤ, pos, ◌+ℤ◌, +ℤ_assoc, +ℤ_idl, +ℤ_idr}
use borrow.Author.Tests.{eq-eqb, ne_eqb, le-leb, lt-leb, lt-ltb, ltb-true}
use Rattle.energy.specs.Lists.{all, between, filter, sum}
use Rattle.energy.proofs.Sums.{all_snoc, between_ind, sum-append}
use Rattle.energy.proofs.Tests.{either, either-eq, either-le}
use Rattle.commands.specs.Input.{up_minutes}
use Rattle.commands.specs.declared.contract.Contract.{Contract}
use Rattle.commands.specs.declared.entries.Instruction.{Instruction}
use Rattle.rules.specs.Ledger.{expiry, ramp_start, end_of}
use Rattle.rules.specs.Reached.{instructions_sound}
use Rattle.rules.specs.Segment.{Segment, segments_from, segments_of}
use Rattle.rules.proofs.Cuts.{Rises, Timed, cut, cuts_from, rank_of, rises, segment_at, segments_cuts}
use Rattle.rules.proofs.Lists.{filter-append, filter_no, filter_yes}
use Rattle.rules.proofs.Tables.{instructions_cons}
use Rattle.watch.proofs.Cut.{cut_at, cut_here}

-- no minute of a segment is after m
abbrev pub done_by : ℕ → Segment → Bool
done_by m s = all (λ x. leb x m) s.minutes

-- an interval's last minute decides
all_upto : (h p m : ℕ) → p ≤ m → all (λ x. leb x m) (between h p) ≡ true
unfolding all
all_upto h p m q = between_ind (λ l. all (λ x. leb x m) l ≡ true) h p refl (λ x l a b r. rw (le-leb x m (omega arith)) r)

interval_done : (h p m : ℕ) → h ≤ p → all (λ x. leb x m) (between h (suc p)) ≡ leb (suc p) (suc m)
interval_done h p m l =
    ap (λ z. all (λ x. leb x m) (between h z)) (sym (add-one p)) ∙ all_snoc (λ x. leb x m) h p l
    ∙ either-le p m (λ q. rw (all_upto h p m q, le-leb p m q) (sym (le-leb (suc p) (suc m) (omega arith))))
    (λ q. rw (lt-leb p m q) (and-false (all (λ x. leb x m) (between h p))) ∙ sym (lt-leb (suc p) (suc m) (omega arith)))

pub done_cut : (h c m : ℕ) → h < c → all (λ x. leb x m) (between h c) ≡ leb c (suc m)
done_cut h zero m l = absurd (omega arith)
done_cut h (suc p) m l = interval_done h p m (omega arith)

module _ (f : Segment → ℤ) where
  -- the sum of f over the segments complete after m
  unfoldable pub sum_to : ℕ → List Segment → ℤ
  sum_to m ss = sum f (filter (done_by m) ss)

  pub sum_to_append : (m : ℕ) (xs ys : List Segment) → sum_to m (xs ++ ys) ≡ sum_to m xs +ℤ sum_to m ys
  unfolding sum_to
  sum_to_append m xs ys = ap (sum f) (filter-append (done_by m) xs ys) ∙ sum-append f (filter (done_by m) xs) (filter (done_by m) ys)

  sum_to_yes : (m : ℕ) (s : Segment) (ss : List Segment) → done_by m s ≡ true → sum_to m (s ∷ ss) ≡ f s +ℤ sum_to m ss
  unfolding sum_to sum
  sum_to_yes m s ss e = ap (sum f) (filter_yes (done_by m) s ss e)

  sum_to_no : (m : ℕ) (s : Segment) (ss : List Segment) → done_by m s ≡ false → sum_to m (s ∷ ss) ≡ sum_to m ss
  unfolding sum_to
  sum_to_no m s ss e = ap (sum f) (filter_no (done_by m) s ss e)

  -- ---- the segments of one instruction

  module _ (k : Contract) (n : ℕ) (i : Instruction) (t : Timed k i) where
    abbrev B : ℕ
    B = end_of k i

    abbrev R : Rises (rank_of k i) (cut k i) B
    R = rises (expiry k i) i.cease.0 B t.steady (omega arith)

    done_at : (m h : ℕ) → h < B → done_by m (segment_at k n i h) ≡ leb (cut k i h) (suc m)
    done_at m h l = done_cut h (cut k i h) m (R.above h l)

    -- none of those from h on is complete before h
    cuts_before : (u h m : ℕ) → m < h → sum_to m (cuts_from k n i u h) ≡ pos 0
    unfolding cuts_from sum_to filter sum
    cuts_before zero h m q = refl
    cuts_before (suc u) h m q =
        either (ltb h B)
        (λ e.
        let a : h < cut k i h = R.above h (ltb-true h B e) in
        rw e
        (sum_to_no m (segment_at k n i h) (cuts_from k n i u (cut k i h))
        (done_at m h (ltb-true h B e) ∙ lt-leb (cut k i h) (suc m) (omega arith))
        ∙ cuts_before u (cut k i h) m (omega arith)))
        (λ e. rw e refl)

    -- all of them are after the instruction's last minute
    cuts_after : (u h m : ℕ) → B ≤ suc m → sum_to m (cuts_from k n i u h) ≡ sum f (cuts_from k n i u h)
    unfolding cuts_from sum_to filter sum
    cuts_after zero h m q = refl
    cuts_after (suc u) h m q =
        either (ltb h B)
        (λ e.
        let a : cut k i h ≤ B = R.inside h (ltb-true h B e) in
        rw e
        (sum_to_yes m (segment_at k n i h) (cuts_from k n i u (cut k i h))
        (done_at m h (ltb-true h B e) ∙ le-leb (cut k i h) (suc m) (omega arith))
        ∙ ap (λ z. f (segment_at k n i h) +ℤ z) (cuts_after u (cut k i h) m q)))
        (λ e. rw e refl)

    -- a segment begins at h
    abbrev pub Begins : ℕ → Type 0
    Begins h = (h ≡ ramp_start k i) ⊎ (rank_of k i (h - 1) < rank_of k i h)

    begins_next : (h : ℕ) → h < B → cut k i h < B → Begins (cut k i h)
    begins_next h l q =
        let a : h < cut k i h = R.above h l in
        inr (omega (arith, R.jump h q, R.flat h (cut k i h - 1) (omega arith) (omega arith)))

    -- the last minute of a segment brings what v gives of it
    module _ (v : ℕ → ℤ) (ends : (h m : ℕ) → ramp_start k i ≤ h → h < B → Begins h → h ≤ m → cut k i h ≡ suc m → f (segment_at k n i h) ≡ v m) where
      grown : (u h : ℕ) → B ≤ h + u → ramp_start k i ≤ h → Begins h → 1 ≤ h → (m : ℕ) → h ≤ m → m < B
          → sum_to m (cuts_from k n i u h)
          ≡ sum_to (m - 1) (cuts_from k n i u h) +ℤ cond (cut_at (expiry k i) i.cease.0 B (suc m)) (v m) (pos 0)
      unfolding cuts_from
      grown zero h e a b o m p q = absurd (omega arith)
      grown (suc u) h e a b o m p q =
          let l : h < B = omega arith in
          let s : Segment = segment_at k n i h in
          let c : ℕ = cut k i h in
          let rest : List Segment = cuts_from k n i u c in
          let w : h < c = R.above h l in
          let back : suc (m - 1) ≡ m = omega arith in
          rw (lt-ltb h B l)
          (either-le c m
          (λ x.
          sum_to_yes m s rest (done_at m h l ∙ le-leb c (suc m) (omega arith))
          ∙ ap (λ z. f s +ℤ z) (grown u c (omega arith) (omega arith) (begins_next h l (omega arith)) (omega arith) m x q)
          ∙ sym (+ℤ_assoc (f s) (sum_to (m - 1) rest) (cond (cut_at (expiry k i) i.cease.0 B (suc m)) (v m) (pos 0)))
          ∙ ap (λ z. z +ℤ cond (cut_at (expiry k i) i.cease.0 B (suc m)) (v m) (pos 0))
          (sym (sum_to_yes (m - 1) s rest (done_at (m - 1) h l ∙ le-leb c (suc (m - 1)) (omega arith)))))
          (λ x.
          let none : sum_to (m - 1) (s ∷ rest) ≡ pos 0 =
          sum_to_no (m - 1) s rest (done_at (m - 1) h l ∙ lt-leb c (suc (m - 1)) (omega arith)) ∙ cuts_before u c (m - 1) (omega arith) in
          let here : cut_at (expiry k i) i.cease.0 B (suc m) ≡ eqb c (suc m) =
          cut_here (expiry k i) i.cease.0 B t.steady (omega arith) h m p x l in
          either-eq c (suc m)
          (λ y.
          sum_to_yes m s rest (done_at m h l ∙ le-leb c (suc m) (omega arith))
          ∙ ap₂ ◌+ℤ◌ (ends h m a l b p y) (cuts_before u c m x)
          ∙ +ℤ_idr (v m)
          ∙ sym (ap₂ ◌+ℤ◌ none (ap (λ z. cond z (v m) (pos 0)) (here ∙ eq-eqb c (suc m) y)) ∙ +ℤ_idl (v m)))
          (λ y.
          sum_to_no m s rest (done_at m h l ∙ lt-leb c (suc m) (omega arith))
          ∙ cuts_before u c m x
          ∙ sym (ap₂ ◌+ℤ◌ none (ap (λ z. cond z (v m) (pos 0)) (here ∙ ne_eqb c (suc m) y)) ∙ +ℤ_idl (pos 0)))))

      -- so it is of the whole instruction
      pub of_grows : 1 ≤ ramp_start k i → (m : ℕ) → ramp_start k i ≤ m → m < B
          → sum_to m (segments_of k n i)
          ≡ sum_to (m - 1) (segments_of k n i) +ℤ cond (cut_at (expiry k i) i.cease.0 B (suc m)) (v m) (pos 0)
      of_grows o m a b =
          rw (segments_cuts k n i t)
          (grown (B - ramp_start k i) (ramp_start k i) (omega arith) (omega arith) (inl refl) o m a b)

    pub of_before : (m : ℕ) → m < ramp_start k i → sum_to m (segments_of k n i) ≡ pos 0
    of_before m l = rw (segments_cuts k n i t) (cuts_before (B - ramp_start k i) (ramp_start k i) m l)

    pub of_after : (m : ℕ) → B ≤ suc m → sum_to m (segments_of k n i) ≡ sum f (segments_of k n i)
    of_after m l = rw (segments_cuts k n i t) (cuts_after (B - ramp_start k i) (ramp_start k i) m l)

  -- ---- those of several instructions

  -- none is complete before the first of them may be issued
  pub none_before : (k : Contract) (span : ℕ) → up_minutes k ≤ k.response.0 → (is : List Instruction) (n e m : ℕ) → T (instructions_sound k span e is)
      → m < e → sum_to m (segments_from k n is) ≡ pos 0
  unfolding segments_from sum_to filter sum
  none_before k span u [] n e m t l = refl
  none_before k span u (i ∷ is) n e m t l =
      let (x, rest) = instructions_cons k span e i is t in
      let timed : Timed k i = record { starts = omega arith; steady = x.ceased } in
      let later : m < end_of k i + k.recovery.0 = omega arith in
      sum_to_append m (segments_of k n i) (segments_from k (suc n) is)
      ∙ ap₂ ◌+ℤ◌ (of_before k n i timed m (omega arith)) (none_before k span u is (suc n) (end_of k i + k.recovery.0) m rest later)
      ∙ +ℤ_idl (pos 0)

  -- and all are after the month's last minute
  pub all_after : (k : Contract) (span : ℕ) → up_minutes k ≤ k.response.0 → (is : List Instruction) (n e m : ℕ) → T (instructions_sound k span e is)
      → span ≤ suc m → sum_to m (segments_from k n is) ≡ sum f (segments_from k n is)
  unfolding segments_from sum_to filter sum
  all_after k span u [] n e m t l = refl
  all_after k span u (i ∷ is) n e m t l =
      let (x, rest) = instructions_cons k span e i is t in
      let timed : Timed k i = record { starts = omega arith; steady = x.ceased } in
      sum_to_append m (segments_of k n i) (segments_from k (suc n) is)
      ∙ ap₂ ◌+ℤ◌ (of_after k n i timed m (omega (arith, x.inside))) (all_after k span u is (suc n) (end_of k i + k.recovery.0) m rest l)
      ∙ sym (sum-append f (segments_of k n i) (segments_from k (suc n) is))
