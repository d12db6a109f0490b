-- One active minute: its step, from what the rules give for the minutes before it, is taken and gives what they give with it.
use mathlib.Core.Path.{◌≡◌, refl, sym, ap, ◌∙◌, subst}
use mathlib.Core.Logic.{inl, inr}
use mathlib.Core.Bool.{Bool, true, false, cond, not, ◌&&◌, ◌||◌, and-true, and-false, true≢false}
use mathlib.Core.List.{List, [], ◌∷◌, ◌++◌, map}
use Prim.Native.Nat.{ℕ, zero, suc, ◌+◌, ◌-◌, ◌*◌, ◌%◌, ◌≤◌, ◌<◌}
use native.Mathlib.Nat.{le_refl}
use native.Mathlib.Numerals.{add-one}
use native.Mathlib.Omega.{arith}
use lib.Dec.{T, eqb, leb, ltb}
use lib.IntN.{ℤ, pos, ◌+ℤ◌}
use lib.ListN.{length}
use borrow.Author.Tests.{eq-eqb, ne_eqb, eqb-false, le-leb, lt-ltb}
use Rattle.energy.specs.Energy.{capped, cell, delivers, kwh, payment, steady_quarters, ramp_quarters}
use Rattle.energy.specs.Lists.{all, between, filter, run, sum}
use Rattle.energy.specs.Number.{Within, down}
use Rattle.energy.proofs.Integers.{abs-parts, add_parts}
use Rattle.energy.proofs.Rounding.{capped-within, payment-within}
use Rattle.energy.proofs.Sums.{between-snoc, delivers-within, sum-within}
use Rattle.energy.proofs.Tests.{either, off_or}
use Rattle.commands.specs.Input.{is_reading, kw_of, most_minute}
use Rattle.commands.proofs.Terms.{reading_within}
use Rattle.commands.specs.declared.contract.Contract.{Contract}
use Rattle.commands.specs.declared.entries.Instruction.{Instruction}
use Rattle.rules.specs.Cuts.{stage_at}
use Rattle.rules.specs.Ledger.{Ledger, contract_of, expiry, ramp_start, end_of}
use Rattle.rules.specs.Segment.{Segment, alike, anchor, base_minutes, in_live, price, rate_at, segments, stage_of}
use Rattle.rules.specs.Statement.{base_load, delivered_of, expected_of, expects, line_of, reads}
use Rattle.rules.specs.declared.statement.Line.{Line}
use Rattle.rules.specs.declared.statement.Rate.TheVariants.{Utilisation, Optional}
use Rattle.rules.proofs.Cuts.{Rises, Timed, alike_rank, cut, rank_of, rises, segment_at}
use Rattle.rules.proofs.Folds.{sum-snoc}
use Rattle.rules.proofs.OneRate.{Whole, same_rate}
use Rattle.rules.proofs.Stages.{expects_stage, rate_stage}
use Rattle.watch_step.specs.Month.{month_numbers, month_periods, kw_at, kind_at, utilisation_at, optional_at, count_at, start_at, expiry_at, cease_at, end_at, live_at}
use Rattle.watch_step.specs.Step.{advanced, answer_to, are_base, cut_before, expects_at, is_next, month_fits, over, price_at, step_of}
use Rattle.watch_step.specs.declared.totals.Totals.{Totals}
use Rattle.watch_step.specs.declared.step.NotStepped.{NotStepped}
use Rattle.std.specs.Prelude.{Result, Ok, None}
use Rattle.watch.specs.Running.{ActiveMinute, lines_to, minutes_to, running_at, so_far}
use Rattle.watch.specs.Watched.{base_for, step_at}
use Rattle.watch.proofs.Cut.{cut_at, cut_flat, cut_rise}
use Rattle.watch.proofs.SoFar.{minute_at, minutes_fresh, minutes_on}
use Rattle.watch.proofs.Done.{Begins, done_by, sum_to}
use Rattle.watch_step.proofs.Fits.{TotalsFit, month_test, totals_test}
use Rattle.watch.proofs.Fits.{carried, counted}

-- the figures of a month are a ledger's
pub record Figures (g : Ledger) (month : List ℕ) : Type 0 where
  pub size : month_numbers ≤ length month
  pub kw : kw_at month ≡ kw_of (contract_of g)
  pub kind : kind_at month ≡ (contract_of g).kind
  pub utilisation : utilisation_at month ≡ (contract_of g).utilisation
  pub optional : optional_at month ≡ (contract_of g).optional
  pub count : count_at month ≡ length g.instructions
  pub live : (m : ℕ) → m < 30 * month_periods → live_at month m ≡ in_live g m
  pub small : (kw_of (contract_of g) ≤ 500000) × ((contract_of g).utilisation ≤ 1000000) × ((contract_of g).optional ≤ 1000000)
  pub few : length g.instructions ≤ 64
  pub whole : Whole g.windows

pub figures_fit : {g : Ledger} {month : List ℕ} → Figures g month → month_fits month ≡ true
figures_fit {month = month} F =
    month_test month
    (record {
      long = F.size;
      kw = omega (arith, F.kw, F.small);
      utilisation = omega (arith, F.utilisation, F.small);
      optional = omega (arith, F.optional, F.small);
      instructions = omega (arith, F.count, F.few);
    })

-- the times of instruction n are those of i
pub record Row (k : Contract) (month : List ℕ) (n : ℕ) (i : Instruction) : Type 0 where
  pub start : start_at month n ≡ ramp_start k i
  pub expiry : expiry_at month n ≡ expiry k i
  pub cease : cease_at month n ≡ i.cease.0
  pub end : end_at month n ≡ end_of k i

-- an instruction as the book ensures it, with a reading in each of its needed minutes
pub record Read (g : Ledger) (i : Instruction) : Type 0 where
  pub timed : Timed (contract_of g) i
  pub issued : 3 ≤ i.issue.0
  pub ramps : i.issue.0 ≤ ramp_start (contract_of g) i
  pub inside : end_of (contract_of g) i ≤ most_minute
  pub base : (m : ℕ) → i.issue.0 - 3 ≤ m → m < i.issue.0 + 1 → is_reading (reads g m) ≡ true
  pub read : (m : ℕ) → ramp_start (contract_of g) i ≤ m → m < end_of (contract_of g) i → is_reading (reads g m) ≡ true

-- what of a line is summed up
abbrev pub capped_of : Ledger → Segment → ℤ
capped_of g s = (line_of g s).capped.0

abbrev pub pence_of : Ledger → Segment → ℤ
pence_of g s = (line_of g s).pence.0

pub sum_mapped : {A B : Type 0} (f : B → ℤ) (h : A → B) (xs : List A) → sum f (map h xs) ≡ sum (λ x. f (h x)) xs
unfolding sum
sum_mapped f h [] = refl
sum_mapped f h (x ∷ xs) = ap (λ z. f (h x) +ℤ z) (sum_mapped f h xs)

pub lines-sum : (g : Ledger) (f : Line → ℤ) (m : ℕ) → sum f (lines_to g m) ≡ sum_to (λ s. f (line_of g s)) m (segments g)
unfolding lines_to sum_to
lines-sum g f m = sum_mapped f (line_of g) (filter (done_by m) (segments g))

-- four numbers in a row
four : (p q : ℕ) → q ≡ p + 4 → between p q ≡ p ∷ suc p ∷ suc (suc p) ∷ suc (suc (suc p)) ∷ []
unfolding between run
four p q e = let d : q - p ≡ 4 = omega arith in rw d refl

and_swap : (a b : Bool) → (a && b) ≡ (b && a)
and_swap true b = sym (and-true b)
and_swap false b = sym (and-false b)

module _ {g : Ledger} {month : List ℕ} (F : Figures g month) {n : ℕ} {i : Instruction} (w : Row (contract_of g) month n i) (d : Read g i) where
  abbrev k : Contract
  k = contract_of g

  abbrev A : ℕ
  A = ramp_start k i

  abbrev B : ℕ
  B = end_of k i

  abbrev e : ℕ
  e = expiry k i

  abbrev c : ℕ
  c = i.cease.0

  abbrev R : Rises (rank_of k i) (cut k i) B
  R = rises e c B d.timed.steady (omega arith)

  abbrev at : ℕ → ActiveMinute
  at = minute_at k n i

  -- ---- what the month's numbers say of a minute

  cut_is : (m : ℕ) → cut_before month n m ≡ cut_at e c B m
  unfolding cut_before
  cut_is m = rw (w.expiry, w.cease, w.end) refl

  expects_is : (m : ℕ) → expects_at month n m ≡ expects k (stage_of k i m)
  unfolding expects_at stage_of
  expects_is m = rw (w.expiry, w.cease, F.kw) (expects_stage k e c m)

  priced : (b : Bool) → cond b k.utilisation k.optional ≡ price k (cond b Utilisation Optional)
  priced true = refl
  priced false = refl

  price_is : (m : ℕ) → m < B → price_at month n m ≡ price k (rate_at g i m)
  unfolding price_at rate_at stage_of
  price_is m l =
      rw (
        w.expiry,
        w.cease,
        F.utilisation,
        F.optional,
        F.live m (omega (arith, d.inside)),
        F.live e (omega (arith, d.inside, d.timed.steady)),
        F.live (c - 1) (omega (arith, d.inside)),
        and_swap (ltb m e) (in_live g e),
        and_swap (leb c m) (in_live g (c - 1)),
      )
      (ap (λ b. cond b k.utilisation k.optional)
      (rate_stage (in_live g m) (in_live g e) (in_live g (c - 1)) e c m d.timed.steady (λ s. in_live g (anchor k i s m)) refl refl refl)
      ∙ priced (in_live g m || in_live g (anchor k i (stage_at e c m) m)))

  price_most : (m : ℕ) → m < B → price_at month n m ≤ 1000000
  unfolding price_at
  price_most m l =
      elim ((live_at month m || (ltb m (expiry_at month n) && live_at month (expiry_at month n)))
      || (leb (cease_at month n) m && live_at month (cease_at month n - 1))) as (λ b. cond b (utilisation_at month) (optional_at month) ≤ 1000000) [
        | true ↦ omega (arith, F.utilisation, F.small)
        | false ↦ omega (arith, F.optional, F.small)
      ]

  -- ---- both sums of the segment so far

  abbrev X : List ℕ → ℤ
  X ms = sum (λ m. expects k (stage_of k i m)) ms

  abbrev D : List ℕ → ℤ
  D ms = sum (λ m. delivers k.kind (base_load g i) (reads g m)) ms

  expected_is : (m : ℕ) → expected_of g (so_far k (at m)) ≡ X (minutes_to k (at m))
  unfolding expected_of so_far
  expected_is m = refl

  delivered_is : (m : ℕ) → delivered_of g (so_far k (at m)) ≡ D (minutes_to k (at m))
  unfolding delivered_of so_far
  delivered_is m = refl

  -- ---- a line, from its last minute

  -- the segment that begins at h, as far as m
  minutes_run : (h : ℕ) → A ≤ h → h < B → Begins (capped_of g) k n i d.timed h → (u : ℕ) → h + u < cut k i h
      → minutes_to k (at (h + u)) ≡ between h (suc (h + u))
  unfolding between run
  minutes_run h a l b zero q =
      let z : h + 0 ≡ h = omega arith in
      let s : suc h - h ≡ 1 = omega arith in
      rw (z, s) (minutes_fresh k n i h a l b)
  minutes_run h a l b (suc u) q =
      let z : h + suc u ≡ suc (h + u) = omega arith in
      let inside : cut k i h ≤ B = R.inside h l in
      let same : rank_of k i (h + u) ≡ rank_of k i (suc (h + u)) =
      R.flat h (h + u) (omega arith) (omega arith) ∙ sym (R.flat h (suc (h + u)) (omega arith) (omega arith)) in
      rw z
      (minutes_on k n i (h + u) (omega arith) (omega arith) same
      ∙ ap (λ l. l ++ suc (h + u) ∷ []) (minutes_run h a l b u (omega arith))
      ∙ sym (ap (between h) (sym (add-one (suc (h + u)))) ∙ between-snoc h (suc (h + u)) (omega arith)))

  abbrev pub line_capped : ℕ → ℤ
  line_capped m = capped (kwh (expected_of g (so_far k (at m)))) (kwh (delivered_of g (so_far k (at m))))

  abbrev pub line_pence : ℕ → ℤ
  line_pence m = payment (line_capped m) (price k (rate_at g i m))

  pub line_ends : (h m : ℕ) → A ≤ h → h < B → Begins (capped_of g) k n i d.timed h → h ≤ m → cut k i h ≡ suc m
      → (capped_of g (segment_at k n i h) ≡ line_capped m) × (pence_of g (segment_at k n i h) ≡ line_pence m)
  unfolding line_of expected_of delivered_of so_far
  line_ends h m a l b p q =
      let z : h + (m - h) ≡ m = omega arith in
      let all : minutes_to k (at m) ≡ between h (cut k i h) =
      ap (λ x. minutes_to k (at x)) (sym z) ∙ minutes_run h a l b (m - h) (omega (arith, z)) ∙ ap (λ x. between h (suc x)) z ∙ ap (between h) (sym q) in
      let like : T (alike k i h m) =
      rw (alike_rank k i h m, eq-eqb (rank_of k i h) (rank_of k i m) (sym (R.flat h m p (omega (arith, q))))) tt in
      let rate : rate_at g i m ≡ rate_at g i h = same_rate g i h m F.whole like in
      (rw all refl, rw (all, rate) refl)

  -- ---- the totals

  -- the sum of the lines complete grows by the line that ends with m, if one does
  abbrev pub Grows : (Segment → ℤ) → (ℕ → ℤ) → ℕ → Type 0
  Grows f v m = sum_to f m (segments g) ≡ sum_to f (m - 1) (segments g) +ℤ cond (cut_at e c B (suc m)) (v m) (pos 0)

  -- the sums so far are those of the minutes l before m, which are none where a segment begins at m
  record Carries (new : Bool) (s : Totals) (m : ℕ) : Type 0 where
    before : List ℕ
    minutes : minutes_to k (at m) ≡ before ++ m ∷ []
    expected : cond (new || cut_at e c B m) (pos 0) s.expected ≡ X before
    delivered : cond (new || cut_at e c B m) (pos 0) s.delivered ≡ D before

  advance_is : (new : Bool) (s : Totals) (m : ℕ) → m < B → Carries new s m
      → s.capped.0 ≡ sum_to (capped_of g) (m - 1) (segments g) → s.pence.0 ≡ sum_to (pence_of g) (m - 1) (segments g)
      → Grows (capped_of g) line_capped m → Grows (pence_of g) line_pence m
      → advanced month new s n m (reads g m) (base_load g i) ≡ running_at g (at m)
  unfolding advanced running_at
  advance_is new s m l r ec ep gc gp =
      let x : cond (new || cut_at e c B m) (pos 0) s.expected +ℤ expects k (stage_of k i m) ≡ expected_of g (so_far k (at m)) =
      ap (λ z. z +ℤ expects k (stage_of k i m)) r.expected
      ∙ sym (expected_is m ∙ ap X r.minutes ∙ sum-snoc (λ m. expects k (stage_of k i m)) r.before m) in
      let y : cond (new || cut_at e c B m) (pos 0) s.delivered +ℤ delivers k.kind (base_load g i) (reads g m) ≡ delivered_of g (so_far k (at m)) =
      ap (λ z. z +ℤ delivers k.kind (base_load g i) (reads g m)) r.delivered
      ∙ sym (delivered_is m ∙ ap D r.minutes ∙ sum-snoc (λ m. delivers k.kind (base_load g i) (reads g m)) r.before m) in
      rw (
        cut_is m,
        cut_is (m + 1),
        expects_is m,
        F.kind,
        x,
        y,
        price_is m l,
        add-one m,
        ec,
        ep,
        lines-sum g (λ (l : Line). l.capped.0) m,
        lines-sum g (λ (l : Line). l.pence.0) m,
        gc,
        gp,
      )
      refl

  -- ---- that they fit

  base_within : Within 2000000 (base_load g i)
  unfolding base_load base_minutes
  base_within =
      omega (
        arith,
        d.issued,
        sum-within (reads g) 500000 (i.issue.0 - 3) (i.issue.0 + 1) (λ m a b. reading_within (reads g m) (d.base m a b)),
      )

  expects-within : (m : ℕ) → Within 2000000 (expects_at month n m) × (down (expects_at month n m) ≡ 0)
  unfolding expects_at
  expects-within m =
      elim (leb (expiry_at month n) m && ltb m (cease_at month n))
      as (λ b.
      let q : ℤ = pos (cond b (steady_quarters (kw_at month)) (ramp_quarters (kw_at month))) in
      Within 2000000 q × (down q ≡ 0))
      [ true ↦ omega (arith, F.kw, F.small) | false ↦ omega (arith, F.kw, F.small) ]

  none-down : (b : Bool) (x q : ℤ) → down x ≡ 0 → down q ≡ 0 → down (cond b (pos 0) x +ℤ q) ≡ 0
  none-down true x q h l = omega (arith, add_parts (pos 0) q)
  none-down false x q h l = omega (arith, add_parts x q)

  advance_fits : (new : Bool) (s : Totals) (m : ℕ) → A ≤ m → m < B → TotalsFit s → s.minute.0 < m → (new ≡ false → m ≡ suc s.minute.0)
      → TotalsFit (advanced month new s n m (reads g m) (base_load g i))
  unfolding advanced
  advance_fits new s m a l f h o =
      let fresh : Bool = new || cut_before month n m in
      let on : fresh ≡ false → (m ≡ suc s.minute.0) × (0 < m % 30) =
      λ z.
      let q = off_or new (cut_before month n m) z in
      let z1 = (off_or (eqb (m % 30) 0 || eqb m e || eqb m c) (eqb m B) (sym (cut_is m) ∙ q.1)).0 in
      let z2 = (off_or (eqb (m % 30) 0 || eqb m e) (eqb m c) z1).0 in
      let z3 = eqb-false (m % 30) 0 (off_or (eqb (m % 30) 0) (eqb m e) z2).0 in
      (o q.0, omega arith) in
      let q = delivers-within (kind_at month) (base_load g i) (reads g m) base_within (reading_within (reads g m) (d.read m a l)) in
      let x : ℤ = cond fresh (pos 0) s.expected +ℤ expects_at month n m in
      let y : ℤ = cond fresh (pos 0) s.delivered +ℤ delivers (kind_at month) (base_load g i) (reads g m) in
      let before : Within (2000000 * (s.minute.0 % 30 + 1)) s.expected = omega (arith, f.expected, abs-parts s.expected) in
      let hx : Within (2000000 * (m % 30 + 1)) x =
      carried 2000000 s.minute.0 m fresh s.expected (expects_at month n m) on before (expects-within m).0 in
      let hy : Within (4000000 * (m % 30 + 1)) y =
      carried 4000000 s.minute.0 m fresh s.delivered (delivers (kind_at month) (base_load g i) (reads g m)) on f.delivered q in
      let hc : Within 500000 (capped (kwh x) (kwh y)) = capped-within x y (omega arith) (omega arith) in
      let ends : Bool = cut_before month n (m + 1) in
      record {
        base = base_within;
        expected =
            let z : down x ≡ 0 = none-down fresh s.expected (expects_at month n m) f.expected.1 (expects-within m).1 in
            omega (arith, hx, abs-parts x);
        delivered = hy;
        capped = counted 500000 s.minute.0 m ends s.capped.0 (capped (kwh x) (kwh y)) h f.capped hc;
        pence =
            counted 500000000 s.minute.0 m ends s.pence.0 (payment (capped (kwh x) (kwh y)) (price_at month n m)) h f.pence
            (payment-within (capped (kwh x) (kwh y)) (price_at month n m) hc (price_most m l));
      }

  -- ---- the step

  -- what a step gives that is taken
  abbrev taken : ℕ → Result Totals NotStepped
  taken m = Ok (running_at g (at m))

  -- the four base readings, as they are handed in
  abbrev p : ℕ
  p = i.issue.0 - 3

  abbrev given : List ℤ
  given = reads g p ∷ reads g (suc p) ∷ reads g (suc (suc p)) ∷ reads g (suc (suc (suc p))) ∷ []

  base_minutes_lem : base_minutes i ≡ p ∷ suc p ∷ suc (suc p) ∷ suc (suc (suc p)) ∷ []
  unfolding base_minutes
  base_minutes_lem = four p (i.issue.0 + 1) (omega (arith, d.issued))

  base_given : map (reads g) (base_minutes i) ≡ given
  base_given = ap (map (reads g)) base_minutes_lem

  given_sum : sum (cell given) (between 0 4) ≡ base_load g i
  unfolding base_load sum between run
  given_sum = sym (ap (sum (reads g)) base_minutes_lem)

  given_base : are_base given ≡ true
  unfolding are_base all between run
  given_base =
      rw (
        d.base p (le_refl p) (omega arith),
        d.base (suc p) (omega arith) (omega (arith, d.issued)),
        d.base (suc (suc p)) (omega arith) (omega (arith, d.issued)),
        d.base (suc (suc (suc p))) (omega arith) (omega (arith, d.issued)),
      )
      refl

  module _ (least : 1 ≤ n) (most : n ≤ length g.instructions) where
    there : (leb 1 n && leb n (count_at month)) ≡ true
    there = rw (F.count, le-leb 1 n least, le-leb n (length g.instructions) most) refl

    -- an answer is taken where what is asked holds
    answered : (s : Totals) (m : ℕ) (base : List ℤ) → TotalsFit s → is_next month s n m ≡ true → A ≤ m → m < B
        → (not (not (eqb n s.instruction)) || are_base base) ≡ true
        → answer_to month s n (record { minute = record { 0 = m }; kw = record { 0 = reads g m } }) base ≡ None
    unfolding answer_to
    answered s m base f q a l b = rw (figures_fit F, totals_test s f, there, q, d.read m a l, b) refl

    -- a later minute of the instruction
    pub steps_on : (p : ℕ) → A ≤ p → suc p < B → TotalsFit (running_at g (at p)) → Grows (capped_of g) line_capped (suc p) → Grows (pence_of g) line_pence (suc p)
        → (step_at month g (running_at g (at p)) (at (suc p)) ≡ taken (suc p)) × TotalsFit (running_at g (at (suc p)))
    unfolding running_at is_next step_at step_of base_for
    steps_on p a l f gc gp =
        let s : Totals = running_at g (at p) in
        let m : ℕ = suc p in
        let back : p ≡ suc p - 1 = omega arith in
        let same : eqb n n ≡ true = eq-eqb n n refl in
        let after : eqb (suc p) (p + 1) ≡ true = eq-eqb (suc p) (p + 1) (omega arith) in
        let next : is_next month s n m ≡ true = rw (w.end, lt-ltb (suc p) B l, same, after) refl in
        let no : eqb (suc p) A ≡ false = ne_eqb (suc p) A (λ z. omega arith) in
        let carries : Carries false s m =
        either (cut_at e c B (suc p))
        (λ t. record {
          before = [];
          minutes =
              minutes_fresh k n i (suc p) (omega arith) l
              (inr (subst (λ x. rank_of k i x < rank_of k i (suc p)) back (cut_rise e c B p d.timed.steady t l)));
          expected = rw t (unfold sum in refl);
          delivered = rw t (unfold sum in refl);
        })
        (λ t. record {
          before = minutes_to k (at p);
          minutes = minutes_on k n i p a l (cut_flat e c B p t);
          expected = rw t (expected_is p);
          delivered = rw t (delivered_is p);
        }) in
        let ec = lines-sum g (λ (l : Line). l.capped.0) p ∙ ap (λ x. sum_to (capped_of g) x (segments g)) back in
        let ep = lines-sum g (λ (l : Line). l.pence.0) p ∙ ap (λ x. sum_to (pence_of g) x (segments g)) back in
        let is : advanced month false s n m (reads g m) (base_load g i) ≡ running_at g (at m) = advance_is false s m l carries ec ep gc gp in
        let fits = advance_fits false s m (omega arith) l f (omega arith) (λ z. refl) in
        (rw (no, answered s m [] f next (omega arith) l (rw same refl), same) (ap (λ t. Ok t) is), subst TotalsFit is fits)

    -- its first minute, from totals whose instruction is over
    pub steps_first : (s : Totals) → TotalsFit s → s.instruction + 1 ≡ n → over month s ≡ true → s.minute.0 < A → A < B
        → s.capped.0 ≡ sum_to (capped_of g) (A - 1) (segments g) → s.pence.0 ≡ sum_to (pence_of g) (A - 1) (segments g)
        → Grows (capped_of g) line_capped A → Grows (pence_of g) line_pence A
        → (step_at month g s (at A) ≡ taken A) × TotalsFit (running_at g (at A))
    unfolding is_next step_at step_of base_for
    steps_first s f one done h l ec ep gc gp =
        let other : eqb n s.instruction ≡ false = ne_eqb n s.instruction (λ z. omega arith) in
        let yes : eqb A A ≡ true = eq-eqb A A refl in
        let next : is_next month s n A ≡ true =
        rw (w.end, lt-ltb A B l, other, eq-eqb n (s.instruction + 1) (sym one), w.start, yes, done) refl in
        let carries : Carries true s A =
        record {
          before = [];
          minutes = minutes_fresh k n i A (le_refl A) l (inl refl);
          expected = unfold sum in refl;
          delivered = unfold sum in refl;
        } in
        let is : advanced month true s n A (reads g A) (base_load g i) ≡ running_at g (at A) = advance_is true s A l carries ec ep gc gp in
        let fits = advance_fits true s A (le_refl A) l f h (λ z. absurd (true≢false z)) in (
          rw (yes, base_given, answered s A given f next (le_refl A) l (rw other given_base), other, given_sum)
              (ap (λ t. Ok t) is),
          subst TotalsFit is fits,
        )
