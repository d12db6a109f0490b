-- The steps of a month, one after the other: by induction over the instructions, and over the minutes of each.
use mathlib.Core.Path.{◌≡◌, refl, sym, ap, ◌∙◌}
use mathlib.Core.Bool.{Bool, true, or-true, true≢false}
use mathlib.Core.List.{List, [], ◌∷◌, ◌++◌, map}
use mathlib.Core.Option.{Option, none, some, none-ne-some, some-injective}
use Prim.Native.Nat.{ℕ, zero, suc, ◌+◌, ◌-◌, ◌≤◌, ◌<◌}
use native.Mathlib.Nat.{le_refl}
use native.Mathlib.Omega.{arith}
use lib.Dec.{T, eqb}
use lib.IntN.{ℤ, ◌+ℤ◌, +ℤ_idr}
use lib.ListN.{length, take, get_elem?}
use borrow.Author.Tests.{eq-eqb}
use Rattle.energy.specs.Lists.{all, between, concat_map, filter, is_some, last, run, sum}
use Rattle.energy.proofs.Sums.{all_in, between_cons}
use Rattle.energy.proofs.Tests.{all_append, on_and, of_T}
use Rattle.commands.specs.Input.{is_reading, most_minute, up_minutes}
use Rattle.commands.specs.declared.contract.Contract.{Contract}
use Rattle.commands.specs.declared.entries.Instruction.{Instruction}
use Rattle.rules.specs.Ledger.{Ledger, Metered, contract_of, kw_in, span_in, ramp_start, end_of}
use Rattle.rules.specs.Reached.{Agreed, instructions_sound}
use Rattle.rules.specs.Segment.{Segment, active, base_minutes, segments, segments_from}
use Rattle.rules.specs.Statement.{reads}
use Rattle.rules.specs.declared.statement.Line.{Line}
use Rattle.rules.proofs.Cuts.{Timed}
use Rattle.rules.proofs.Reached.{parts_of, terms_of_lem}
use Rattle.rules.proofs.Span.{span_cells, cells_most}
use Rattle.rules.proofs.Tables.{InstructionFits, instructions_cons}
use Rattle.watch_step.specs.Step.{over, step_number, totals_after}
use Rattle.watch_step.specs.declared.totals.Totals.{Totals}
use Rattle.std.specs.Prelude.{Ok}
use Rattle.watch.specs.Running.{ActiveMinute, active_from, running_at}
use Rattle.watch.specs.Watched.{step_all, step_at}
use Rattle.watch.proofs.SoFar.{minute_at}
use Rattle.watch.proofs.Done.{all_after, sum_to}
use Rattle.watch_step.proofs.Fits.{TotalsFit}
use Rattle.watch.proofs.Level.{at_first, grows, later}
use Rattle.watch.proofs.Minute.{Figures, Grows, Read, Row, capped_of, pence_of, line_ends, line_capped, line_pence, lines-sum, steps_first, steps_on}

between_none : (a b : ℕ) → b ≤ a → between a b ≡ []
unfolding between run
between_none a b h = let z : b - a ≡ 0 = omega arith in rw z refl

-- ---- steps that are taken, and give what the rules give

-- P is what the totals after the last step come to
module _ (month : List ℕ) (g : Ledger) (P : Totals → Type 0) where
  abbrev pub Chain : Totals → List ActiveMinute → Type 0
  Chain s [] = P s
  Chain s (a ∷ rest) = (step_at month g s a ≡ Ok (running_at g a)) × Chain (running_at g a) rest

  pub chain_totals : (xs : List ActiveMinute) (s : Totals) → Chain s xs → (n : ℕ) → step_all month g s (take n xs) ≡ last s (map (running_at g) (take n xs))
  unfolding step_all last
  chain_totals [] s c zero = refl
  chain_totals [] s c (suc n) = refl
  chain_totals (a ∷ xs) s c zero = refl
  chain_totals (a ∷ xs) s (e, c) (suc n) = ap (λ t. step_all month g (totals_after s t) (take n xs)) e ∙ chain_totals xs (running_at g a) c n

  pub chain_taken : (xs : List ActiveMinute) (s : Totals) → Chain s xs → (n : ℕ) (a : ActiveMinute) → get_elem? xs n ≡ some a
      → step_number (step_at month g (last s (map (running_at g) (take n xs))) a) ≡ 0
  unfolding last
  chain_taken [] s c n a q = absurd (none-ne-some a q)
  chain_taken (x ∷ xs) s (e, c) zero a q =
      let same : x ≡ a = some-injective x a q in
      ap (λ z. step_number (step_at month g s z)) (sym same) ∙ ap step_number e
  chain_taken (x ∷ xs) s (e, c) (suc n) a q = chain_taken xs (running_at g x) c n a q

  pub chain_ends : (xs : List ActiveMinute) (s : Totals) → Chain s xs → P (last s (map (running_at g) xs))
  unfolding last
  chain_ends [] s c = c
  chain_ends (a ∷ xs) s (e, c) = chain_ends xs (running_at g a) c

-- totals whose capped kWh and pence are those of all lines
abbrev pub Summed : Ledger → Totals → Type 0
Summed g s = (s.capped.0 ≡ sum (capped_of g) (segments g)) × (s.pence.0 ≡ sum (pence_of g) (segments g))

-- ---- the months of a ledger

-- no minute of theirs is above the greatest
pub span_most : {size : ℕ} {g : Ledger} → Agreed size g → span_in g ≤ most_minute
span_most {g = g} a = omega (arith, span_cells g, cells_most g (terms_of_lem a))

-- the columns of a month hold the times of instructions whose numbers start at n
unfoldable pub Rows : Contract → List ℕ → ℕ → List Instruction → Type 0
Rows k month n [] = Unit {0}
Rows k month n (i ∷ is) = Row k month n i × Rows k month (suc n) is

module _ {size : ℕ} {g : Ledger} {month : List ℕ} (a : Agreed size g) (F : Figures g month) where
  abbrev k : Contract
  k = contract_of g

  abbrev span : ℕ
  span = span_in g

  abbrev up : (1 ≤ up_minutes k) × (up_minutes k ≤ k.response.0)
  up = (terms_of_lem a).up

  abbrev some? : ℕ → Bool
  some? m = is_some (g.reading m)

  abbrev needs : Instruction → List ℕ
  needs i = base_minutes i ++ active k i

  -- a reading that is there is in its range
  read_at : (m : ℕ) → some? m ≡ true → is_reading (reads g m) ≡ true
  unfolding reads is_some
  read_at m q = go (g.reading m) refl q
    where
      go : (o : Option Metered) → g.reading m ≡ o → is_some o ≡ true → is_reading (kw_in (g.reading m)) ≡ true
      go none e q = absurd (true≢false (sym q))
      go (some x) e q = rw e (of_T (is_reading x.kw) (a.readings m x e).1)

  -- what stands before the first minute of the instructions is, numbered from n and not issued before minute e
  pub record Before (n : ℕ) (is : List Instruction) (e : ℕ) (s : Totals) : Type 0 where
    pub sound : T (instructions_sound k span e is)
    pub rows : Rows k month n is
    pub read : all some? (concat_map needs is) ≡ true
    pub count : n + length is ≡ suc (length g.instructions)
    pub fits : TotalsFit s
    pub number : s.instruction + 1 ≡ n
    pub over : over month s ≡ true
    pub low : (m : ℕ) → e ≤ m → 3 ≤ m → s.minute.0 < m
    pub capped : (m : ℕ) → e ≤ suc m → sum_to (capped_of g) m (segments g) ≡ s.capped.0 +ℤ sum_to (capped_of g) m (segments_from k n is)
    pub pence : (m : ℕ) → e ≤ suc m → sum_to (pence_of g) m (segments g) ≡ s.pence.0 +ℤ sum_to (pence_of g) m (segments_from k n is)

  -- ---- one instruction

  module _ {n e : ℕ} {i : Instruction} {is : List Instruction} {s : Totals} (b : Before n (i ∷ is) e s) where
    abbrev A : ℕ
    A = ramp_start k i

    abbrev B : ℕ
    B = end_of k i

    abbrev at : ℕ → ActiveMinute
    at = minute_at k n i

    abbrev x : InstructionFits k span e i × T (instructions_sound k span (end_of k i + k.recovery.0) is)
    x = instructions_cons k span e i is b.sound

    timed : Timed k i
    timed = record { starts = omega arith; steady = x.0.ceased }

    row : Row k month n i × Rows k month (suc n) is
    unfolding Rows
    row = b.rows

    needed : (all some? (needs i) ≡ true) × (all some? (concat_map needs is) ≡ true)
    unfolding concat_map
    needed = on_and (all some? (needs i)) (all some? (concat_map needs is)) (sym (all_append some? (needs i) (concat_map needs is)) ∙ b.read)

    read : Read g i
    unfolding base_minutes active
    read =
        let (base, own) =
        on_and (all some? (base_minutes i)) (all some? (active k i)) (sym (all_append some? (base_minutes i) (active k i)) ∙ needed.0) in
        record {
          timed = timed;
          issued = x.0.issue.0;
          ramps = omega (arith, up);
          inside = omega (arith, x.0.inside, span_most a);
          base = λ m p q. read_at m (all_in some? (i.issue.0 - 3) (i.issue.0 + 1) base m p q);
          read = λ m p q. read_at m (all_in some? (ramp_start k i) (end_of k i) own m p q);
        }

    -- its times: the ramp up has a minute at least
    ramp : (e ≤ A) × (3 ≤ A) × (A < B)
    ramp = omega (arith, up, x.0.after, x.0.issue, x.0.ceased)

    abbrev LC : ℕ → ℤ
    LC = line_capped F row.0 read

    abbrev LP : ℕ → ℤ
    LP = line_pence F row.0 read

    grow_capped : (m : ℕ) → A ≤ m → m < B → Grows F row.0 read (capped_of g) LC m
    grow_capped m p q =
        grows (capped_of g) k span up.1 n i is timed x.1 (segments g) s.capped.0 e ramp.0 b.capped LC
        (λ h m p q r t z. (line_ends F row.0 read h m p q r t z).0) (omega (arith, ramp)) m p q

    grow_pence : (m : ℕ) → A ≤ m → m < B → Grows F row.0 read (pence_of g) LP m
    grow_pence m p q =
        grows (pence_of g) k span up.1 n i is timed x.1 (segments g) s.pence.0 e ramp.0 b.pence LP
        (λ h m p q r t z. (line_ends F row.0 read h m p q r t z).1) (omega (arith, ramp)) m p q

    least : 1 ≤ n
    least = omega (arith, b.number)

    most : n ≤ length g.instructions
    most = omega (arith, b.count)

    first : (step_at month g s (at A) ≡ Ok (running_at g (at A))) × TotalsFit (running_at g (at A))
    first =
        let (r, o, l) = ramp in
        steps_first F row.0 read least most s b.fits b.number b.over (b.low A r o) l
        (sym (at_first (capped_of g) k span up.1 n i is timed x.1 (segments g) s.capped.0 e r b.capped (omega arith) l))
        (sym (at_first (pence_of g) k span up.1 n i is timed x.1 (segments g) s.pence.0 e r b.pence (omega arith) l))
        (grow_capped A (le_refl A) l) (grow_pence A (le_refl A) l)

    -- what stands after its last minute p
    after : (p : ℕ) → suc p ≡ B → A ≤ p → TotalsFit (running_at g (at p)) → Before (suc n) is (end_of k i + k.recovery.0) (running_at g (at p))
    unfolding running_at
    after p z q f =
        record {
          sound = x.1;
          rows = row.1;
          read = needed.1;
          count = omega (arith, b.count);
          fits = f;
          number = omega arith;
          over = rw (row.0.end, eq-eqb (p + 1) B (omega arith)) (or-true (eqb n 0));
          low = λ m l o. omega arith;
          capped =
              λ m l.
              later (capped_of g) k span up.1 n i is timed x.1 (segments g) s.capped.0 e ramp.0 b.capped p z q m l
              ∙ ap (λ z. z +ℤ sum_to (capped_of g) m (segments_from k (suc n) is)) (sym (lines-sum g (λ (l : Line). l.capped.0) p));
          pence =
              λ m l.
              later (pence_of g) k span up.1 n i is timed x.1 (segments g) s.pence.0 e ramp.0 b.pence p z q m l
              ∙ ap (λ z. z +ℤ sum_to (pence_of g) m (segments_from k (suc n) is)) (sym (lines-sum g (λ (l : Line). l.pence.0) p));
        }

    module _ (others : (t : Totals) → Before (suc n) is (end_of k i + k.recovery.0) t → Chain month g (Summed g) t (active_from k (suc n) is)) where
      -- its later minutes, and the others'
      on : (u p : ℕ) → A ≤ p → suc p + u ≡ B → TotalsFit (running_at g (at p))
          → Chain month g (Summed g) (running_at g (at p)) (map at (between (suc p) B) ++ active_from k (suc n) is)
      on zero p q z f =
          let none : between (suc p) B ≡ [] = between_none (suc p) B (omega arith) in
          rw none (others (running_at g (at p)) (after p (omega arith) q f))
      on (suc u) p q z f =
          let l : suc p < B = omega arith in
          let (step, fits) = steps_on F row.0 read least most p q l f (grow_capped (suc p) (omega arith) l) (grow_pence (suc p) (omega arith) l) in
          rw (between_cons (suc p) B l) (step, on u (suc p) (omega arith) (omega arith) fits)

      pub one_more : Chain month g (Summed g) s (active_from k n (i ∷ is))
      unfolding active_from active
      one_more =
          let l : A < B = ramp.2 in
          rw (between_cons A B l) (first.0, on (B - suc A) A (le_refl A) (omega arith) first.1)

  -- ---- all of them

  ended : (f : Segment → ℤ) (x : ℤ) (n e : ℕ) → ((m : ℕ) → e ≤ suc m → sum_to f m (segments g) ≡ x +ℤ sum_to f m (segments_from k n [])) → x ≡ sum f (segments g)
  unfolding segments segments_from sum_to filter sum
  ended f x n e h =
      sym (h (e + span) (omega arith) ∙ +ℤ_idr x) ∙ all_after f k span up.1 g.instructions 1 0 (e + span) (parts_of a).instructions (omega arith)

  pub goes : (is : List Instruction) (n e : ℕ) (s : Totals) → Before n is e s → Chain month g (Summed g) s (active_from k n is)
  unfolding active_from
  goes [] n e s b = (ended (capped_of g) s.capped.0 n e b.capped, ended (pence_of g) s.pence.0 n e b.pence)
  goes (i ∷ is) n e s b = one_more b (λ t c. goes is (suc n) (end_of k i + k.recovery.0) t c)
