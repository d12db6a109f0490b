-- The number of a statement's lines: at most one for each period but the first, and 3 for each instruction.
use mathlib.Core.Path.{◌≡◌, refl, sym, ap, ap₂, ◌∙◌}
use mathlib.Core.List.{List, [], ◌∷◌}
use Prim.Native.Nat.{ℕ, suc, ◌+◌, ◌-◌, ◌*◌, ◌/◌, ◌%◌, ◌≤◌, ◌<◌}
use native.Mathlib.Nat.{le_refl}
use native.Mathlib.Omega.{arith}
use lib.Dec.{T, eqb, eqb→eq}
use lib.ListN.{length, length-append, length-map}
use Rattle.energy.specs.Lists.{all, first, sum_ℕ}
use Rattle.energy.proofs.Tests.{T_and}
use Rattle.calendar.specs.Calendar.{days_of, is_date, no_date, gained_in, lost_in}
use Rattle.calendar.specs.declared.Date.{Date}
use Rattle.calendar.proofs.Months.{days_least}
use Rattle.commands.specs.Input.{most_minute}
use Rattle.commands.proofs.Chain.{apart}
use Rattle.rules.specs.Ledger.{Ledger, ledger_of, contract_of, date_of, span_of, full_span, span_in, expiry, ramp_start, end_of}
use Rattle.rules.specs.Refusal.{taken}
use Rattle.rules.specs.Segment.{segments_of, segments_from, segments}
use Rattle.rules.specs.Statement.{line_of, lines}
use Rattle.rules.specs.Reached.{date_sound, instructions_sound, Reached}
use Rattle.rules.specs.Reached.Reached.{untouched, agreed}
use Rattle.rules.specs.Lines.{LineBound, LineBound·theorem}
use Rattle.commands.specs.declared.contract.Contract.{Contract}
use Rattle.commands.specs.declared.entries.Instruction.{Instruction}
use Rattle.rules.proofs.Cuts.{Timed}
use Rattle.rules.proofs.Count.{stages_most, count-segments}
use Rattle.rules.specs.Cuts.{touched}
use Rattle.commands.proofs.Terms.{Terms}
use Rattle.rules.proofs.Tables.{InstructionFits, instructions_cons}
use Rattle.rules.proofs.Reached.{parts_of, terms_of_lem, reached}
use Rattle.rules.proofs.Span.{span_cells, cells_most, span_some, span_periods}

-- the periods that each stage of an instruction touches, together
abbrev pub touches : Contract → Instruction → ℕ
touches k i = touched (ramp_start k i) (expiry k i) + touched (expiry k i) i.cease.0 + touched i.cease.0 (end_of k i)

-- ---- the segments of one instruction

module _ (k : Contract) (span : ℕ) (t : Terms k) where
  timed : {e : ℕ} {i : Instruction} → InstructionFits k span e i → Timed k i
  timed f = record { starts = omega arith; steady = f.ceased }

  count_of : (n : ℕ) {e : ℕ} (i : Instruction) → InstructionFits k span e i → length (segments_of k n i) ≡ touches k i
  count_of n i f = count-segments k n i (timed f) (omega arith)

  touches_most : {e : ℕ} (i : Instruction) → InstructionFits k span e i → touches k i + ramp_start k i / 30 ≤ 3 + (end_of k i - 1) / 30
  touches_most i f = stages_most (ramp_start k i) (expiry k i) i.cease.0 (end_of k i) (omega arith) f.ceased (omega arith)

  -- over all instructions after minute e: p is a minute before them, 0 or the last active one
  segments_most : (is : List Instruction) (n e p : ℕ) → T (instructions_sound k span e is) → p ≤ e → p < span
      → length (segments_from k n is) + p / 30 ≤ 3 * length is + (span - 1) / 30
  unfolding segments_from
  segments_most [] n e p s h l = omega arith
  segments_most (i ∷ is) n e p s h l =
      let (f, s') = instructions_cons k span e i is s in
      let here : length (segments_of k n i) + ramp_start k i / 30 ≤ 3 + (end_of k i - 1) / 30 = rw (count_of n i f) (touches_most i f) in
      let rest : length (segments_from k (suc n) is) + (end_of k i - 1) / 30 ≤ 3 * length is + (span - 1) / 30 =
      segments_most is (suc n) (end_of k i + k.recovery.0) (end_of k i - 1) s' (omega arith) (omega arith) in
      omega (arith, length-append (segments_of k n i) (segments_from k (suc n) is))

  -- and how many there are
  segments-count : (is : List Instruction) (n e : ℕ) → T (instructions_sound k span e is) → length (segments_from k n is) ≡ sum_ℕ (touches k) is
  unfolding segments_from sum_ℕ
  segments-count [] n e s = refl
  segments-count (i ∷ is) n e s =
      let (f, s') = instructions_cons k span e i is s in
      length-append (segments_of k n i) (segments_from k (suc n) is)
      ∙ ap₂ ◌+◌ (count_of n i f) (segments-count is (suc n) (end_of k i + k.recovery.0) s')

-- ---- the lines of a ledger

pub lines-segments : (g : Ledger) → length (lines g) ≡ length (segments g)
unfolding lines
lines-segments g = length-map (segments g) (line_of g)

-- none without an instruction
none : (k : Contract) (is : List Instruction) → is ≡ [] → (length (segments_from k 1 is) ≡ 0) × (sum_ℕ (touches k) is ≡ 0)
unfolding segments_from sum_ℕ
none k is e = (ap (λ is. length (segments_from k 1 is)) e, ap (sum_ℕ (touches k)) e)

-- the number of lines of a ledger that commands leave
pub lines-count : {size : ℕ} (g : Ledger) → Reached size g → length (lines g) ≡ sum_ℕ (touches (contract_of g)) g.instructions
unfolding segments
lines-count g (untouched u) = let z = none (contract_of g) g.instructions u.instructions in lines-segments g ∙ z.0 ∙ sym z.1
lines-count g (agreed a) = lines-segments g ∙ segments-count (contract_of g) (span_in g) (terms_of_lem a) g.instructions 1 0 (parts_of a).instructions

-- the last period of whole ones
whole-periods : (span : ℕ) → span % 30 ≡ 0 → 0 < span → (span - 1) / 30 ≤ span / 30 - 1
whole-periods span e h = omega arith

-- a month of 11 days or fewer has no date
undated : (k : Contract) (dates : List Date) → T (all (date_sound k) dates) → k.days ≤ 11 → first no_date dates ≡ no_date
unfolding all first
undated k [] t h = refl
undated k (d ∷ dates) t h =
    let here = (T_and (date_sound k d) (all (date_sound k) dates) t).0 in
    let p = apart (is_date d) (eqb d.day 1 ∷ eqb (days_of d.year d.month) k.days ∷ []) here in
    absurd (omega (arith, eqb→eq (days_of d.year d.month) k.days p.1.1.0, days_least d p.0))

-- and then its span is that of its days
undated_span_lem : (g : Ledger) → date_of g ≡ no_date → span_in g ≡ span_of (contract_of g)
unfolding span_in gained_in lost_in
undated_span_lem g e =
    let now : span_in g ≡ span_of (contract_of g) + 0 - 0 = ap (λ d. full_span (contract_of g) d - lost_in d.month) e in
    omega (arith, now)

-- and its bound
bound : {size : ℕ} (g : Ledger) → Reached size g → LineBound g
unfolding segments
bound g (untouched u) =
    let z : length (lines g) ≡ 0 = lines-segments g ∙ (none (contract_of g) g.instructions u.instructions).0 in
    record { most = omega arith; eleven_days = λ h. omega arith; in_all = omega arith }
bound g (agreed a) =
    let k : Contract = contract_of g in
    let span : ℕ = span_in g in
    let t : Terms k = terms_of_lem a in
    let few : length g.instructions ≤ 64 = a.instructions in
    let some : 0 < span = span_some g t in
    let long : span ≤ most_minute = omega (arith, span_cells g, cells_most g t) in
    let most : length (segments_from k 1 g.instructions) + 0 / 30 ≤ 3 * length g.instructions + (span - 1) / 30 =
    segments_most k span t g.instructions 1 0 0 (parts_of a).instructions (le_refl 0) some in
    let same : length (lines g) ≡ length (segments_from k 1 g.instructions) = lines-segments g in
    let whole : (span - 1) / 30 ≤ span / 30 - 1 = whole-periods span (span_periods g) some in
    record {
      most = omega arith;
      eleven_days = λ h. let short : span ≡ 1440 * k.days = undated_span_lem g (unfold date_of in undated k g.dates a.dated h) in omega arith;
      in_all = omega arith;
    }

pub line_bound : LineBound·theorem
line_bound size cs = bound (ledger_of (taken size cs)) (reached size cs)
