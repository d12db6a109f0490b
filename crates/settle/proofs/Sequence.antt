-- From the first cursor on, the steps give the rules' lines, in order.
use mathlib.Core.Path.{◌≡◌, refl, sym, ◌∙◌, ap, ap₂, subst}
use mathlib.Core.Logic.{◌⊎◌, inl, inr}
use mathlib.Core.Bool.{Bool, true, false}
use mathlib.Core.List.{List, [], ◌∷◌, ◌++◌, map}
use Prim.Native.Nat.{ℕ, zero, suc, ◌+◌, ◌-◌, ◌*◌, ◌≤◌, ◌<◌, zero-le}
use native.Mathlib.Nat.{le_refl}
use native.Mathlib.Numerals.{add-one}
use native.Mathlib.Omega.{arith}
use lib.Dec.{ltb}
use lib.IntN.{ℤ, pos, ◌+ℤ◌}
use lib.ListN.{length, drop, drop_of_length-le, length-drop, length-map, get_or-map}
use lib.Seq.{drop-cons}
use borrow.Author.Tests.{ltb-true, ltb-false, lt-ltb, le-ltb}
use Rattle.energy.specs.Lists.{sum, between}
use Rattle.energy.specs.Number.{Within}
use Rattle.energy.proofs.Integers.{add_parts}
use Rattle.rules.specs.Ledger.{Ledger, contract_of, ramp_start, end_of}
use Rattle.rules.specs.Segment.{Segment, segments_from, segments}
use Rattle.rules.specs.Statement.{line_of, lines}
use Rattle.commands.specs.declared.contract.Contract.{Contract}
use Rattle.commands.specs.declared.entries.Instruction.{Instruction}
use Rattle.rules.specs.declared.statement.Line.{Line}
use Rattle.rules.proofs.LineBound.{lines-segments}
use Rattle.rules.proofs.Cuts.{cut, cuts_from, segment_at, segments_cuts}
use Rattle.book.specs.Book.{no_instruction}
use Rattle.settle_terms.specs.declared.Terms.{Terms}
use Rattle.settle_lines.specs.declared.cursor.Cursor.{Cursor}
use Rattle.settle_terms.specs.Terms.{issue_of, period_places}
use Rattle.settle_lines.specs.Cursor.{active_of, line_by, start_of, cursor_at, stepped_line, stored, enter_of, moved, cut_by, step_of, either, Ready}
use Rattle.settle_lines.proofs.Step.{Next, next, stored-first}
use Rattle.settle_lines.proofs.First.{first_are, sum_first}
use Rattle.settle.proofs.Bounds.{bounded}
use Rattle.settle.proofs.LedgerTables.{instruction_at}
use Rattle.settle.proofs.CursorLine.{Tied, end_is, cut_is, line_tied}

cuts_none : (k : Contract) (n : ℕ) (i : Instruction) (u m : ℕ) → end_of k i ≤ m → cuts_from k n i u m ≡ []
unfolding cuts_from
cuts_none k n i zero m h = refl
cuts_none k n i (suc u) m h = rw (le-ltb m (end_of k i) h) refl

-- one of two cursors, by a test
pick : (P : Cursor → Type 0) (b : Bool) {x y : Cursor} → (b ≡ true → P x) → (b ≡ false → P y) → P (either b x y)
pick P true f g = f refl
pick P false f g = g refl

module _ {g : Ledger} {t : Terms} {calls : List Instruction} {live : List ℕ} {meter : List ℤ} (T : Tied g t calls live meter) where
  abbrev k : Contract
  k = contract_of g

  -- the segments after instruction j
  abbrev after : ℕ → List Segment
  after j = segments_from k (suc (j + 1)) (drop (j + 1) g.instructions)

  -- a segment is next, and these are left
  record Open (c : Cursor) (ss : List Segment) : Type 0 where
    ready : Ready t calls live meter c
    fuel : ℕ
    enough : end_of k (instruction_at g c.at) ≤ c.minute.0 + fuel
    rest : ss ≡ cuts_from k (c.at + 1) (instruction_at g c.at) fuel c.minute.0 ++ after c.at

  -- or none is left, and the sum fits
  abbrev Here : Cursor → List Segment → Type 0
  Here c ss = Open c ss ⊎ ((ss ≡ []) × Within 100000000000000 c.pence.0)

  enter_here : (c : Cursor) → Within (500000 * c.minute.0) c.capped.0 → Within (500000000 * c.minute.0) c.pence.0 → c.minute.0 ≤ 30 * period_places
      → (c.at < length calls → c.minute.0 ≤ issue_of calls c.at)
      → Here (enter_of t calls live meter c) (segments_from k (suc c.at) (drop c.at g.instructions))
  unfolding enter_of segments_from active_of
  enter_here c u v m o =
      pick (λ z. Here z (segments_from k (suc c.at) (drop c.at g.instructions))) (ltb c.at (length calls))
      (λ e.
      let h : c.at < length calls = ltb-true c.at (length calls) e in
      let p = T.plan in let q = p.each c.at h in let s = T.terms.each c.at h in let w = o h in
      let i : Instruction = instruction_at g c.at in
      let l : c.at < length g.instructions = omega (arith, T.terms.count) in
      inl (record {
        ready =
            record { more = h; active = refl; begun = omega arith; before = omega arith; capped = omega arith; pence = omega arith };
        fuel = end_of k i - ramp_start k i;
        enough = omega (arith, s);
        rest = rw (drop-cons g.instructions c.at no_instruction l, add-one c.at, s.start, segments_cuts k (suc c.at) i s.timed) refl;
      }))
      (λ e.
      let h : length g.instructions ≤ c.at = omega (arith, ltb-false c.at (length calls) e, T.terms.count) in
      inr (rw (drop_of_length-le g.instructions h) refl, omega arith))

  entered_sums : (c : Cursor) → ((enter_of t calls live meter c).capped.0 ≡ c.capped.0) × ((enter_of t calls live meter c).pence.0 ≡ c.pence.0)
  unfolding enter_of
  entered_sums c =
      pick (λ z. (z.capped.0 ≡ c.capped.0) × (z.pence.0 ≡ c.pence.0)) (ltb c.at (length calls)) (λ e. (refl, refl)) (λ e. (refl, refl))

  -- one step
  record Step (c : Cursor) (ss : List Segment) : Type 0 where
    rest : List Segment
    cons : ss ≡ segment_at k (c.at + 1) (instruction_at g c.at) c.minute.0 ∷ rest
    line : (step_of t calls live meter c).line ≡ line_of g (segment_at k (c.at + 1) (instruction_at g c.at) c.minute.0)
    here : Here (step_of t calls live meter c).next rest
    capped : (step_of t calls live meter c).next.capped.0 ≡ c.capped.0 +ℤ (step_of t calls live meter c).line.capped.0
    pence : (step_of t calls live meter c).next.pence.0 ≡ c.pence.0 +ℤ (step_of t calls live meter c).line.pence.0

  module _ {c : Cursor} (r : Ready t calls live meter c) where
    abbrev i : Instruction
    i = instruction_at g c.at

    abbrev l : Line
    l = line_by t c.active live meter c.at c.minute.0 (cut_by c)

    abbrev n : Next t calls live meter c
    n = next T.plan r

    end : c.active.end.0 ≡ end_of k i
    end = end_is T r

    going : (u : ℕ) → end_of k i ≤ c.minute.0 + suc u
        → Here (step_of t calls live meter c).next (cuts_from k (c.at + 1) i u (cut k i c.minute.0) ++ after c.at)
    unfolding step_of
    going u e =
        let b = bounded T.plan r in
        let s = n in
        let x : Within (500000 * cut_by c) (c.capped.0 +ℤ l.capped.0) = omega (arith, add_parts c.capped.0 l.capped.0) in
        let y : Within (500000000 * cut_by c) (c.pence.0 +ℤ l.pence.0) = omega (arith, add_parts c.pence.0 l.pence.0) in
        pick (λ z. Here z (cuts_from k (c.at + 1) i u (cut k i c.minute.0) ++ after c.at)) (ltb (cut_by c) c.active.end.0)
        (λ h.
        let w : cut_by c < c.active.end.0 = ltb-true (cut_by c) c.active.end.0 h in
        inl (record {
          ready =
              record { more = r.more; active = r.active; begun = omega arith; before = omega arith; capped = x; pence = y };
          fuel = u;
          enough = omega (arith, n.above, end);
          rest = rw (cut_is T r) refl;
        }))
        (λ h.
        let w : c.active.end.0 ≤ cut_by c = ltb-false (cut_by c) c.active.end.0 h in
        rw (cuts_none k (c.at + 1) i u (cut k i c.minute.0) (omega (arith, end, cut_is T r)))
        (enter_here (moved c (c.at + 1) (cut_by c) l) x y (omega (arith, n.inside, (T.plan.each c.at r.more).periods, T.plan.fits))
        (λ z. omega (arith, T.plan.order c.at z, n.inside))))

    sums : ((step_of t calls live meter c).next.capped.0 ≡ c.capped.0 +ℤ l.capped.0)
        × ((step_of t calls live meter c).next.pence.0 ≡ c.pence.0 +ℤ l.pence.0)
    unfolding step_of
    sums =
        pick (λ z. (z.capped.0 ≡ c.capped.0 +ℤ l.capped.0) × (z.pence.0 ≡ c.pence.0 +ℤ l.pence.0)) (ltb (cut_by c) c.active.end.0)
        (λ h. (refl, refl)) (λ h. entered_sums (moved c (c.at + 1) (cut_by c) l))

    fueled : (ss : List Segment) (u : ℕ) → end_of k i ≤ c.minute.0 + u → ss ≡ cuts_from k (c.at + 1) i u c.minute.0 ++ after c.at → Step c ss
    unfolding step_of cuts_from
    fueled ss zero e q = absurd (omega (arith, end, n.end, r.before))
    fueled ss (suc u) e q =
        let m : c.minute.0 < end_of k i = omega (arith, end, n.end, r.before) in
        record {
          rest = cuts_from k (c.at + 1) i u (cut k i c.minute.0) ++ after c.at;
          cons = q ∙ rw (lt-ltb c.minute.0 (end_of k i) m) refl;
          line = line_tied T r;
          here = going u e;
          capped = sums.0;
          pence = sums.1;
        }

  -- ---- the n-th cursor
  abbrev ss : List Segment
  ss = segments g

  abbrev nowhere : Segment
  nowhere = record { number = 0; instruction = no_instruction; head = 0; minutes = [] }

  abbrev cur : ℕ → Cursor
  cur = cursor_at t calls live meter

  abbrev stepped : ℕ → Line
  stepped = stepped_line t calls live meter

  open_at : (n : ℕ) → n < length ss → Here (cur n) (drop n ss) → Open (cur n) (drop n ss)
  open_at n h (inl o) = o
  open_at n h (inr e) = absurd (omega (arith, length-drop n ss, ap length e.0))

  step_from : (n : ℕ) → n < length ss → Here (cur n) (drop n ss) → Step (cur n) (drop n ss)
  step_from n h x = let o = open_at n h x in fueled o.ready (drop n ss) o.fuel o.enough o.rest

  here_at : (n : ℕ) → n ≤ length ss → Here (cur n) (drop n ss)
  unfolding segments
  here_at zero h = enter_here start_of (omega arith) (omega arith) (omega arith) (λ h. zero-le)
  here_at (suc n) h =
      let s = step_from n h (here_at n (omega arith)) in
      let e : s.rest ≡ drop (suc n) ss = cc (s.cons, drop-cons ss n nowhere h) in
      subst (Here (cur (suc n))) e s.here

  step_at_lem : (n : ℕ) → n < length ss → Step (cur n) (drop n ss)
  step_at_lem n h = step_from n h (here_at n (omega arith))

  pub ready_at : (n : ℕ) → n < length ss → Ready t calls live meter (cur n)
  ready_at n h = (open_at n h (here_at n (omega arith))).ready

  -- the sum of the lines fits
  pub sum_fits : (n : ℕ) → n ≤ length ss → Within 100000000000000 (cur n).pence.0
  sum_fits n h = go (here_at n h)
    where
      go : Here (cur n) (drop n ss) → Within 100000000000000 (cur n).pence.0
      go (inl o) = let r = o.ready in omega (arith, r.pence, r.before, (T.plan.each (cur n).at r.more).periods, T.plan.fits)
      go (inr e) = e.1

  -- the lines that are stepped through are the statement's, and so is what the line memory holds
  lines_are : lines g ≡ map stepped (between 0 (length ss))
  unfolding lines
  lines_are =
      first_are stepped (line_of g nowhere) (map (line_of g) ss) (length ss) (length-map ss (line_of g))
      (λ n h. let s = step_at_lem n h in get_or-map (line_of g) ss n nowhere ∙ cc (s.line, s.cons, drop-cons ss n nowhere h))

  pub stored_lines : (ys : List Line) → length ss ≤ length ys → stored stepped (length ss) ys ≡ lines g ++ drop (length (lines g)) ys
  stored_lines ys h = stored-first stepped (length ss) ys h ∙ ap₂ (λ z m. z ++ drop m ys) (sym lines_are) (sym (lines-segments g))

  sum_at : (f : Line → ℤ) (v : Cursor → ℤ) → v (cur 0) ≡ pos 0 → ((n : ℕ) → n < length ss → v (cur (suc n)) ≡ v (cur n) +ℤ f (stepped n))
      → v (cur (length ss)) ≡ sum f (lines g)
  sum_at f v z e = sum_first stepped f (λ n. v (cur n)) (length ss) z e (length ss) (le_refl (length ss)) ∙ ap (sum f) (sym lines_are)

  pub capped_at : (cur (length ss)).capped.0 ≡ sum (λ (l : Line). l.capped.0) (lines g)
  capped_at = sum_at (λ (l : Line). l.capped.0) (λ c. c.capped.0) (entered_sums start_of).0 (λ n h. (step_at_lem n h).capped)

  pub pence_at : (cur (length ss)).pence.0 ≡ sum (λ (l : Line). l.pence.0) (lines g)
  pence_at = sum_at (λ (l : Line). l.pence.0) (λ c. c.pence.0) (entered_sums start_of).1 (λ n h. (step_at_lem n h).pence)
