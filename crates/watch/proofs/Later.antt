-- Later entries leave the steps so far as they are: a month's figures and times stay, and a later instruction excludes no window that a minute before its
-- end is in.
use mathlib.Core.Path.{◌≡◌, refl, sym, ap, ap₂, ◌∙◌, subst}
use mathlib.Core.Bool.{Bool, false, ◌&&◌, ◌||◌, and-false, or-false}
use mathlib.Core.List.{List, [], ◌∷◌, ◌++◌, append_assoc, append-nil}
use mathlib.Core.Option.{none, some, none-ne-some, some-injective}
use Prim.Native.Nat.{ℕ, zero, suc, ◌+◌, ◌-◌, ◌≤◌, ◌<◌}
use native.Mathlib.Omega.{arith}
use lib.Dec.{T, eqb, leb}
use lib.IntN.{ℤ}
use lib.ListN.{drop, length, get_or, get_elem?, length-append, get_or-append}
use borrow.Author.Tests.{ne_eqb, le-leb, le-ltb, leb-true}
use Rattle.energy.specs.Lists.{any, concat_map, first}
use Rattle.energy.proofs.Tests.{any_append, either, either-eq}
use Rattle.commands.specs.Input.{kw_of, most_minute}
use Rattle.commands.specs.declared.contract.Contract.{Contract}
use Rattle.commands.specs.declared.entries.Command.{Command}
use Rattle.commands.specs.declared.entries.Instruction.{Instruction}
use Rattle.commands.specs.declared.entries.Window.{Window}
use Rattle.rules.specs.Ledger.{Ledger, contract_of, ledger_of, expiry, end_of, no_contract, no_instruction, contract_in, instruction_in, span_in, within}
use Rattle.rules.specs.Lines.{Active}
use Rattle.rules.specs.Reached.{Agreed, Reached, instructions_sound}
use Rattle.rules.specs.Reached.Reached.{untouched, agreed}
use Rattle.rules.specs.Refusal.{joined, refusal, taken, taken_after}
use Rattle.rules.specs.Segment.{excludes, in_live, live}
use Rattle.rules.proofs.Reached.{parts_of, reached}
use Rattle.rules.proofs.Tables.{instructions_cons}
use Rattle.rules.proofs.Taken.{concat_map_append}
use Rattle.watch_step.specs.Month.{month_numbers, kw_at, kind_at, utilisation_at, optional_at, count_at, start_at, expiry_at, cease_at, end_at, live_at}
use Rattle.watch_step.specs.Step.{advanced, answer_to, cut_before, expects_at, is_next, month_fits, price_at, step_of}
use Rattle.watch_step.specs.declared.totals.Totals.{Totals}
use Rattle.watch_step.specs.declared.step.NotStepped.{NotStepped}
use Rattle.std.specs.Prelude.{Result}
use Rattle.watch_month.specs.MonthOf.{MonthLaid, month_of}
use Rattle.watch.specs.Later.{Later·theorem}
use Rattle.watch.proofs.Minute.{Figures, Row, figures_fit}
use Rattle.watch.proofs.Steps.{span_most}
use Rattle.watch.proofs.Watched.{figures, laid, row}

-- ---- steps over two months that agree

-- two months agree in what a step of minute m of instruction n looks at
record Same (x y : List ℕ) (n m : ℕ) : Type 0 where
  fits : month_fits x ≡ month_fits y
  there : leb n (count_at x) ≡ leb n (count_at y)
  kw : kw_at x ≡ kw_at y
  kind : kind_at x ≡ kind_at y
  utilisation : utilisation_at x ≡ utilisation_at y
  optional : optional_at x ≡ optional_at y
  start : start_at x n ≡ start_at y n
  expiry : expiry_at x n ≡ expiry_at y n
  cease : cease_at x n ≡ cease_at y n
  end : end_at x n ≡ end_at y n
  before : (p : ℕ) → suc p + 1 ≡ n → end_at x (suc p) ≡ end_at y (suc p)
  here : live_at x m ≡ live_at y m
  early : live_at x (expiry_at y n) ≡ live_at y (expiry_at y n)
  late : live_at x (cease_at y n - 1) ≡ live_at y (cease_at y n - 1)

module _ {x y : List ℕ} {n m : ℕ} (h : Same x y n m) where
  over_same : (p q : ℕ) → p + 1 ≡ n → (eqb p 0 || eqb q (end_at x p)) ≡ (eqb p 0 || eqb q (end_at y p))
  over_same zero q e = refl
  over_same (suc p) q e = rw (h.before p e) refl

  next_same : (s : Totals) → is_next x s n m ≡ is_next y s n m
  unfolding is_next
  next_same s =
      either-eq n (s.instruction + 1) (λ e. rw (h.end, h.start, over_same s.instruction (s.minute.0 + 1) (sym e)) refl)
      (λ d. rw (ne_eqb n (s.instruction + 1) d, h.end) refl)

  cut_same : (p : ℕ) → cut_before x n p ≡ cut_before y n p
  unfolding cut_before
  cut_same p = rw (h.expiry, h.cease, h.end) refl

  expects_same : expects_at x n m ≡ expects_at y n m
  unfolding expects_at
  expects_same = rw (h.expiry, h.cease, h.kw) refl

  price_same : price_at x n m ≡ price_at y n m
  unfolding price_at
  price_same = rw (h.expiry, h.cease, h.here, h.early, h.late, h.utilisation, h.optional) refl

  steps_same : (s : Totals) (kw : ℤ) (base : List ℤ)
      → step_of x s n (record { minute = record { 0 = m }; kw = record { 0 = kw } }) base
      ≡ step_of y s n (record { minute = record { 0 = m }; kw = record { 0 = kw } }) base
  unfolding step_of answer_to advanced
  steps_same s kw base =
      rw (h.fits, h.there, next_same s, cut_same m, cut_same (m + 1), expects_same, price_same, h.kind) refl

-- ---- what is entered later

taken_after_more : (size : ℕ) (t ds : List Command) → (xs : List Command) × (taken_after size t ds ≡ t ++ xs)
unfolding taken_after
taken_after_more size t [] = ([], sym (append-nil t))
taken_after_more size t (d ∷ ds) =
    let (xs, e) = taken_after_more size (t ++ (d ∷ [])) ds in
    let same = taken_after_more size t ds in
    elim (refusal false size (ledger_of t) d) as (λ o. (xs : List Command) × (taken_after size (joined o t d) ds ≡ t ++ xs)) [
      | none ↦ (d ∷ xs, e ∙ append_assoc t (d ∷ []) xs)
      | some n ↦ same
    ]

taken_after-append : (size : ℕ) (t cs ds : List Command) → taken_after size t (cs ++ ds) ≡ taken_after size (taken_after size t cs) ds
unfolding taken_after
taken_after-append size t [] ds = refl
taken_after-append size t (c ∷ cs) ds = taken_after-append size (joined (refusal false size (ledger_of t) c) t c) cs ds

-- commands taken stay taken
taken_more : (size : ℕ) (cs ds : List Command) → (xs : List Command) × (taken size (cs ++ ds) ≡ taken size cs ++ xs)
unfolding taken
taken_more size cs ds = let (xs, e) = taken_after_more size (taken size cs) ds in (xs, taken_after-append size [] cs ds ∙ e)

-- ---- later instructions exclude no window before their end

module _ (k : Contract) where
  -- each ends at x or later
  abbrev EndAfter : ℕ → List Instruction → Type 0
  EndAfter x [] = Unit {0}
  EndAfter x (j ∷ js) = (x ≤ end_of k j) × EndAfter x js

  end_mono : (x y : ℕ) → x ≤ y → (js : List Instruction) → EndAfter y js → EndAfter x js
  end_mono x y h [] e = tt
  end_mono x y h (j ∷ js) (a, e) = (omega arith, end_mono x y h js e)

  ends_after : (span : ℕ) (js : List Instruction) (e : ℕ) → T (instructions_sound k span e js) → EndAfter e js
  ends_after span [] e t = tt
  ends_after span (j ∷ js) e t =
      let (f, rest) = instructions_cons k span e j js t in
      let o : e ≤ end_of k j = omega (arith, f.after, f.ceased) in
      (o, end_mono e (end_of k j + k.recovery.0) (omega arith) js (ends_after span js (end_of k j + k.recovery.0) rest))

  skipped : (span : ℕ) (is js : List Instruction) (e : ℕ) → T (instructions_sound k span e (is ++ js)) → EndAfter e js
  skipped span [] js e t = ends_after span js e t
  skipped span (i ∷ is) js e t =
      let (f, rest) = instructions_cons k span e i (is ++ js) t in
      end_mono e (end_of k i + k.recovery.0) (omega (arith, f.after, f.ceased)) js (skipped span is js (end_of k i + k.recovery.0) rest)

  -- those after the instruction at place p
  after_place : (span : ℕ) (is js : List Instruction) (e p : ℕ) → T (instructions_sound k span e (is ++ js)) → p < length is
      → EndAfter (end_of k (get_or is p no_instruction)) js
  after_place span [] js e p t l = absurd (omega arith)
  after_place span (i ∷ is) js e zero t l =
      let (f, rest) = instructions_cons k span e i (is ++ js) t in
      end_mono (end_of k i) (end_of k i + k.recovery.0) (omega arith) js (skipped span is js (end_of k i + k.recovery.0) rest)
  after_place span (i ∷ is) js e (suc p) t l =
      let (f, rest) = instructions_cons k span e i (is ++ js) t in
      after_place span is js (end_of k i + k.recovery.0) p rest (omega arith)

  -- what is known of the instruction at place p
  place_fits : (span : ℕ) (is : List Instruction) (e p : ℕ) → T (instructions_sound k span e is) → p < length is
      → (end_of k (get_or is p no_instruction) ≤ span) × (expiry k (get_or is p no_instruction) ≤ (get_or is p no_instruction).cease.0)
  place_fits span [] e p t l = absurd (omega arith)
  place_fits span (i ∷ is) e zero t l = let (f, rest) = instructions_cons k span e i is t in (f.inside, f.ceased)
  place_fits span (i ∷ is) e (suc p) t l =
      let (f, rest) = instructions_cons k span e i is t in
      place_fits span is (end_of k i + k.recovery.0) p rest (omega arith)

  none-excludes : (w : Window) (x : ℕ) → w.start.0 ≤ x → (js : List Instruction) → EndAfter x js → any (excludes k w) js ≡ false
  unfolding any excludes
  none-excludes w x h [] e = refl
  none-excludes w x h (j ∷ js) (a, e) =
      rw (le-ltb (end_of k j) w.start.0 (omega arith), and-false (leb 1 k.recovery.0)) (none-excludes w x h js e)

-- ---- a minute before them is in the same live windows

any_same : {A : Type 0} (f h : A → Bool) (xs : List A) → ((x : A) → f x ≡ h x) → any f xs ≡ any h xs
unfolding any
any_same f h [] e = refl
any_same f h (x ∷ xs) e = ap₂ ◌||◌ (e x) (any_same f h xs e)

module _ (g g' : Ledger) (js : List Instruction) (ek : contract_of g' ≡ contract_of g) (ew : g'.windows ≡ g.windows)
    (ei : g'.instructions ≡ g.instructions ++ js) (x : ℕ) (after : EndAfter (contract_of g) x js) where
  window_same : (w : Window) → w.start.0 ≤ x → live g w ≡ live g' w
  unfolding live
  window_same w h =
      rw (
        ek,
        ei,
        any_append (excludes (contract_of g) w) g.instructions js,
        none-excludes (contract_of g) w x h js after,
        or-false (any (excludes (contract_of g) w) g.instructions),
      )
      refl

  live_same : in_live g x ≡ in_live g' x
  unfolding in_live
  live_same =
      any_same (λ w. within w x && live g w) (λ w. within w x && live g' w) g.windows
      (λ w.
      either (leb w.start.0 x) (λ e. ap (λ b. within w x && b) (window_same w (leb-true w.start.0 x e))) (λ e. rw e refl))
      ∙ ap (any (λ w. within w x && live g' w)) (sym ew)

-- ---- two ledgers, one with later entries

at_place : (is : List Instruction) (j : ℕ) (i : Instruction) → get_elem? is j ≡ some i → (j < length is) × (get_or is j no_instruction ≡ i)
at_place [] j i e = absurd (none-ne-some i e)
at_place (x ∷ is) zero i e = (omega arith, some-injective x i e)
at_place (x ∷ is) (suc j) i e = let (l, q) = at_place is j i e in (omega arith, q)

module _ {size : ℕ} {g g' : Ledger} (a : Agreed size g) (a' : Agreed size g') (js : List Instruction) (ek : contract_of g' ≡ contract_of g)
    (ew : g'.windows ≡ g.windows) (ei : g'.instructions ≡ g.instructions ++ js) (more more' : List ℕ) where
  abbrev k : Contract
  k = contract_of g

  abbrev x : List ℕ
  x = month_of g ++ more

  abbrev y : List ℕ
  y = month_of g' ++ more'

  abbrev F : Figures g x
  F = figures a more

  abbrev F' : Figures g' y
  F' = figures a' more'

  longer : length g.instructions ≤ length g'.instructions
  longer = omega (arith, ap length ei, length-append g.instructions js)

  -- the row of an instruction of g in the month of g'
  row' : (j : ℕ) → j < length g.instructions → Row k y (suc j) (get_or g.instructions j no_instruction)
  row' j l =
      let same : get_or g'.instructions j no_instruction ≡ get_or g.instructions j no_instruction =
      ap (λ z. get_or z j no_instruction) ei ∙ get_or-append g.instructions js no_instruction j l in
      subst (λ z. Row k y (suc j) z) same (subst (λ z. Row z y (suc j) (get_or g'.instructions j no_instruction)) ek (row a' more' j (omega (arith, longer))))

  module _ (j : ℕ) (l : j < length g.instructions) (m : ℕ) (b : m < end_of k (get_or g.instructions j no_instruction)) where
    abbrev i : Instruction
    i = get_or g.instructions j no_instruction

    abbrev r : Row k x (suc j) i
    r = row a more j l

    abbrev r' : Row k y (suc j) i
    r' = row' j l

    sound : T (instructions_sound k (span_in g') 0 (g.instructions ++ js))
    sound =
        subst (λ z. T (instructions_sound z (span_in g') 0 (g.instructions ++ js))) ek
        (subst (λ z. T (instructions_sound (contract_of g') (span_in g') 0 z)) ei (parts_of a').instructions)

    times : (end_of k i ≤ most_minute) × (expiry k i ≤ end_of k i)
    times =
        let f = place_fits k (span_in g) g.instructions 0 j (parts_of a).instructions l in
        omega (arith, f, span_most a)

    lives : (p : ℕ) → p ≤ end_of k i → live_at x p ≡ live_at y p
    lives p h =
        F.live p (omega (arith, times))
        ∙ live_same g g' js ek ew ei p
        (end_mono k p (end_of k i) h js (after_place k (span_in g') g.instructions js 0 j sound l))
        ∙ sym (F'.live p (omega (arith, times)))

    same : Same x y (suc j) m
    same =
        record {
          fits = figures_fit F ∙ sym (figures_fit F');
          there = rw (le-leb (suc j) (count_at x) (omega (arith, F.count)), le-leb (suc j) (count_at y) (omega (arith, F'.count, longer))) refl;
          kw = F.kw ∙ sym (F'.kw ∙ ap kw_of ek);
          kind = F.kind ∙ sym (F'.kind ∙ ap (λ (z : Contract). z.kind) ek);
          utilisation = F.utilisation ∙ sym (F'.utilisation ∙ ap (λ (z : Contract). z.utilisation) ek);
          optional = F.optional ∙ sym (F'.optional ∙ ap (λ (z : Contract). z.optional) ek);
          start = r.start ∙ sym r'.start;
          expiry = r.expiry ∙ sym r'.expiry;
          cease = r.cease ∙ sym r'.cease;
          end = r.end ∙ sym r'.end;
          before = λ p e. (row a more p (omega arith)).end ∙ sym (row' p (omega arith)).end;
          here = lives m (omega arith);
          early = lives (expiry_at y (suc j)) (omega (arith, r'.expiry, times));
          late = lives (cease_at y (suc j) - 1) (omega (arith, r'.cease));
        }

-- ---- the theorem

first_stays : (k : Contract) (xs ys : List Contract) → xs ≡ k ∷ [] → first no_contract (xs ++ ys) ≡ k
unfolding first
first_stays k xs ys e = rw e refl

-- what stands after t with the commands xs
module _ (t t' xs : List Command) (e : t' ≡ t ++ xs) where
  abbrev g : Ledger
  g = ledger_of t

  abbrev g' : Ledger
  g' = ledger_of t'

  abbrev js : List Instruction
  js = concat_map instruction_in xs

  instructions_more : g'.instructions ≡ g.instructions ++ js
  unfolding ledger_of
  instructions_more = ap (concat_map instruction_in) e ∙ concat_map_append instruction_in t xs

  contract_stays : {size : ℕ} → Agreed size g → contract_of g' ≡ contract_of g
  unfolding ledger_of contract_of
  contract_stays a =
      ap (first no_contract) (ap (concat_map contract_in) e ∙ concat_map_append contract_in t xs)
      ∙ first_stays (contract_of g) g.contracts (concat_map contract_in xs) a.contract

  months_same : {size : ℕ} → Reached size g → Reached size g' → g'.windows ≡ g.windows → (more more' : List ℕ) (j : ℕ) (i : Instruction) (m : ℕ)
      → Active g j i m → Same (month_of g ++ more) (month_of g' ++ more') (suc j) m
  months_same (untouched u) r ew more more' j i m act =
      absurd (omega (arith, at_place g.instructions j i act.given, ap length u.instructions))
  months_same (agreed a) (untouched u) ew more more' j i m act =
      absurd
      (omega (
        arith,
        at_place g.instructions j i act.given,
        ap length u.instructions,
        ap length instructions_more,
        length-append g.instructions js,
      ))
  months_same (agreed a) (agreed a') ew more more' j i m act =
      let (l, is) = at_place g.instructions j i act.given in
      same a a' js (contract_stays a) ew instructions_more more more' j l m (subst (λ z. m < end_of (contract_of g) z) (sym is) act.before_end)

pub later : Later·theorem
unfolding Later·theorem
later size cs ds ew memory memory' h h' j i m act s kw base =
    let (xs, e) = taken_more size cs ds in
    let both =
    months_same (taken size cs) (taken size (cs ++ ds)) xs e (reached size cs) (reached size (cs ++ ds)) ew (drop month_numbers memory)
    (drop month_numbers memory') j i m act in
    let step : MonthLaid → Result Totals NotStepped = λ l. step_of l.month s (suc j) (record { minute = record { 0 = m }; kw = record { 0 = kw } }) base in
    ap step (laid size cs memory h) ∙ steps_same both s kw base ∙ sym (ap step (laid size (cs ++ ds) memory' h'))
