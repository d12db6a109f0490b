-- A ledger that commands leave is untouched, or has one contract and entries that could be taken under it: by induction over the commands.
use mathlib.Core.Path.{◌≡◌, refl, sym, ap, ◌∙◌, subst, subst⁻¹}
use mathlib.Core.Bool.{Bool, true, false, not, ◌&&◌, ◌||◌, cond, true≢false}
use mathlib.Core.List.{List, [], ◌∷◌, ◌++◌, append-nil}
use mathlib.Core.Option.{Option, none, some, none-ne-some, some-injective}
use Prim.Native.Nat.{ℕ, ◌*◌, ◌≤◌, ◌<◌, max}
use native.Mathlib.Nat.{le-max_right}
use native.Mathlib.Omega.{arith}
use lib.Dec.{T, eqb, leb, ltb, eqb→eq}
use lib.ListN.{length, length-append}
use borrow.Author.Tests.{leb-false, ltb-false, lt-ltb, eqb-true}
use Rattle.energy.specs.Lists.{all, any, between, concat_map, first, is_empty, is_some, later, pass}
use Rattle.energy.proofs.Tests.{T_and, and_T, of_T, off-T, off_not, off_or, passes, passed, all_snoc, either}
use Rattle.energy.proofs.Sums.{any_off}
use Rattle.commands.specs.Input.{from_to, in_range, ramp_too_long, is_reading, meterable, most_minute}
use Rattle.calendar.specs.Calendar.{is_date, days_of}
use Rattle.calendar.specs.declared.Date.{Date}
use Rattle.rules.specs.Ledger.{Ledger, Metered, ledger_of, contract_of, no_contract, contract_in, date_in, window_in, instruction_in, default_in}
use Rattle.rules.specs.Ledger.{reading_in, reading_of}
use Rattle.rules.specs.Ledger.{is_contract, span_of, full_span, span_in, cells_in, within}
use Rattle.rules.specs.Refusal.{date_late, other_month, refusal, taken}
use Rattle.rules.specs.Reached.{date_sound, windows_sound, instructions_sound, default_sound, agreed_tests, Untouched, Agreed, Reached, Reached·theorem}
use Rattle.rules.specs.Reached.Reached.{untouched, agreed}
use Rattle.commands.specs.declared.contract.Contract.{Contract}
use Rattle.commands.specs.declared.entries.Window.{Window}
use Rattle.commands.specs.declared.entries.Instruction.{Instruction}
use Rattle.commands.specs.declared.entries.Default.{Default}
use Rattle.commands.specs.declared.entries.Reading.{Reading}
use Rattle.commands.specs.declared.entries.Revision.{Revision}
use Rattle.commands.specs.declared.entries.Command.{Command}
use Rattle.commands.specs.declared.entries.Command.TheVariants.{Contract as contractᶜ, Date as dateᶜ, Window as windowᶜ, Instruction as instructionᶜ}
use Rattle.commands.specs.declared.entries.Command.TheVariants.{Default as defaultᶜ, Reading as readingᶜ, Revision as revisionᶜ}
use Rattle.commands.specs.declared.entries.Command.TheVariants.{Close as closeᶜ}
use Rattle.commands.proofs.Terms.{Terms, terms}
use Rattle.rules.proofs.Taken.{grown, ledger_of-snoc, Allowed, allowed, taken_ind}
use Rattle.rules.proofs.Span.{span_kept, cells_kept, cells_new, cells_dated}
use Rattle.rules.proofs.Tables.{last_end, last_of_lem, one_window, windows-snoc}
use Rattle.rules.proofs.Tables.{ready, ready_recovered, one_instruction, instructions_snoc, defaults_more}

-- ---- the parts of a ledger under a contract

-- the tests of a contract k and its tables, by name
pub record Parts (k : Contract) (span : ℕ) (ws : List Window) (is : List Instruction) (ds : List Default) : Type 0 where
  pub operands : T (in_range (contractᶜ k))
  pub ramps : T (not (ramp_too_long (contractᶜ k)))
  pub windows : T (windows_sound k span 0 ws)
  pub instructions : T (instructions_sound k span 0 is)
  pub defaults : T (all (default_sound k span ws) ds)

pub parts : (k : Contract) (span : ℕ) (ws : List Window) (is : List Instruction) (ds : List Default) → T (pass (agreed_tests k span ws is ds))
    → Parts k span ws is ds
unfolding agreed_tests
parts k span ws is ds t =
    let p = passes (agreed_tests k span ws is ds) t in
    record { operands = p.0; ramps = p.1.0; windows = p.1.1.0; instructions = p.1.1.1.0; defaults = p.1.1.1.1.0 }

pub tested : {k : Contract} {span : ℕ} {ws : List Window} {is : List Instruction} {ds : List Default} → Parts k span ws is ds
    → T (pass (agreed_tests k span ws is ds))
unfolding agreed_tests
tested {k} {span} {ws} {is} {ds} p =
    passed (agreed_tests k span ws is ds) (p.operands, (p.ramps, (p.windows, (p.instructions, (p.defaults, tt)))))

-- those of a ledger
abbrev pub PartsOf : Ledger → Type 0
PartsOf g = Parts (contract_of g) (span_in g) g.windows g.instructions g.defaults

pub parts_of : {size : ℕ} {g : Ledger} → Agreed size g → PartsOf g
parts_of {g = g} a = parts (contract_of g) (span_in g) g.windows g.instructions g.defaults a.tests

-- the contract of a ledger, in numbers
pub terms_of_lem : {size : ℕ} {g : Ledger} → Agreed size g → Terms (contract_of g)
terms_of_lem {g = g} a = let p = parts_of a in terms (contract_of g) p.operands p.ramps

-- readings of a span
abbrev Readings : ℕ → Ledger → Type 0
Readings span g = (m : ℕ) (x : Metered) → g.reading m ≡ some x → (m < span) × T (is_reading x.kw)

-- a date at most, which could be entered
record Dated (k : Contract) (dates : List Date) : Type 0 where
  few : length dates ≤ 1
  fits : T (all (date_sound k) dates)

-- tables with room for what they hold
record Fits (ws : List Window) (is : List Instruction) (ds : List Default) : Type 0 where
  windows : length ws ≤ 128
  instructions : length is ≤ 64
  defaults : length ds ≤ 128

-- a ledger whose one contract is k
under : (size : ℕ) (k : Contract) (g : Ledger) → g.contracts ≡ k ∷ [] → Parts k (span_in g) g.windows g.instructions g.defaults
    → Dated k g.dates → Fits g.windows g.instructions g.defaults → cells_in g ≤ size → Readings (span_in g) g → Agreed size g
unfolding contract_of first
under size k g e p d f s r =
    let same : k ≡ contract_of g = sym (ap (first no_contract) e) in
    record {
      contract = e ∙ ap (λ x. x ∷ []) same;
      tests = subst (λ x. T (pass (agreed_tests x (span_in g) g.windows g.instructions g.defaults))) same (tested p);
      dates = d.few;
      dated = subst (λ x. T (all (date_sound x) g.dates)) same d.fits;
      windows = f.windows;
      instructions = f.instructions;
      defaults = f.defaults;
      cells = s;
      readings = r;
    }

-- ---- which of the two kinds a command meets

-- a command that is no contract needs one
needs_contract : {size : ℕ} {g : Ledger} (c : Command) → is_contract c ≡ false → Reached size g → Allowed size g c → Agreed size g
unfolding is_empty
needs_contract c n (agreed a) h = a
needs_contract c n (untouched u) h =
    absurd (true≢false (sym (ap (λ l. is_empty l && not (is_contract c)) u.contracts ∙ ap not n) ∙ h.book.agreed))

-- a contract is the only one
first_contract : {size : ℕ} {g : Ledger} (k : Contract) → Reached size g → Allowed size g (contractᶜ k) → Untouched g
unfolding is_empty
first_contract k (untouched u) h = u
first_contract k (agreed a) h = absurd (true≢false (sym (ap (λ l. not (is_empty l) && true) a.contract) ∙ h.book.only))

-- ---- an entry under a contract

-- one entry more fits a table that has room
fits : {A : Type 0} (n : ℕ) (l : List A) (a : A) → leb n (length l) ≡ false → length (l ++ (a ∷ [])) ≤ n
fits n l a e = omega (arith, length-append l (a ∷ []), leb-false n (length l) e)

module _ {size : ℕ} {g : Ledger} (a : Agreed size g) where
  abbrev k : Contract
  k = contract_of g

  abbrev span : ℕ
  span = span_in g

  abbrev p : PartsOf g
  p = parts_of a

  -- no contract and no date: both stay
  keep : (c : Command) → contract_in c ≡ [] → date_in c ≡ []
      → Parts k span (g.windows ++ window_in c) (g.instructions ++ instruction_in c) (g.defaults ++ default_in c)
      → Fits (g.windows ++ window_in c) (g.instructions ++ instruction_in c) (g.defaults ++ default_in c) → Readings span (grown g c)
      → Agreed size (grown g c)
  keep c e n q f r =
      let s : span_in (grown g c) ≡ span = span_kept g c e n in
      let dated : g.dates ++ date_in c ≡ g.dates = ap (λ l. g.dates ++ l) n ∙ append-nil g.dates in
      under size k (grown g c) (ap (λ l. g.contracts ++ l) e ∙ append-nil g.contracts ∙ a.contract)
      (rw s q) (rw dated (record { few = a.dates; fits = a.dated })) f (omega (arith, cells_kept g c e n, a.cells)) (subst⁻¹ (λ n. Readings n (grown g c)) s r)

  -- no reading: the readings stay
  read : (c : Command) → ((m : ℕ) → reading_in c m ≡ none) → Readings span (grown g c)
  unfolding later
  read c n m x q = a.readings m x (ap (λ o. later (g.reading m) o) (sym (n m)) ∙ q)

  -- one entry more: the other tables are found as they were, among p's parts
  with_window : (w : Window) → Allowed size g (windowᶜ w) → Agreed size (grown g (windowᶜ w))
  with_window w h =
      let after : ltb w.start.0 (last_end 0 g.windows) ≡ false =
      rw (last_of_lem (λ (w : Window). w.end.0) (record { start = record { 0 = 0 }; end = record { 0 = 0 }; verdict = 0 }) g.windows)
      h.kind.after in
      let one = one_window k span (last_end 0 g.windows) w h.input.operands h.input.shape h.kind.inside h.kind.verdict after in
      let windows = windows-snoc k span 0 g.windows w p.windows one in
      let defaults = defaults_more k span g.windows w g.defaults p.defaults in
      keep (windowᶜ w) refl refl (simp append-nil (let rest = p in search))
      (simp append-nil (omega (arith, fits 128 g.windows w h.kind.room))) (read (windowᶜ w) (λ m. refl))

  with_instruction : (i : Instruction) → Allowed size g (instructionᶜ i) → Agreed size (grown g (instructionᶜ i))
  with_instruction i h =
      let after : ltb i.issue.0 (ready k 0 g.instructions) ≡ false = rw (ready_recovered k g.instructions) h.kind.recovered in
      let one = one_instruction k span (ready k 0 g.instructions) i h.input.operands h.kind.inside h.kind.ceased after in
      let instructions = instructions_snoc k span 0 g.instructions i p.instructions one in
      keep (instructionᶜ i) refl refl (simp append-nil (let rest = p in search))
      (simp append-nil (omega (arith, fits 64 g.instructions i h.kind.room))) (read (instructionᶜ i) (λ m. refl))

  with_default : (d : Default) → Allowed size g (defaultᶜ d) → Agreed size (grown g (defaultᶜ d))
  with_default d h =
      let windowed : Bool = any (λ w. within w d.minute.0) g.windows in
      let one : T (default_sound k span g.windows d) =
      rw (of_T (in_range (defaultᶜ d)) h.input.operands, lt-ltb d.minute.0 span (leb-false span d.minute.0 h.kind.inside))
      (off_not windowed h.kind.windowed) in
      let defaults = all_snoc (default_sound k span g.windows) g.defaults d p.defaults one in
      keep (defaultᶜ d) refl refl (simp append-nil (let rest = p in search))
      (simp append-nil (omega (arith, fits 128 g.defaults d h.kind.room))) (read (defaultᶜ d) (λ m. refl))

  -- a reading of any revision
  with_metered : (n : ℕ) (r : Reading) → T (meterable r) → leb span r.minute.0 ≡ false
      → (m : ℕ) (x : Metered) → later (g.reading m) (cond (eqb r.minute.0 m) (some (record { kw = r.kw.0; revision = n })) none) ≡ some x
      → (m < span) × T (is_reading x.kw)
  unfolding later
  with_metered n r t l m x q =
      let new : Metered = record { kw = r.kw.0; revision = n } in
      either (eqb r.minute.0 m)
      (λ e.
      let same : r.minute.0 ≡ m = eqb-true r.minute.0 m e in
      let range = T_and (from_to 0 most_minute r.minute.0) (is_reading r.kw.0) t in
      let read : new ≡ x = some-injective new x (rw e at q) in
      (omega (arith, leb-false span r.minute.0 l), subst (λ y. T (is_reading y.kw)) read range.1))
      (λ e. a.readings m x (rw e at q))

  with_reading : (r : Reading) → Allowed size g (readingᶜ r) → Agreed size (grown g (readingᶜ r))
  with_reading r h =
      keep (readingᶜ r) refl refl (simp append-nil p) (simp append-nil (omega arith)) (with_metered 0 r h.input.operands h.kind.inside)

  with_revision : (v : Revision) → Allowed size g (revisionᶜ v) → Agreed size (grown g (revisionᶜ v))
  with_revision v h =
      keep (revisionᶜ v) refl refl (simp append-nil p) (simp append-nil (omega arith))
      (with_metered v.number v.reading (T_and (from_to 1 255 v.number) (meterable v.reading) h.input.operands).1 h.kind.inside)

  with_close : Agreed size (grown g closeᶜ)
  with_close = keep closeᶜ refl refl (simp append-nil p) (simp append-nil (omega arith)) (read closeᶜ (λ m. refl))

-- ---- a date under a contract

-- no default is beside no window
no_defaults_lem : (k : Contract) (span : ℕ) (ws : List Window) (ds : List Default) → ws ≡ [] → T (all (default_sound k span ws) ds) → ds ≡ []
unfolding all any
no_defaults_lem k span ws [] e t = refl
no_defaults_lem k span ws (d ∷ ds) e t =
    let here = (T_and (default_sound k span ws d) (all (default_sound k span ws) ds) t).0 in
    let windowed : Bool = any (λ w. within w d.minute.0) ws in
    let held = (T_and (in_range (defaultᶜ d) && ltb d.minute.0 span) windowed here).1 in
    absurd (subst (λ l. T (any (λ w. within w d.minute.0) l)) e held)

-- a list that is not some is none
none_of : {A : Type 0} (l : List A) → not (is_empty l) ≡ false → l ≡ []
unfolding is_empty
none_of [] e = refl
none_of (x ∷ l) e = absurd (true≢false e)

-- what 29 leaves: no date, no window, no instruction, no reading in the span
pub record Bare (g : Ledger) : Type 0 where
  pub dates : g.dates ≡ []
  pub windows : g.windows ≡ []
  pub instructions : g.instructions ≡ []
  pub unread : any (λ m. is_some (g.reading m)) (between 0 (span_in g)) ≡ false

pub bare : (g : Ledger) (d : Date) → date_late g (dateᶜ d) ≡ false → Bare g
bare g d e =
    let dated : Bool = not (is_empty g.dates) in
    let windowed : Bool = not (is_empty g.windows) in
    let called : Bool = not (is_empty g.instructions) in
    let (early, unread) = off_or (dated || windowed || called) (any (λ m. is_some (g.reading m)) (between 0 (span_in g))) e in
    let (tables, calls) = off_or (dated || windowed) called early in
    let (dates, windows) = off_or dated windowed tables in
    record { dates = none_of g.dates dates; windows = none_of g.windows windows; instructions = none_of g.instructions calls; unread = unread }

-- what 30 leaves: the month's days are the contract's
pub dated-days : (g : Ledger) (d : Date) → other_month g (dateᶜ d) ≡ false → 1440 * days_of d.year d.month ≡ span_of (contract_of g)
dated-days g d e =
    let days : Bool = eqb (days_of d.year d.month) (contract_of g).days in
    let same = (off_or (not (eqb d.day 1)) (not days) e).1 in
    ap (λ n. 1440 * n) (eqb→eq (days_of d.year d.month) (contract_of g).days (off_not days same))

module _ {size : ℕ} {g : Ledger} (a : Agreed size g) (d : Date) (h : Allowed size g (dateᶜ d)) where
  abbrev was : Bare g
  was = bare g d h.kind.early

  -- no minute has a reading
  pub no_reading : (m : ℕ) → g.reading m ≡ none
  unfolding is_some
  no_reading m = go (g.reading m) refl
    where
      go : (o : Option Metered) → g.reading m ≡ o → o ≡ none
      go none q = refl
      go (some x) q =
          let here = any_off (λ m. is_some (g.reading m)) 0 (span_in g) was.unread m (omega arith) (a.readings m x q).0 in
          absurd (true≢false (ap is_some (sym q) ∙ here))

  date_fits : T (date_sound (contract_of g) d)
  date_fits =
      let (first, days) = off_or (not (eqb d.day 1)) (not (eqb (days_of d.year d.month) (contract_of g).days)) h.kind.month in
      and_T (is_date d && eqb d.day 1) (eqb (days_of d.year d.month) (contract_of g).days)
      (and_T (is_date d) (eqb d.day 1) (off_not (is_date d) h.input.dated) (off_not (eqb d.day 1) first))
      (off_not (eqb (days_of d.year d.month) (contract_of g).days) days)

  with_date : Agreed size (grown g (dateᶜ d))
  unfolding windows_sound instructions_sound all later
  with_date =
      let k : Contract = contract_of g in
      let p = parts_of a in
      let dates : g.dates ++ (d ∷ []) ≡ d ∷ [] = ap (λ l. l ++ (d ∷ [])) was.dates in
      let ws : g.windows ++ [] ≡ [] = append-nil g.windows ∙ was.windows in
      let is : g.instructions ++ [] ≡ [] = append-nil g.instructions ∙ was.instructions in
      let ds : g.defaults ++ [] ≡ [] = append-nil g.defaults ∙ no_defaults_lem k (span_in g) g.windows g.defaults was.windows p.defaults in
      under size k (grown g (dateᶜ d)) (append-nil g.contracts ∙ a.contract)
      (rw (ws, is, ds)
      (record {
        operands = p.operands;
        ramps = p.ramps;
        windows = tt;
        instructions = tt;
        defaults = tt;
      }))
      (record { few = omega (arith, ap length dates); fits = rw dates (and_T (date_sound k d) true date_fits tt) })
      (record {
        windows = omega (arith, ap length ws);
        instructions = omega (arith, ap length is);
        defaults = omega (arith, ap length ds);
      })
      (omega (
        arith,
        cells_dated g d was.dates,
        le-max_right (cells_in g) (full_span k d),
        ltb-false size (max (cells_in g) (full_span k d)) h.book.memory,
      ))
      (λ m x q. absurd (none-ne-some x (sym (no_reading m) ∙ q)))

-- ---- the contract

with_contract : {size : ℕ} {g : Ledger} (k : Contract) → Untouched g → Allowed size g (contractᶜ k) → Agreed size (grown g (contractᶜ k))
unfolding windows_sound instructions_sound all later
with_contract {size} {g} k u h =
    let dates : g.dates ++ [] ≡ [] = append-nil g.dates ∙ u.dates in
    let ws : g.windows ++ [] ≡ [] = append-nil g.windows ∙ u.windows in
    let is : g.instructions ++ [] ≡ [] = append-nil g.instructions ∙ u.instructions in
    let ds : g.defaults ++ [] ≡ [] = append-nil g.defaults ∙ u.defaults in
    under size k (grown g (contractᶜ k)) (ap (λ l. l ++ (k ∷ [])) u.contracts)
    (rw (ws, is, ds)
    (record {
      operands = h.input.operands;
      ramps = off-T (ramp_too_long (contractᶜ k)) h.input.ramps;
      windows = tt;
      instructions = tt;
      defaults = tt;
    }))
    (record { few = omega (arith, ap length dates); fits = rw dates tt })
    (record {
      windows = omega (arith, ap length ws);
      instructions = omega (arith, ap length is);
      defaults = omega (arith, ap length ds);
    })
    (omega (arith, cells_new g k u.contracts u.dates, ltb-false size (span_of k) h.book.memory))
    (λ m x q. absurd (none-ne-some x (sym (u.readings m) ∙ q)))

-- ---- any command

-- a command that no condition turns down leaves a ledger of the two kinds
pub step : (size : ℕ) (g : Ledger) (c : Command) → Reached size g → refusal false size g c ≡ none → Reached size (grown g c)
step size g c r e = go c (allowed size g c e)
  where
    go : (c : Command) → Allowed size g c → Reached size (grown g c)
    go (contractᶜ k) h = agreed (with_contract k (first_contract k r h) h)
    go (dateᶜ d) h = agreed (with_date (needs_contract (dateᶜ d) refl r h) d h)
    go (windowᶜ w) h = agreed (with_window (needs_contract (windowᶜ w) refl r h) w h)
    go (instructionᶜ i) h = agreed (with_instruction (needs_contract (instructionᶜ i) refl r h) i h)
    go (defaultᶜ d) h = agreed (with_default (needs_contract (defaultᶜ d) refl r h) d h)
    go (readingᶜ x) h = agreed (with_reading (needs_contract (readingᶜ x) refl r h) x h)
    go (revisionᶜ x) h = agreed (with_revision (needs_contract (revisionᶜ x) refl r h) x h)
    go closeᶜ h = agreed (with_close (needs_contract closeᶜ refl r h))

-- ---- any list

-- before the first command
pub start : (size : ℕ) → Reached size (ledger_of [])
unfolding ledger_of concat_map any reading_of
start size = untouched (record { contracts = refl; dates = refl; windows = refl; instructions = refl; defaults = refl; not_closed = refl; readings = λ m. refl })

pub reached : Reached·theorem
unfolding taken
reached size cs =
    taken_ind size (λ t. Reached size (ledger_of t)) (λ t c r e. rw ledger_of-snoc (step size (ledger_of t) c r e)) [] cs (start size)
