-- From a sound book with a contract to what the laws of settling ask, for the book's ledger, its instructions and cells for the span or more.
use mathlib.Core.Path.{◌≡◌, refl, sym, ◌∙◌, ap}
use mathlib.Core.Bool.{Bool, true, false, cond, ◌&&◌}
use mathlib.Core.List.{List}
use mathlib.Core.Option.{none, some}
use Prim.Native.Nat.{ℕ, zero, suc, ◌+◌, ◌-◌, ◌/◌, ◌≤◌, ◌<◌}
use native.Mathlib.Decide.{ℕ_discrete}
use native.Mathlib.Omega.{arith}
use lib.IntN.{ℤ, pos, negsuc}
use lib.ListN.{take, length, get_or}
use lib.Seq.{get_or-take, length-take-le}
use borrow.Author.Tests.{lt-ltb}
use Rattle.energy.specs.Energy.{cell}
use Rattle.energy.specs.Lists.{all, first, is_some, between}
use Rattle.energy.specs.Number.{down, Upto, Within}
use Rattle.energy.proofs.Integers.{le_z_yes}
use Rattle.energy.proofs.Sums.{all_in}
use Rattle.energy.proofs.Tests.{on_and}
use Rattle.commands.proofs.Terms.{reading_within}
use Rattle.rules.specs.Ledger.{Ledger, contract_of, span_in}
use Rattle.commands.specs.Input.{up_minutes, down_minutes, is_reading, most_minute}
use Rattle.rules.specs.Segment.{complete}
use Rattle.rules.specs.Statement.{reads}
use Rattle.commands.specs.declared.contract.Contract.{Contract}
use Rattle.commands.specs.declared.entries.Default.{Default}
use Rattle.commands.specs.declared.entries.Window.{Window}
use Rattle.commands.specs.declared.entries.Instruction.{Instruction}
use Rattle.book_memory.specs.Meter.{missing, cell_reading, Memory, revision_at}
use Rattle.book.specs.Book.{no_window, no_instruction, no_default, book_span, book_cells, ledger_in}
use Rattle.book.specs.Sound.{Shaped, sound}
use Rattle.book.specs.declared.Book.{Book}
use Rattle.settle_terms.specs.declared.Terms.{Terms}
use Rattle.settle_terms.specs.Terms.{terms_of, period_places, issue_of, cease_of}
use Rattle.settle.specs.Prepared.{calls_of}
use Rattle.settle_survey.specs.Survey.{SurveyableAt, has, survey_of, survey_to}
use Rattle.settle_live.specs.Live.{Cleared, Windows, is_live, LiveTable}
use Rattle.settle_availability.specs.Paid.{window_number_of, window_of, Placed, Spans, availability_by}
use Rattle.settle_availability.proofs.Firsts.{spans_first, placed_first, availability_first}
use Rattle.settle_lines.specs.Cursor.{Planned}
use Rattle.book.proofs.Month.{span_cells, span_is as book-span}
use Rattle.rules.proofs.Lists.{get_d_within}
use Rattle.book.proofs.SoundBook.{SoundBook, SoundCall, SoundDefault, sound_book, closed_agreed}
use Rattle.settle.proofs.LedgerTables.{TermsOf, WindowsOf, instruction_at, window_at}
use Rattle.settle.proofs.SurveyRules.{Surveyed, survey_complete}
use Rattle.settle.proofs.LiveTable.{lives, live_at_lem, number_small}
use Rattle.settle.proofs.Availability.{Priced, own_window, Inside, reach_inside}
use Rattle.settle.proofs.CursorLine.{Tied}

-- ---- readings
-- a cell that is tested holds something where the test holds
some_where : {A : Type 0} (v : Bool) (x : A) → is_some (cond v (some x) none) ≡ v
unfolding is_some
some_where true x = refl
some_where false x = refl

within_reading : (x : ℤ) → Within 500000 x → is_reading x ≡ true
within_reading x h = rw (le_z_yes (negsuc 499999) x (omega arith), le_z_yes x (pos 500000) (omega arith)) refl

module _ (t : Terms) (calls : List Instruction) (meter : List ℤ) where
  -- every base and active minute of instruction j has a reading
  abbrev base : ℕ → Bool
  base j = all (has meter) (between (issue_of calls j - 3) (issue_of calls j + 1))

  abbrev active : ℕ → Bool
  active j = all (has meter) (between (issue_of calls j + t.response.0 - t.upminutes.0) (cease_of calls j + t.downminutes.0))

  read_to : (n : ℕ) → (survey_to t calls meter n).complete ≡ true → (j : ℕ) → j < n → (base j ≡ true) × (active j ≡ true)
  unfolding survey_of
  read_to zero e j h = absurd (omega arith)
  read_to (suc n) e j h =
      let (x, y) = on_and (survey_to t calls meter n).complete (base n && active n) e in
      elim (ℕ_discrete j n) [ yes d ↦ rw d (on_and (base n) (active n) y) | no d ↦ read_to n x j (omega (arith, d)) ]

-- what a settlement of book b with its readings stands on
pub record Grounds (b : Book) (readings : Memory) : Type 0 where
  pub sound : SoundBook b
  pub agreed : b.agreed ≡ true
  pub shape : Shaped b
  pub cells : book_cells b ≤ length readings.cells

pub grounds : (b : Book) (readings : Memory) → sound b ≡ true → b.closed ≡ true → Shaped b → book_cells b ≤ length readings.cells → Grounds b readings
grounds b readings s c shape room =
    let agreed : b.agreed ≡ true = closed_agreed b s c in
    record { sound = sound_book b s agreed; agreed = agreed; shape = shape; cells = room }

module _ {b : Book} {readings : Memory} (G : Grounds b readings) where
  abbrev k : Contract
  k = b.contract

  abbrev meter : List ℤ
  meter = readings.cells

  abbrev g : Ledger
  g = ledger_in b readings

  abbrev t : Terms
  t = terms_of k

  abbrev calls : List Instruction
  calls = calls_of b

  abbrev S : SoundBook b
  S = G.sound

  pub contract_is : contract_of g ≡ k
  unfolding contract_of first ledger_in
  contract_is = rw G.agreed refl

  -- what the contract offers is not below 0
  pub kw_upto : Upto 500000 k.contracted.0
  kw_upto = (S.contract.kw.1, ap down S.contract.plain)

  span_is : span_in g ≡ book_span b
  span_is = book-span b readings G.agreed

  span_small : span_in g ≤ most_minute
  span_small = omega (arith, span_is, span_cells b, S.month)

  span_held : span_in g ≤ length meter
  span_held = omega (arith, span_is, span_cells b, G.cells)

  -- ---- the tables
  counts : (b.nwindows ≡ length g.windows) × (b.ninstructions ≡ length g.instructions) × (b.ndefaults ≡ length g.defaults)
  unfolding ledger_in
  counts = (
    sym (length-take-le b.nwindows b.windows (omega (arith, S.counts.0, G.shape.windows))),
    sym (length-take-le b.ninstructions b.instructions (omega (arith, S.counts.1, G.shape.instructions))),
    sym (length-take-le b.ndefaults b.defaults (omega (arith, S.counts.2, G.shape.defaults))),
  )

  long : length calls ≡ b.ninstructions
  long = length-take-le b.ninstructions b.instructions (omega (arith, S.counts.1, G.shape.instructions))

  call_sound : (j : ℕ) → j < length calls → SoundCall k (book_span b) (instruction_at g j)
  unfolding ledger_in
  call_sound j h = S.calls.call j (omega (arith, counts, long))

  default-sound : (j : ℕ) → j < b.ndefaults → SoundDefault k (book_span b) (get_or g.defaults j no_default)
  unfolding ledger_in
  default-sound j h = S.defaults j (omega (arith, counts))

  terms : TermsOf g t calls
  unfolding terms_of ledger_in
  terms =
      let r : (contract_of g).response.0 ≡ k.response.0 = ap (λ (c : Contract). c.response.0) contract_is in
      let u : up_minutes (contract_of g) ≡ up_minutes k = ap up_minutes contract_is in
      let d : down_minutes (contract_of g) ≡ down_minutes k = ap down_minutes contract_is in
      record {
        response = sym r;
        count = refl;
        each = λ j h.
            let q = call_sound j h in
            omega (arith, span_is);
      }

  pub windows : WindowsOf g b.windows b.nwindows
  unfolding ledger_in
  windows =
      record {
        few = S.counts.0;
        count = counts.0;
        window = λ i h. sym (get_or-take b.nwindows b.windows i no_window h);
        each = λ i h. rw span_is (S.windows.window i (omega (arith, counts)));
        apart = λ i j l h. S.windows.apart i j l (omega (arith, counts));
      }

  reading_is : (m : ℕ) → m < span_in g → g.reading m ≡ cell_reading (cell meter m) (revision_at readings m)
  unfolding ledger_in
  reading_is m h = rw (lt-ltb m (book_span b) (omega (arith, span_is)), get_d_within meter m missing (pos 0) (omega (arith, span_held))) refl

  -- ---- the survey
  laid_at : (j : ℕ) → j < length calls → SurveyableAt t meter (get_or calls j no_instruction)
  unfolding terms_of
  laid_at j h = omega (arith, terms.each j h, (call_sound j h).three, span_held, span_small)

  pub surveyed : Surveyed g t calls meter
  unfolding terms_of
  surveyed =
      record {
        laid =
            record {
              terms = record { response = S.contract.response.1; ramp = S.contract.ramp_start.1; some = S.contract.ramp_start.0 };
              few = omega (arith, S.counts.1, long);
              each = laid_at;
            };
        terms = terms;
        reading = λ m h. rw (reading_is m h) (some_where (has meter m) _);
      }

  -- ---- live windows
  pub cleared : Cleared calls t k.recovery.0
  unfolding terms_of
  cleared =
      record {
        few = omega (arith, S.counts.1, long);
        near = omega (arith, S.contract.recovery, S.contract.response);
        small = λ j h. omega (arith, terms.each j h, span_small);
      }

  pub windows-fit : Windows b.windows b.nwindows period_places
  windows-fit =
      record {
        few = S.counts.0;
        order = λ i h. rw (windows.window i h) (omega (arith, windows.each i h));
        inside = λ i h. rw (windows.window i h) (omega (arith, windows.each i h, span_small));
      }

  pub spans : Spans b.windows b.nwindows
  spans =
      record {
        few = S.counts.0;
        order = λ i h. rw (windows.window i h) (windows.each i h).order;
        inside = λ i h. rw (windows.window i h) (omega (arith, windows.each i h, span_small));
      }

  module _ {live : List ℕ} (size : length live ≡ period_places) (L : LiveTable (is_live calls t k.recovery.0) b.windows b.nwindows live) where
    pub priced : Priced g live b.windows b.nwindows b.defaults b.ndefaults
    unfolding ledger_in
    priced =
        record {
          windows = windows;
          numbers = lives terms (sym (ap (λ (c : Contract). c.recovery.0) contract_is)) windows L;
          count = counts.2;
          default = λ j h. sym (get_or-take b.ndefaults b.defaults j no_default h);
          kind = λ j h. (default-sound j h).kind.0;
          reach = λ j h. (default-sound j h).reach;
        }

    -- a default's window is one of the book's
    pub numbered : (j : ℕ) → window_number_of live (get_or b.defaults j no_default) ≤ b.nwindows
    numbered j =
        let p : ℕ = (get_or b.defaults j no_default).minute.0 / 30 in
        omega (arith, L.period p, number_small (is_live calls t k.recovery.0) b.windows b.nwindows p)

    -- a default of the book marks inside the tables
    pub placed : (j : ℕ) → j < b.ndefaults → Placed live b.windows period_places (get_or b.defaults j no_default)
    placed j h =
        let x : Default = get_or b.defaults j no_default in
        let m : x.minute.0 < book_span b = rw (priced.default j h) (default-sound j h).inside in
        record {
          inside = omega (arith, size, span_is, span_small);
          number = omega (arith, numbered j, S.counts.0, G.shape.windows);
          order = λ l. (reaches x l).0.order;
          room = λ l. omega (arith, reaches x l);
        }
      where
        reaches : (x : Default) → 0 < window_number_of live x → Inside (window_of live b.windows x) x × ((window_of live b.windows x).end.0 ≤ most_minute)
        reaches x l =
            let i : ℕ = window_number_of live x - 1 in
            let o = own_window priced x i (omega arith) in
            rw o.window (reach_inside (window_at g i) x o.has, omega (arith, windows.each i o.below, span_small))

    -- of the windows and defaults that there are, availability is that of the book's arrays
    abbrev windows_there : List Window
    windows_there = take b.nwindows b.windows

    abbrev defaults_there : List Default
    defaults_there = take b.ndefaults b.defaults

    few : b.nwindows ≤ length b.windows
    few = omega (arith, S.counts.0, G.shape.windows)

    room : b.ndefaults ≤ length b.defaults
    room = omega (arith, S.counts.2, G.shape.defaults)

    placed_there : (j : ℕ) → j < length defaults_there → Placed live windows_there period_places (get_or defaults_there j no_default)
    placed_there j h =
        let l : j < b.ndefaults = omega (arith, length-take-le b.ndefaults b.defaults room) in
        rw (get_or-take b.ndefaults b.defaults j no_default l) (placed_first live b.windows b.nwindows few (get_or b.defaults j no_default) (numbered j) (placed j l))

    pub available : Spans windows_there (length windows_there) × (length windows_there ≤ length windows_there) × (length windows_there ≤ 128)
        × (length live ≡ period_places)
        × ((j : ℕ) → j < length defaults_there → Placed live windows_there period_places (get_or defaults_there j no_default))
    available = let s = spans_first live b.windows b.nwindows few spans in (s, omega arith, s.few, size, placed_there)

    pub available_same : (kw rate : ℕ)
        → availability_by live windows_there (length windows_there) defaults_there (length defaults_there) kw rate
        ≡ availability_by live b.windows b.nwindows b.defaults b.ndefaults kw rate
    available_same kw rate = availability_first live b.windows b.nwindows few b.defaults b.ndefaults (λ j h. numbered j) kw rate room

    -- ---- the plan
    module _ (e : complete g ≡ true) where
      planned : (j : ℕ) → j < length calls → Planned t calls live meter j
      unfolding terms_of
      planned j h =
          let q = laid_at j h in
          let r = read_to t calls meter (length calls) (survey_complete surveyed ∙ e) j h in
          record {
            ramp = S.contract.ramp_start;
            three = q.three;
            steady = q.steady;
            inside = q.inside;
            periods = omega (arith, q.small, size);
            base = λ m x y. reading_within (cell meter m) (all_in (has meter) _ _ r.0 m x y);
            read = λ m x y. reading_within (cell meter m) (all_in (has meter) _ _ r.1 m x y);
          }

      in_order : (j : ℕ) → j + 1 < length calls → cease_of calls j + t.downminutes.0 ≤ issue_of calls (j + 1)
      unfolding terms_of ledger_in
      in_order j h =
          omega (arith, S.calls.order j (omega (arith, counts, long)), (terms.each j (omega arith)).cease, (terms.each (j + 1) h).issue)

      pub tied : Tied g t calls live meter
      unfolding terms_of reads
      tied =
          record {
            plan =
                record {
                  kw = kw_upto;
                  utilisation = S.contract.utilisation;
                  optional = S.contract.optional;
                  response = S.contract.response.1;
                  down = S.contract.fall;
                  few = omega (arith, S.counts.1, long);
                  fits = omega (arith, size);
                  each = planned;
                  order = in_order;
                };
            terms = terms;
            kw = sym (ap (λ (c : Contract). c.contracted) contract_is);
            kind = sym (ap (λ (c : Contract). c.kind) contract_is);
            utilisation = sym (ap (λ (c : Contract). c.utilisation) contract_is);
            optional = sym (ap (λ (c : Contract). c.optional) contract_is);
            periods = live_at_lem windows priced.numbers;
            reading = λ m h w. rw (reading_is m h, within_reading (cell meter m) w) refl;
          }
