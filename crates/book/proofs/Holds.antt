-- What book and lent memory hold after a taken command is put into them, a law a field: the ledger grown by that command.
use mathlib.Core.Path.{◌≡◌, refl, sym, ◌∙◌}
use mathlib.Core.Bool.{Bool, true, false, cond, not, ◌&&◌, ◌||◌, or-false, or-true, true≢false}
use mathlib.Core.List.{List, [], ◌∷◌, ◌++◌, append-nil}
use mathlib.Core.Option.{Option, none, some}
use Prim.Native.Nat.{ℕ, suc, ◌+◌, ◌-◌, ◌*◌, ◌≤◌, ◌<◌}
use native.Mathlib.Omega.{arith}
use native.Mathlib.Numerals.{add-one}
use borrow.Author.Tests.{ltb-true, lt-ltb, eqb-true, eqb-false}
use lib.Dec.{T, leb, leb-suc-zero, ltb, eqb}
use lib.ListN.{length, take, drop, set, get_or, replicate, length-set, length-replicate, get_or-append, get_or-replicate}
use lib.Seq.{drop-cons, drop-set-lt, take-suc-set, get_or-set_same, get_or-set_other}
use Rattle.energy.specs.Lists.{all, is_empty, is_some, later}
use Rattle.energy.proofs.Sums.{any_off}
use Rattle.calendar.specs.Calendar.{days_of, is_date, gained_in, lost_in}
use Rattle.calendar.specs.declared.Date.{Date}
use Rattle.calendar.proofs.Months.{date_some}
use Rattle.energy.proofs.Tests.{of_T, T_and, off_not, either}
use Rattle.commands.specs.Command.{always}
use Rattle.commands.specs.Input.{is_reading, from_to, meterable}
use Rattle.commands.specs.declared.contract.Contract.{Contract}
use Rattle.commands.specs.declared.entries.Reading.{Reading}
use Rattle.commands.specs.declared.entries.Command.{Command}
use Rattle.commands.specs.declared.entries.Command.TheVariants.{Contract as contractᶜ, Date as dateᶜ, Window as windowᶜ, Instruction as instructionᶜ}
use Rattle.commands.specs.declared.entries.Command.TheVariants.{Default as defaultᶜ, Reading as readingᶜ, Revision as revisionᶜ}
use Rattle.commands.specs.declared.entries.Command.TheVariants.{Close as closeᶜ}
use Rattle.commands.proofs.Chain.{true_or_false}
use Rattle.commands.proofs.ByKind.{contract_or_not, date_or_not, window_or_not, instruction_or_not, default_or_not, close_or_not}
use Rattle.rules.specs.Ledger.{Ledger, is_contract, contract_in, date_in, window_in, instruction_in, default_in, is_close, reading_in}
use Rattle.rules.specs.Ledger.{span_of, full_span, span_in}
use Rattle.rules.proofs.Taken.{grown, Allowed}
use Rattle.rules.proofs.Reached.{bare, dated-days}
use Rattle.book_memory.specs.Meter.{put_meter, missing, metered_at, marked_to, written_at, Memory, room_in}
use Rattle.book_memory.proofs.Lengths.{room_cells, room_holds}
use Rattle.book_memory.proofs.MarkedHour.{marked-unread}
use Rattle.book_sound.specs.Unused.{is_no_window, is_no_instruction, is_no_default}
use Rattle.book_sound.proofs.Tables.{has_room}
use Rattle.book.specs.Book.{book_span, book_cells, dates_in, ledger_in, put_book}
use Rattle.book.specs.Sound.{sound, Shaped}
use Rattle.book.specs.declared.Book.{Book}
use Rattle.book.proofs.SoundTests.{Tables, Table, windows-table, instructions_table, defaults_table, sound-parts, sound_empty, contract_is}
use Rattle.book.proofs.Month.{undated_span_lem, span_cells, span_is, span_empty, span_undated, own_span, reading_fits}

-- ---- a book with a contract or without

-- a contract has been taken before every other command, and before no contract
only_one : (s f : Bool) (k : Contract) → (is_empty (cond s (k ∷ []) []) && not f) ≡ false
    → (not (is_empty (cond s (k ∷ []) [])) && f) ≡ false → s ≡ not f
unfolding is_empty
only_one true true k e o = absurd (true≢false o)
only_one true false k e o = refl
only_one false true k e o = refl
only_one false false k e o = absurd (true≢false e)

pub agreed_before : (b : Book) (meter : Memory) (c : Command) {size : ℕ} → Allowed size (ledger_in b meter) c → b.agreed ≡ not (is_contract c)
unfolding ledger_in
agreed_before b meter c a = only_one b.agreed (is_contract c) b.contract a.book.agreed a.book.only

-- ---- a table

-- a table with these entries more
pub record Grown {A : Type 0} (none : A → Bool) (most : ℕ) (l : List A) (n : ℕ) (l' : List A) (n' : ℕ) (more : List A) : Type 0 where
  pub table : Table none most l' n'
  pub held : take n' l' ≡ take n l ++ more

module _ {A : Type 0} {none : A → Bool} {most : ℕ} {l : List A} {n : ℕ} (t : Table none most l n) where
  one_more : (a : A) → leb most (length (take n l)) ≡ false → Grown none most l n (set l n a) (n + 1) (a ∷ [])
  one_more a f =
      let place : n < most = has_room l n most t.size t.within f in
      let seen : T (none (get_or l n a) && all none (drop (suc n) l)) = unfold all in rw (drop-cons l n a (omega (arith, t.size))) at t.rest in
      record {
        table =
            record {
              within = omega arith;
              rest = rw (add-one, drop-set-lt (suc n) l n a (omega arith)) (T_and (none (get_or l n a)) (all none (drop (suc n) l)) seen).1;
              size = length-set l n a ∙ t.size;
            };
        held = rw add-one (take-suc-set l n a (omega (arith, t.size)));
      }

  as_before : {l' : List A} {n' : ℕ} {more : List A} → l' ≡ l → n' ≡ n → more ≡ [] → Grown none most l n l' n' more
  as_before e f q = rw (e, f, q) (record { table = t; held = sym (append-nil (take n l)) })

-- ---- readings

-- what is not some is none
not_some : {A : Type 0} (o : Option A) → is_some o ≡ false → o ≡ none
unfolding is_some
not_some none e = refl
not_some (some x) e = absurd (true≢false e)

module _ (b : Book) (meter : Memory) where
  -- an empty span has no minute
  pub none_below : (m : ℕ) → book_span b ≡ 0 → (ledger_in b meter).reading m ≡ none
  unfolding ledger_in
  none_below m e = rw (e, leb-suc-zero m)

  -- marked cells give no reading
  marked : (n m : ℕ) → cond (ltb m n) (metered_at (marked_to n meter) m) none ≡ none
  marked n m =
      true_or_false (ltb m n)
      (λ e.
      let h : m < n = ltb-true m n e in
      let h' : m < length (replicate n missing) = omega (arith, length-replicate n missing) in
      rw (e, get_or-append (replicate n missing) (drop n meter.cells) missing m h', get_or-replicate n m missing missing h))
      (λ e. rw e)

  -- a reading in a minute of the span gives that minute its kW and its revision, and leaves every other minute
  reading_at_lem : (n : ℕ) (r : Reading) → r.minute.0 < book_span b → book_span b ≤ room_in meter → T (is_reading r.kw.0) → (m : ℕ)
      → (ledger_in b (written_at r.minute.0 r.kw.0 n meter)).reading m
      ≡ later ((ledger_in b meter).reading m) (cond (eqb r.minute.0 m) (some (record { kw = r.kw.0; revision = n })) none)
  unfolding ledger_in book_span later
  reading_at_lem n r h k ok m =
      true_or_false (eqb r.minute.0 m)
      (λ e.
      let q : r.minute.0 ≡ m = eqb-true r.minute.0 m e in
      let held = room_holds meter r.minute.0 (omega arith) in
      let cell = get_or-set_same meter.cells r.minute.0 r.kw.0 missing held.0 in
      let byte = get_or-set_same meter.revisions r.minute.0 n 0 held.1 in
      rw (e, ← q, lt-ltb r.minute.0 (book_span b) h, cell, byte, of_T (is_reading r.kw.0) ok))
      (λ e.
      let other : m ≡ r.minute.0 → ⊥ = λ q. eqb-false r.minute.0 m e (sym q) in
      rw (e, get_or-set_other meter.cells r.minute.0 m r.kw.0 missing other, get_or-set_other meter.revisions r.minute.0 m n 0 other))

-- ---- a taken command, put into a sound book that memory has the cells for

module _ (size : ℕ) (b : Book) (meter : Memory) (e : sound b ≡ true) (shaped : Shaped b) (fits : b.agreed ≡ true → book_cells b ≤ room_in meter) where
  abbrev g : Ledger
  g = ledger_in b meter

  tables : Tables b
  tables = (sound-parts b e).tables

  contracts_held : (c : Command) → Allowed size g c → cond (put_book b c).agreed ((put_book b c).contract ∷ []) [] ≡ g.contracts ++ contract_in c
  unfolding ledger_in
  contracts_held =
      contract_or_not _ (λ k a. rw (agreed_before b meter (contractᶜ k) a))
      (λ c o a. rw (o _ (λ k. true) (always b.agreed), o _ (λ k. k) (always b.contract), o _ (λ k. k ∷ []) (always []), append-nil))

  dates_held : (c : Command) → Allowed size g c → dates_in (put_book b c) ≡ g.dates ++ date_in c
  unfolding ledger_in
  dates_held =
      date_or_not _
      (λ d a. rw ((bare g d a.kind.early).dates, date_some d (off_not (is_date d) a.input.dated)))
      (λ c o a. rw (o _ (λ d. d) (always b.date), o _ (λ d. d ∷ []) (always []), append-nil))

  pub windows_grow : (c : Command) → Allowed size g c
      → Grown is_no_window 128 b.windows b.nwindows (put_book b c).windows (put_book b c).nwindows (window_in c)
  unfolding ledger_in
  windows_grow =
      let was = windows-table b tables shaped in
      window_or_not _ (λ w a. one_more was w a.kind.room) (λ c o a. as_before was (o _ _ (always _)) (o _ _ (always _)) (o _ _ (always _)))

  pub instructions_grow : (c : Command) → Allowed size g c
      → Grown is_no_instruction 64 b.instructions b.ninstructions (put_book b c).instructions (put_book b c).ninstructions (instruction_in c)
  unfolding ledger_in
  instructions_grow =
      let was = instructions_table b tables shaped in
      instruction_or_not _ (λ i a. one_more was i a.kind.room) (λ c o a. as_before was (o _ _ (always _)) (o _ _ (always _)) (o _ _ (always _)))

  pub defaults_grow : (c : Command) → Allowed size g c
      → Grown is_no_default 128 b.defaults b.ndefaults (put_book b c).defaults (put_book b c).ndefaults (default_in c)
  unfolding ledger_in
  defaults_grow =
      let was = defaults_table b tables shaped in
      default_or_not _ (λ d a. one_more was d a.kind.room) (λ c o a. as_before was (o _ _ (always _)) (o _ _ (always _)) (o _ _ (always _)))

  closed_held : (c : Command) → (put_book b c).closed ≡ (b.closed || is_close c)
  closed_held =
      close_or_not _ (sym (or-true b.closed))
      (λ c o. rw (o _ (λ u. true) (always b.closed), o _ (λ u. true) (always false), or-false))

  -- before a date no minute has a reading
  was_unread : (d : Date) → Allowed size g (dateᶜ d) → (m : ℕ) → g.reading m ≡ none
  was_unread d a m =
      let s : b.agreed ≡ true = agreed_before b meter (dateᶜ d) a in
      either (ltb m (book_span b))
      (λ e.
      let off = any_off (λ m. is_some (g.reading m)) 0 (span_in g) (bare g d a.kind.early).unread m (omega arith)
      (omega (arith, ltb-true m (book_span b) e, span_is b meter s)) in
      not_some (g.reading m) off)
      (λ e. unfold ledger_in in rw e)

  -- the date that a month has is the first, and its days are the contract's
  undated : (d : Date) → Allowed size g (dateᶜ d) → (book_span b ≡ span_of b.contract) × (1440 * days_of d.year d.month ≡ span_of b.contract)
  undated d a =
      let s : b.agreed ≡ true = agreed_before b meter (dateᶜ d) a in
      (span_undated b meter (bare g d a.kind.early).dates, rw (contract_is b meter s) at (dated-days g d a.kind.month))

  -- and after it none has one: those of the days are as they were, and the hour after them is marked
  dated-unread : (d : Date) → Allowed size g (dateᶜ d) → (m : ℕ) → (ledger_in (put_book b (dateᶜ d)) (put_meter meter (dateᶜ d))).reading m ≡ none
  unfolding ledger_in book_span
  dated-unread d a m =
      let s : b.agreed ≡ true = agreed_before b meter (dateᶜ d) a in
      let days : ℕ = 1440 * days_of d.year d.month in
      let (before, same) = undated d a in
      let room = room_cells meter in
      either (ltb m (full_span b.contract d - lost_in d.month))
      (λ e.
      rw e
      (marked-unread meter days (gained_in d.month) m (omega (arith, fits s, own_span b))
      (λ l. let here = was_unread d a m in rw (lt-ltb m (book_span b) (omega arith)) at here)
      (omega (arith, ltb-true m (full_span b.contract d - lost_in d.month) e))))
      (λ e. rw e)

  readings_held : (c : Command) → Allowed size g c → (m : ℕ) → (ledger_in (put_book b c) (put_meter meter c)).reading m ≡ later (g.reading m) (reading_in c m)
  unfolding ledger_in book_span later
  readings_held (contractᶜ k) a m =
      let undated = (sound_empty b e (agreed_before b meter (contractᶜ k) a)).date in
      (rw (undated_span_lem k b.date undated) (marked b meter (span_of k) m))
      ∙ sym (none_below b meter m (span_empty b e (agreed_before b meter (contractᶜ k) a)))
  readings_held (dateᶜ d) a m = dated-unread d a m ∙ sym (was_unread d a m)
  readings_held (windowᶜ w) a m = refl
  readings_held (instructionᶜ i) a m = refl
  readings_held (defaultᶜ d) a m = refl
  readings_held (readingᶜ r) a m =
      let s : b.agreed ≡ true = agreed_before b meter (readingᶜ r) a in
      let f = reading_fits b meter r s a.input.operands a.kind.inside in
      reading_at_lem b meter 0 r f.0 (omega (arith, fits s, span_cells b)) f.1 m
  readings_held (revisionᶜ v) a m =
      let s : b.agreed ≡ true = agreed_before b meter (revisionᶜ v) a in
      let f = reading_fits b meter v.reading s (T_and (from_to 1 255 v.number) (meterable v.reading) a.input.operands).1 a.kind.inside in
      reading_at_lem b meter v.number v.reading f.0 (omega (arith, fits s, span_cells b)) f.1 m
  readings_held closeᶜ a m = refl

  pub holds : (c : Command) → Allowed size g c → ledger_in (put_book b c) (put_meter meter c) ≡ grown g c
  unfolding ledger_in
  holds c a i =
      record {
        contracts = contracts_held c a i;
        dates = dates_held c a i;
        windows = (windows_grow c a).held i;
        instructions = (instructions_grow c a).held i;
        defaults = (defaults_grow c a).held i;
        closed = closed_held c i;
        reading = λ m. readings_held c a m i;
      }
