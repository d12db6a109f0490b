-- Commands that are all taken one after the other, and what they leave: in general, and for the date and the tables under a contract.
use mathlib.Core.Path.{◌≡◌, refl, sym, ap, ◌∙◌, subst}
use mathlib.Core.Bool.{Bool, true, false, not, ◌&&◌, ◌||◌}
use mathlib.Core.List.{List, [], ◌∷◌, ◌++◌, map, append-nil}
use mathlib.Core.Option.{Option, none, some}
use Prim.Native.Nat.{ℕ, ◌+◌, ◌≤◌, ◌<◌, max}
use native.Mathlib.Nat.{max-eq_right}
use native.Mathlib.Omega.{arith}
use borrow.Author.Tests.{le-ltb, lt-leb}
use lib.Dec.{T, eqb, ltb, leb→le, ltb→lt}
use lib.ListN.{length, length-append}
use lib.Seq.{append_snoc}
use Rattle.energy.specs.Lists.{all, any, between, concat_map, first, is_empty, is_some, later}
use Rattle.energy.proofs.Sums.{any_none}
use Rattle.calendar.specs.Calendar.{is_date, days_of, gained_in}
use Rattle.calendar.specs.declared.Date.{Date}
use Rattle.energy.proofs.Tests.{T_and, and_T, of_T}
use Rattle.commands.specs.Input.{first_met, in_range, ramp_too_long, bad_window}
use Rattle.rules.specs.Ledger.{Ledger, Metered, ledger_of, contract_of, date_of, span_of, full_span, span_in, cells_in, expiry, end_of, within, reading_of}
use Rattle.rules.specs.Refusal.{conditions, refusal, joined, taken_after}
use Rattle.rules.specs.Reached.{date_sound, windows_sound, instructions_sound, default_sound}
use Rattle.commands.specs.declared.contract.Contract.{Contract}
use Rattle.commands.specs.declared.entries.Window.{Window}
use Rattle.commands.specs.declared.entries.Instruction.{Instruction}
use Rattle.commands.specs.declared.entries.Default.{Default}
use Rattle.commands.specs.declared.entries.Command.{Command}
use Rattle.commands.specs.declared.entries.Command.TheVariants.{Contract as contractᶜ, Date as dateᶜ, Window as windowᶜ}
use Rattle.commands.specs.declared.entries.Command.TheVariants.{Instruction as instructionᶜ, Default as defaultᶜ}
use Rattle.commands.proofs.Chain.{chain, apart, not_on}
use Rattle.rules.proofs.Taken.{grown, ledger_of-snoc}
use Rattle.rules.proofs.Span.{span_same, cells_same}
use Rattle.rules.proofs.Tables.{window_tests, instruction_tests, last_of, last_of_lem, last_snoc, last_end, ready, ready_recovered}

-- ---- commands that are all taken

-- each command is taken after those before it
unfoldable pub Accepted : ℕ → Ledger → List Command → Type 0
Accepted size g [] = Unit {0}
Accepted size g (c ∷ cs) = (refusal false size g c ≡ none) × Accepted size (grown g c) cs

-- taken after t, whose ledger that is, they join it, and what follows them is taken after both
pub taken-first : (size : ℕ) (t xs cs : List Command) → Accepted size (ledger_of t) xs → taken_after size t (xs ++ cs) ≡ taken_after size (t ++ xs) cs
unfolding Accepted taken_after
taken-first size t [] cs h = ap (λ l. taken_after size l cs) (sym (append-nil t))
taken-first size t (c ∷ xs) cs h =
    ap (λ r. taken_after size (joined r t c) (xs ++ cs)) h.0
    ∙ taken-first size (t ++ (c ∷ [])) xs cs (rw ledger_of-snoc h.1)
    ∙ ap (λ l. taken_after size l cs) (append_snoc t c xs)

-- so they all join it
pub all-taken : (size : ℕ) (t cs : List Command) → Accepted size (ledger_of t) cs → taken_after size t cs ≡ t ++ cs
unfolding taken_after
all-taken size t cs h = ap (taken_after size t) (sym (append-nil cs)) ∙ taken-first size t cs [] h

-- what they leave
unfoldable pub grown_all : Ledger → List Command → Ledger
grown_all g [] = g
grown_all g (c ∷ cs) = grown_all (grown g c) cs

-- it is the ledger of t and them
pub ledger_grown : (t cs : List Command) → ledger_of (t ++ cs) ≡ grown_all (ledger_of t) cs
unfolding grown_all
ledger_grown t [] = ap ledger_of (append-nil t)
ledger_grown t (c ∷ cs) = ap ledger_of (sym (append_snoc t c cs)) ∙ ledger_grown (t ++ (c ∷ [])) cs ∙ ap (λ g. grown_all g cs) (ledger_of-snoc t c)

-- commands that are all taken from g and leave h
pub record Replays (size : ℕ) (g : Ledger) (cs : List Command) (h : Ledger) : Type 0 where
  pub accepted : Accepted size g cs
  pub leaves : grown_all g cs ≡ h

pub replay_none : {size : ℕ} {g h : Ledger} → g ≡ h → Replays size g [] h
unfolding Accepted grown_all
replay_none e = record { accepted = tt; leaves = e }

pub replay_cons : {size : ℕ} {g h j : Ledger} {c : Command} {cs : List Command} → refusal false size g c ≡ none → grown g c ≡ h → Replays size h cs j
    → Replays size g (c ∷ cs) j
unfolding Accepted grown_all
replay_cons {size} {cs = cs} taken e r =
    record { accepted = (taken, subst (λ x. Accepted size x cs) (sym e) r.accepted); leaves = ap (λ x. grown_all x cs) e ∙ r.leaves }

pub replay_append : {size : ℕ} {g h j : Ledger} {xs ys : List Command} → Replays size g xs h → Replays size h ys j → Replays size g (xs ++ ys) j
unfolding Accepted grown_all
replay_append {size} {g} {h} {j} {xs} {ys} p q = go g xs p.accepted p.leaves
  where
    go : (g : Ledger) (xs : List Command) → Accepted size g xs → grown_all g xs ≡ h → Replays size g (xs ++ ys) j
    go g [] a e = subst (λ x. Replays size x ys j) (sym e) q
    go g (x ∷ xs) a e = replay_cons a.0 refl (go (grown g x) xs a.1 e)

-- ---- a table

-- entries of a kind that each go to the end of their table, where it has room and what comes next could be taken after what it holds
module _ {A : Type 0} (size room : ℕ) (command : A → Command) (holding : List A → Ledger) (Next : List A → List A → Type 0)
    (grows : (xs : List A) (x : A) → grown (holding xs) (command x) ≡ holding (xs ++ (x ∷ [])))
    (takes : (xs : List A) (x : A) (rest : List A) → Next xs (x ∷ rest) → length xs < room
    → (refusal false size (holding xs) (command x) ≡ none) × Next (xs ++ (x ∷ [])) rest) where
  table_replay : (xs rest : List A) → Next xs rest → length xs + length rest ≤ room → Replays size (holding xs) (map command rest) (holding (xs ++ rest))
  table_replay xs [] n l = replay_none (ap holding (sym (append-nil xs)))
  table_replay xs (x ∷ rest) n l =
      let t = takes xs x rest n (omega arith) in
      replay_cons t.0 (grows xs x)
      (subst (λ ys. Replays size (holding (xs ++ (x ∷ []))) (map command rest) (holding ys)) (append_snoc xs x rest)
      (table_replay (xs ++ (x ∷ [])) rest t.1 (omega (arith, length-append xs (x ∷ [])))))

-- ---- under a contract

-- what has been entered under a contract with these dates
abbrev pub held : Contract → List Date → List Window → List Instruction → List Default → Bool → (ℕ → Option Metered) → Ledger
held k dates ws is ds z f = record { contracts = k ∷ []; dates = dates; windows = ws; instructions = is; defaults = ds; closed = z; reading = f }

-- no reading in any minute
abbrev pub unread : ℕ → Option Metered
unread m = none

-- a contract with these dates alone
abbrev pub agreed_on : Contract → List Date → Ledger
agreed_on k dates = held k dates [] [] [] false unread

-- ---- the contract

module _ (size : ℕ) (k : Contract) (fit : span_of k ≤ size) where
  contract_taken : T (in_range (contractᶜ k)) → T (not (ramp_too_long (contractᶜ k))) → refusal false size (ledger_of []) (contractᶜ k) ≡ none
  unfolding refusal conditions first_met is_empty ledger_of concat_map any
  contract_taken t s = rw (of_T (in_range (contractᶜ k)) t, not_on (ramp_too_long (contractᶜ k)) s, le-ltb size (span_of k) fit)

  -- the contract of an untouched ledger
  pub contract_replay : T (in_range (contractᶜ k)) → T (not (ramp_too_long (contractᶜ k)))
      → Replays size (ledger_of []) (contractᶜ k ∷ []) (agreed_on k [])
  unfolding ledger_of concat_map any reading_of later
  contract_replay t s = replay_cons (contract_taken t s) refl (replay_none refl)

-- ---- the date

-- no minute of an unread span has a reading
all-unread : (span : ℕ) → any (λ m. is_some (unread m)) (between 0 span) ≡ false
unfolding is_some
all-unread span = any_none (λ m. is_some (unread m)) 0 span (λ m h l. refl)

-- a contract alone asks for its own cells
alone_cells : (k : Contract) → cells_in (agreed_on k []) ≡ span_of k
unfolding cells_in contract_of date_of first gained_in
alone_cells k = omega arith

-- what is asked of a date under a contract alone is what the contract asks with it
dated_cells : (k : Contract) (d : Date) → max (cells_in (agreed_on k [])) (full_span k d) ≡ cells_in (agreed_on k (d ∷ []))
unfolding cells_in contract_of date_of first
dated_cells k d = max-eq_right (omega (arith, alone_cells k))

module _ (size : ℕ) (k : Contract) (d : Date) (fit : cells_in (agreed_on k (d ∷ [])) ≤ size) where
  pub date_taken : T (date_sound k d) → refusal false size (agreed_on k []) (dateᶜ d) ≡ none
  unfolding refusal conditions first_met contract_of first is_empty
  date_taken t =
      let p = apart (is_date d) (eqb d.day 1 ∷ eqb (days_of d.year d.month) k.days ∷ []) t in
      rw (
        of_T (is_date d) p.0,
        dated_cells k d,
        le-ltb size (cells_in (agreed_on k (d ∷ []))) fit,
        all-unread (span_in (agreed_on k [])),
        of_T (eqb d.day 1) p.1.0,
        of_T (eqb (days_of d.year d.month) k.days) p.1.1.0,
      )

  -- one of another month, or of another day, gets 30
  pub date_other : T (is_date d) → (not (eqb d.day 1) || not (eqb (days_of d.year d.month) k.days)) ≡ true
      → refusal false size (agreed_on k []) (dateᶜ d) ≡ some 30
  unfolding refusal conditions first_met contract_of first is_empty
  date_other t e =
      rw (of_T (is_date d) t, dated_cells k d, le-ltb size (cells_in (agreed_on k (d ∷ []))) fit, all-unread (span_in (agreed_on k [])), e)

-- the dates of a contract alone: none, or one that is sound
pub dates_replay : (size : ℕ) (k : Contract) (dates : List Date) → length dates ≤ 1 → T (all (date_sound k) dates) → cells_in (agreed_on k dates) ≤ size
    → Replays size (agreed_on k []) (map dateᶜ dates) (agreed_on k dates)
unfolding all later
dates_replay size k [] l t h = replay_none refl
dates_replay size k (d ∷ []) l t h = replay_cons (date_taken size k d h (T_and (date_sound k d) true t).0) refl (replay_none refl)
dates_replay size k (d ∷ e ∷ dates) l t h = absurd (omega arith)

-- a contract and a date that could be entered under it
pub month-taken : (size : ℕ) (k : Contract) (d : Date) → T (in_range (contractᶜ k)) → T (not (ramp_too_long (contractᶜ k))) → T (date_sound k d)
    → full_span k d ≤ size → Accepted size (ledger_of []) (contractᶜ k ∷ dateᶜ d ∷ [])
unfolding cells_in contract_of date_of first all
month-taken size k d t s f h =
    (replay_append (contract_replay size k (omega arith) t s)
    (dates_replay size k (d ∷ []) (omega arith) (and_T (date_sound k d) true f tt) h)).accepted

-- ---- the tables

-- a contract and dates whose span it is, and for which lent memory has the cells
module _ (size : ℕ) (k : Contract) (dates : List Date) (span : ℕ) (spans : span_in (agreed_on k dates) ≡ span) (fit : cells_in (agreed_on k dates) ≤ size) where
  -- so with entries under it
  span_held : (ws : List Window) (is : List Instruction) (ds : List Default) → span_in (held k dates ws is ds false unread) ≡ span
  span_held ws is ds = span_same (held k dates ws is ds false unread) (agreed_on k dates) refl refl ∙ spans

  cells_held : (ws : List Window) (is : List Instruction) (ds : List Default) → ltb size (cells_in (held k dates ws is ds false unread)) ≡ false
  cells_held ws is ds =
      le-ltb size (cells_in (held k dates ws is ds false unread))
      (omega (arith, cells_same (held k dates ws is ds false unread) (agreed_on k dates) refl refl))

  -- a window that could be taken next is taken, and leaves the rest so
  window-taken : (ws : List Window) (w : Window) (rest : List Window) → T (windows_sound k span (last_end 0 ws) (w ∷ rest)) → length ws < 128
      → (refusal false size (held k dates ws [] [] false unread) (windowᶜ w) ≡ none) × T (windows_sound k span (last_end 0 (ws ++ (w ∷ []))) rest)
  unfolding refusal conditions first_met contract_of first is_empty windows_sound
  window-taken ws w rest t l =
      let rejected : Bool = eqb k.service 0 && eqb w.verdict 1 in
      let tests : List Bool = window_tests k span (last_end 0 ws) w in
      let q = T_and (chain (in_range (windowᶜ w)) tests) (windows_sound k span w.end.0 rest) t in
      let p = apart (in_range (windowᶜ w)) tests q.0 in (
        rw (
          of_T (in_range (windowᶜ w)) p.0,
          not_on (bad_window (windowᶜ w)) p.1.0,
          cells_held ws [] [],
          span_held ws [] [],
          le-ltb span w.end.0 (leb→le w.end.0 span p.1.1.0),
          not_on rejected p.1.1.1.0,
          ← last_of_lem (λ (w : Window). w.end.0) (record { start = record { 0 = 0 }; end = record { 0 = 0 }; verdict = 0 }) ws,
          le-ltb w.start.0 (last_end 0 ws) (leb→le (last_end 0 ws) w.start.0 p.1.1.1.1.0),
          lt-leb 128 (length ws) l,
        ),
        subst (λ e. T (windows_sound k span e rest)) (sym (last_snoc (λ (w : Window). w.end.0) 0 ws w)) q.1,
      )

  -- all windows
  pub windows_replay : (ws : List Window) → T (windows_sound k span 0 ws) → length ws ≤ 128
      → Replays size (held k dates [] [] [] false unread) (map windowᶜ ws) (held k dates ws [] [] false unread)
  unfolding last_of later
  windows_replay ws t l =
      table_replay size 128 windowᶜ (λ ws. held k dates ws [] [] false unread) (λ ws rest. T (windows_sound k span (last_end 0 ws) rest)) (λ ws w j. held k (append-nil dates j) (ws ++ (w ∷ [])) [] [] false unread) window-taken
      [] ws t (omega arith)

  -- an instruction
  instruction-taken : (ws : List Window) (is : List Instruction) (i : Instruction) (rest : List Instruction)
      → T (instructions_sound k span (ready k 0 is) (i ∷ rest)) → length is < 64
      → (refusal false size (held k dates ws is [] false unread) (instructionᶜ i) ≡ none) × T (instructions_sound k span (ready k 0 (is ++ (i ∷ []))) rest)
  unfolding refusal conditions first_met contract_of first is_empty instructions_sound
  instruction-taken ws is i rest t l =
      let tests : List Bool = instruction_tests k span (ready k 0 is) i in
      let q = T_and (chain (in_range (instructionᶜ i)) tests) (instructions_sound k span (end_of k i + k.recovery.0) rest) t in
      let p = apart (in_range (instructionᶜ i)) tests q.0 in (
        rw (
          of_T (in_range (instructionᶜ i)) p.0,
          cells_held ws is [],
          span_held ws is [],
          le-ltb span (end_of k i) (leb→le (end_of k i) span p.1.0),
          le-ltb i.cease.0 (expiry k i) (leb→le (expiry k i) i.cease.0 p.1.1.0),
          sym (ready_recovered k is),
          le-ltb i.issue.0 (ready k 0 is) (leb→le (ready k 0 is) i.issue.0 p.1.1.1.0),
          lt-leb 64 (length is) l,
        ),
        subst (λ e. T (instructions_sound k span e rest)) (sym (last_snoc (λ (i : Instruction). end_of k i + k.recovery.0) 0 is i)) q.1,
      )

  -- all instructions
  pub instructions_replay : (ws : List Window) (is : List Instruction) → T (instructions_sound k span 0 is) → length is ≤ 64
      → Replays size (held k dates ws [] [] false unread) (map instructionᶜ is) (held k dates ws is [] false unread)
  unfolding last_of later
  instructions_replay ws is t l =
      table_replay size 64 instructionᶜ (λ is. held k dates ws is [] false unread) (λ is rest. T (instructions_sound k span (ready k 0 is) rest))
      (λ is i j. held k (append-nil dates j) (append-nil ws j) (is ++ (i ∷ [])) [] false unread) (instruction-taken ws)
      [] is t (omega arith)

  -- a default
  default-taken : (ws : List Window) (is : List Instruction) (ds : List Default) (d : Default) (rest : List Default)
      → T (all (default_sound k span ws) (d ∷ rest)) → length ds < 128
      → (refusal false size (held k dates ws is ds false unread) (defaultᶜ d) ≡ none) × T (all (default_sound k span ws) rest)
  unfolding refusal conditions first_met contract_of first is_empty all
  default-taken ws is ds d rest t l =
      let q = T_and (default_sound k span ws d) (all (default_sound k span ws) rest) t in
      let windowed : Bool = any (λ w. within w d.minute.0) ws in
      let p = apart (in_range (defaultᶜ d)) (ltb d.minute.0 span ∷ windowed ∷ []) q.0 in (
        rw (
          of_T (in_range (defaultᶜ d)) p.0,
          cells_held ws is ds,
          span_held ws is ds,
          lt-leb span d.minute.0 (ltb→lt d.minute.0 span p.1.0),
          of_T windowed p.1.1.0,
          lt-leb 128 (length ds) l,
        ),
        q.1,
      )

  -- all defaults
  pub defaults_replay : (ws : List Window) (is : List Instruction) (ds : List Default) → T (all (default_sound k span ws) ds) → length ds ≤ 128
      → Replays size (held k dates ws is [] false unread) (map defaultᶜ ds) (held k dates ws is ds false unread)
  unfolding later
  defaults_replay ws is ds t l =
      table_replay size 128 defaultᶜ (λ ds. held k dates ws is ds false unread) (λ ds rest. T (all (default_sound k span ws) rest))
      (λ ds d j. held k (append-nil dates j) (append-nil ws j) (append-nil is j) (ds ++ (d ∷ [])) false unread) (default-taken ws is)
      [] ds t (omega arith)
