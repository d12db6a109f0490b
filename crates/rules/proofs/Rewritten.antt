-- A ledger that commands leave is left again by the commands that it is written as: the contract, the date and the tables, then each reading in its turn, then the close.
use mathlib.Core.Path.{◌≡◌, refl, sym, ap, ◌∙◌, subst, fun_ext}
use mathlib.Core.Bool.{Bool, true, false, cond}
use mathlib.Core.List.{List, [], ◌∷◌, ◌++◌, append-nil}
use mathlib.Core.Option.{Option, none, some}
use Prim.Native.Nat.{ℕ, zero, suc, ◌+◌, ◌-◌, ◌≤◌, ◌<◌}
use native.Mathlib.Nat.{le_refl}
use native.Mathlib.Omega.{arith}
use borrow.Author.Tests.{lt-ltb, le-ltb, le-leb, lt-leb, eq-eqb, ne_eqb, ltb-true, ltb-false}
use lib.Dec.{T, eqb, leb, ltb}
use lib.IntN.{ℤ}
use Rattle.energy.specs.Lists.{all, any, between, concat_map, first, is_empty, is_some, later, run}
use Rattle.energy.proofs.Tests.{and_T, of_T, either, either-eq}
use Rattle.commands.specs.Input.{is_reading, first_met, most_minute}
use Rattle.calendar.specs.Calendar.{gained_in, lost_in}
use Rattle.calendar.specs.declared.Date.{Date}
use Rattle.rules.specs.Ledger.{Ledger, Metered, ledger_of, contract_of, date_of, span_in, cells_in, reading_of}
use Rattle.rules.specs.Refusal.{conditions, refusal, taken}
use Rattle.rules.specs.Reached.{Untouched, Agreed, Reached}
use Rattle.rules.specs.Reached.Reached.{untouched, agreed}
use Rattle.rules.specs.File.{reading_at, written, file_of, commands_in}
use Rattle.rules.specs.Reread.{fits_bytes}
use Rattle.rules.specs.Rewritten.{Revised, Rewritten·theorem}
use Rattle.commands.specs.declared.contract.Contract.{Contract}
use Rattle.commands.specs.declared.entries.Command.{Command}
use Rattle.commands.specs.declared.entries.Command.TheVariants.{Close as closeᶜ}
use Rattle.rules.proofs.Taken.{later-none, grown, allowed, input_clear}
use Rattle.rules.proofs.Reached.{PartsOf, parts_of, terms_of_lem}
use Rattle.rules.proofs.Span.{span_cells, cells_most, span_same, cells_same, own_cells}
use Rattle.rules.proofs.Reread.{reread}
use Rattle.rules.proofs.Replay.{Accepted, all-taken, ledger_grown, Replays, replay_none, replay_cons, replay_append, held, unread, agreed_on}
use Rattle.rules.proofs.Replay.{contract_replay, dates_replay, windows_replay, instructions_replay, defaults_replay}

-- ---- readings before a minute

-- the readings of f before minute a
abbrev before : (ℕ → Option Metered) → ℕ → ℕ → Option Metered
before f a m = cond (ltb m a) (f m) none

-- with the reading of minute a, those before the next minute
with_next : (f : ℕ → Option Metered) (a : ℕ) (o : Option Metered) → f a ≡ o → (m : ℕ) → later (before f a m) (cond (eqb a m) o none) ≡ before f (suc a) m
unfolding later
with_next f a o h m =
    either (ltb m a) (λ e. let l = ltb-true m a e in rw (e, ne_eqb a m (λ q. omega arith), lt-ltb m (suc a) (omega arith)))
    (λ e.
    let l = ltb-false m a e in
    either-eq a m (λ q. rw (e, eq-eqb a m q, lt-ltb m (suc a) (omega arith)) (later-none o ∙ sym h ∙ ap f q))
    (λ q. rw (e, ne_eqb a m q, le-ltb m (suc a) (omega arith))))

-- no reading adds nothing
with_none : (o : Option Metered) (b : Bool) → o ≡ later o (cond b none none)
unfolding later
with_none o true = refl
with_none o false = refl

-- ---- a ledger under a contract

-- the contract, dates and tables of g
abbrev tables_of : Ledger → Bool → (ℕ → Option Metered) → Ledger
tables_of g z f = held (contract_of g) g.dates g.windows g.instructions g.defaults z f

-- an entry in none of the tables leaves them
tables_kept : (g : Ledger) (z : Bool) {f f' : ℕ → Option Metered} → ((m : ℕ) → f m ≡ f' m)
    → held (contract_of g) (g.dates ++ []) (g.windows ++ []) (g.instructions ++ []) (g.defaults ++ []) z f ≡ tables_of g z f'
tables_kept g z e j =
    held (contract_of g) (append-nil g.dates j) (append-nil g.windows j) (append-nil g.instructions j) (append-nil g.defaults j) z (λ m. e m j)

module _ {size : ℕ} {g : Ledger} (a : Agreed size g) (bytes : Revised g) where
  -- what is tested of the reading of a minute, whatever its revision
  record Tests (m : ℕ) (x : Metered) : Type 0 where
    least : leb 0 m ≡ true
    most : leb m most_minute ≡ true
    range : is_reading x.kw ≡ true
    cells : ltb size (cells_in g) ≡ false
    inside : leb (span_in g) m ≡ false
    bare : ltb m m ≡ false

  tests : (m : ℕ) (x : Metered) → g.reading m ≡ some x → Tests m x
  tests m x e =
      let r = a.readings m x e in
      let l : m < span_in g = r.0 in
      record {
        least = le-leb 0 m (omega arith);
        most = le-leb m most_minute (omega (arith, span_cells g, cells_most g (terms_of_lem a)));
        range = of_T (is_reading x.kw) r.1;
        cells = le-ltb size (cells_in g) a.cells;
        inside = lt-leb (span_in g) m l;
        bare = le-ltb m m (le_refl m);
      }

  -- the reading of a minute that has one, plain or sent again
  metered_replay : (m : ℕ) (kw : ℤ) (n : ℕ) → g.reading m ≡ some (record { kw = kw; revision = n })
      → Replays size (tables_of g false (before g.reading m)) (reading_at (some (record { kw = kw; revision = n })) m)
      (tables_of g false (before g.reading (suc m)))
  unfolding refusal conditions first_met span_in cells_in contract_of date_of first is_empty is_some later
  metered_replay m kw zero e =
      let x : Metered = record { kw = kw; revision = zero } in let t = tests m x e in
      replay_cons (rw (t.least, t.most, t.range, t.cells, t.inside, t.bare)) (tables_kept g false (with_next g.reading m (some x) e))
      (replay_none refl)
  metered_replay m kw (suc n) e =
      let x : Metered = record { kw = kw; revision = suc n } in let t = tests m x e in
      let sent : suc n ≤ 255 = bytes m x e in
      replay_cons (rw (le-leb 1 (suc n) (omega arith), le-leb (suc n) 255 sent, t.least, t.most, t.range, t.cells, t.inside, t.bare))
      (tables_kept g false (with_next g.reading m (some x) e))
      (replay_none refl)

  -- the reading of a minute, if it has one
  minute_replay : (m : ℕ)
      → Replays size (tables_of g false (before g.reading m)) (reading_at (g.reading m) m) (tables_of g false (before g.reading (suc m)))
  minute_replay m = go (g.reading m) refl
    where
      f : ℕ → Option Metered
      f = g.reading

      go : (o : Option Metered) → f m ≡ o → Replays size (tables_of g false (before f m)) (reading_at o m) (tables_of g false (before f (suc m)))
      go none e = replay_none (ap (tables_of g false) (fun_ext (λ n. with_none (before f m n) (eqb m n) ∙ with_next f m none e n)))
      go (some x) e = metered_replay m x.kw x.revision e

  run_replay : (n m b : ℕ) → m + n ≡ b
      → Replays size (tables_of g false (before g.reading m)) (concat_map (λ m. reading_at (g.reading m) m) (run m n))
      (tables_of g false (before g.reading b))
  unfolding concat_map run
  run_replay zero m b e = let q : m ≡ b = omega arith in replay_none (ap (λ x. tables_of g false (before g.reading x)) q)
  run_replay (suc n) m b e = replay_append (minute_replay m) (run_replay n (suc m) b (omega arith))

  -- every reading is in the span
  all_before : (m : ℕ) → before g.reading (span_in g) m ≡ g.reading m
  all_before m = go (ltb m (span_in g)) refl (g.reading m) refl
    where
      go : (b : Bool) → ltb m (span_in g) ≡ b → (o : Option Metered) → g.reading m ≡ o → cond b o none ≡ o
      go true e o q = refl
      go false e none q = refl
      go false e (some x) q = absurd (omega (arith, (a.readings m x q).0, ltb-false m (span_in g) e))

  -- the readings
  readings_replay : Replays size (tables_of g false unread) (concat_map (λ m. reading_at (g.reading m) m) (between 0 (span_in g))) (tables_of g false g.reading)
  unfolding between
  readings_replay =
      let n : ℕ = span_in g in
      let start : before g.reading 0 ≡ unread = fun_ext (λ m. ap (λ b. cond b (g.reading m) none) (le-ltb m 0 (omega arith))) in
      let end : before g.reading n ≡ g.reading = fun_ext all_before in
      rw (start, end) at (run_replay (n - 0) 0 n (omega arith))

  -- the close
  close_replay : (z : Bool) → Replays size (tables_of g false g.reading) (cond z (closeᶜ ∷ []) []) (tables_of g z g.reading)
  unfolding refusal conditions first_met span_in cells_in contract_of date_of first is_empty later
  close_replay false = replay_none refl
  close_replay true = replay_cons (rw (le-ltb size (cells_in g) a.cells)) (tables_kept g true (λ m. refl)) (replay_none refl)

  -- g is its contract and tables, its close and its readings
  whole : tables_of g g.closed g.reading ≡ g
  whole = rw (← a.contract)

  -- all that it is written as
  agreed_replay : Replays size (ledger_of []) (written g) g
  unfolding written span_in contract_of date_of first
  agreed_replay =
      let k : Contract = contract_of g in
      let dates : List Date = g.dates in
      let p : PartsOf g = parts_of a in
      let spans : span_in (agreed_on k dates) ≡ span_in g = span_same (agreed_on k dates) g (sym a.contract) refl in
      let cells : cells_in (agreed_on k dates) ≤ size = omega (arith, cells_same (agreed_on k dates) g (sym a.contract) refl, a.cells) in
      let contract = contract_replay size k (omega (arith, own_cells (agreed_on k dates), cells)) p.operands p.ramps in
      let dated = dates_replay size k dates a.dates a.dated cells in
      let windows = windows_replay size k dates (span_in g) spans cells g.windows p.windows a.windows in
      let instructions = instructions_replay size k dates (span_in g) spans cells g.windows g.instructions p.instructions a.instructions in
      let defaults = defaults_replay size k dates (span_in g) spans cells g.windows g.instructions g.defaults p.defaults a.defaults in
      subst (λ h. Replays size (ledger_of []) (written h) h) whole
      (replay_append
      (replay_append (replay_append (replay_append (replay_append (replay_append contract dated) windows) instructions) defaults) readings_replay)
      (close_replay g.closed))

-- ---- an untouched ledger

nothing : {g : Ledger} → Untouched g → ledger_of [] ≡ g
unfolding ledger_of concat_map any reading_of
nothing u j =
    record {
      contracts = sym u.contracts j;
      dates = sym u.dates j;
      windows = sym u.windows j;
      instructions = sym u.instructions j;
      defaults = sym u.defaults j;
      closed = sym u.not_closed j;
      reading = λ m. sym (u.readings m) j;
    }

untouched_replay : (size : ℕ) {g : Ledger} → Untouched g → Replays size (ledger_of []) (written g) g
unfolding written ledger_of concat_map any span_in contract_of date_of first gained_in lost_in between run
untouched_replay size u = subst (λ h. Replays size (ledger_of []) (written h) h) (nothing u) (replay_none refl)

-- ---- every ledger that commands leave

pub written_replay : (size : ℕ) (g : Ledger) → Reached size g → Revised g → Replays size (ledger_of []) (written g) g
written_replay size g (untouched u) b = untouched_replay size u
written_replay size g (agreed a) b = agreed_replay a b

pub rewritten : Rewritten·theorem
unfolding taken
rewritten size g r b =
    let p = written_replay size g r b in
    record { all_taken = all-taken size [] (written g) p.accepted; same = ledger_grown [] (written g) ∙ p.leaves }

-- ---- in bytes

-- commands that are all taken are in range, so that bytes can say them
pub accepted_sayable : (size : ℕ) (g : Ledger) (cs : List Command) → Accepted size g cs → T (all fits_bytes cs)
unfolding Accepted all
accepted_sayable size g [] h = tt
accepted_sayable size g (c ∷ cs) h =
    and_T (fits_bytes c) (all fits_bytes cs) (reread.ranged c (input_clear c (allowed size g c h.0).input)) (accepted_sayable size (grown g c) cs h.1)

-- the file that a ledger is written as has its commands
pub file_commands : (size : ℕ) (g : Ledger) → Reached size g → Revised g → commands_in (file_of g) ≡ written g
unfolding file_of
file_commands size g r b = reread.file (written g) (accepted_sayable size (ledger_of []) (written g) (written_replay size g r b).accepted)
