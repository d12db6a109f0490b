-- The availability from the tables is the rules': paid periods, P, the entries and their pence.
use mathlib.Core.Path.{◌≡◌, refl, sym, ◌∙◌, ap, ap₂}
use mathlib.Core.Bool.{Bool, true, false, cond, not, ◌&&◌, ◌||◌, and-true, and-false, or-false}
use mathlib.Core.List.{List, [], ◌∷◌, ◌++◌, map}
use Prim.Native.Nat.{ℕ, zero, suc, ◌+◌, ◌-◌, ◌*◌, ◌/◌, ◌≤◌, ◌<◌, min}
use native.Mathlib.Decide.{ℕ_discrete, dec_lt}
use native.Mathlib.Nat.{le_refl, add-mul, zero-mul, sub-zero}
use native.Mathlib.Numerals.{add-one}
use native.Mathlib.Omega.{arith}
use lib.Dec.{eqb, leb, ltb, leb-suc-suc, eqb-zero-suc, eqb-suc-zero}
use lib.IntN.{pos, pos-*ℤ-pos}
use lib.ListN.{length, get_or, replicate, length-replicate, replicate-append-replicate, length-map, get_or-map}
use lib.Seq.{drop_at}
use borrow.Author.Tests.{lt-ltb, le-ltb, le-leb, lt-leb}
use Rattle.energy.specs.Lists.{any, filter, count, sum, run, between}
use Rattle.energy.proofs.Tests.{eq-true, eq-false, on_and}
use Rattle.commands.specs.Input.{from_to}
use Rattle.rules.specs.Ledger.{Ledger, within}
use Rattle.rules.specs.Segment.{live}
use Rattle.rules.specs.Statement.{reaches, paid, periods_of, paid_periods, penalty, period_pence, available_of, nothing, windows_paid}
use Rattle.commands.specs.declared.entries.Default.{Default}
use Rattle.commands.specs.declared.entries.Window.{Window}
use Rattle.rules.specs.declared.statement.Available.{Available}
use Rattle.book.specs.Book.{no_default, no_window}
use Rattle.settle_live.specs.Live.{covers, LiveTable}
use Rattle.settle_availability.specs.Paid.{window_number_of, window_of, reach_from, reach_to, reaches_place, reached_to, counted_to, penalty_by, paid_periods_by}
use Rattle.settle_availability.specs.Paid.{entry_of, entry_by, entries_to, periods_to}
use Rattle.rules.proofs.Folds.{any-all, count-filter, count_shift}
use Rattle.settle.proofs.LedgerTables.{WindowsOf, window_at}
use Rattle.settle_lines.proofs.First.{sets_first, first_are, sum_first}
use Rattle.settle.proofs.LiveTable.{covered, covers_is, number_at, number_below}

-- the tables are a ledger's: its windows, d defaults, and the number of the live window at each place
pub record Priced (g : Ledger) (table : List ℕ) (ws : List Window) (n : ℕ) (ds : List Default) (d : ℕ) : Type 0 where
  pub windows : WindowsOf g ws n
  pub numbers : LiveTable (live g) g.windows n table
  pub count : d ≡ length g.defaults
  pub default : (j : ℕ) → j < d → get_or ds j no_default ≡ get_or g.defaults j no_default
  pub kind : (j : ℕ) → j < d → 1 ≤ (get_or g.defaults j no_default).kind
  pub reach : (j : ℕ) → j < d → (1 ≤ (get_or g.defaults j no_default).reach) × ((get_or g.defaults j no_default).reach ≤ 3)

-- place q alone
only : (p q : ℕ) → (leb q p && ltb p (q + 1)) ≡ eqb (suc p) (q + 1)
only p q =
    elim (ℕ_discrete p q) [
      | yes e ↦ rw (e, le-leb q q (le_refl q), lt-ltb q (q + 1) (omega arith)) (sym (eq-true (suc q) (q + 1) (omega arith)))
      | no e ↦
          let other : false ≡ eqb (suc p) (q + 1) = sym (eq-false (suc p) (q + 1) (λ z. e (omega arith))) in
          elim (dec_lt p q) [ yes d ↦ rw (lt-leb q p d) other | no d ↦ rw (le-ltb p (q + 1) (omega (arith, e, d)), and-false (leb q p)) other ]
    ]

-- the places that a default in window w reaches are the periods that the rules say, of those that the window has
reach_is : (w : Window) (x : Default) (p : ℕ) → (1 ≤ x.reach) × (x.reach ≤ 3) → covers w p ≡ true
    → (leb (reach_from w x) p && ltb p (reach_to w x)) ≡ reaches x (suc p)
reach_is w x p r c =
    let q : ℕ = x.minute.0 / 30 in
    elim (ℕ_discrete x.reach 2) [
      | yes e ↦ rw e c
      | no e ↦
          elim (ℕ_discrete x.reach 1) [
            | yes d ↦ rw d (only p q ∙ sym (or-false (eqb (suc p) (q + 1))))
            | no d ↦
                let three : x.reach ≡ 3 = omega (arith, e, d) in
                rw (three, lt-ltb p (w.end.0 / 30) (covered w p c).1, and-true (leb q p), add-one q) (sym (leb-suc-suc q p))
          ]
    ]

-- and they are the window's
pub record Inside (w : Window) (x : Default) : Type 0 where
  pub low : w.start.0 / 30 ≤ reach_from w x
  pub order : reach_from w x ≤ reach_to w x
  pub high : reach_to w x ≤ w.end.0 / 30

picked : (a z x y : ℕ) (b : Bool) → (a ≤ x) × (x ≤ z) → (a ≤ y) × (y ≤ z) → (a ≤ cond b x y) × (cond b x y ≤ z)
picked a z x y true h k = h
picked a z x y false h k = k

pub reach_inside : (w : Window) (x : Default) → covers w (x.minute.0 / 30) ≡ true → Inside w x
reach_inside w x c =
    let q : ℕ = x.minute.0 / 30 in
    let e : ℕ = w.end.0 / 30 in
    let h = covered w q c in
    let from = picked (w.start.0 / 30) q (w.start.0 / 30) q (eqb x.reach 2) (omega arith) (omega arith) in
    let to = picked q e (q + 1) (cond (from_to 2 3 x.reach) e q) (eqb x.reach 1) (omega arith)
    (picked q e e q (from_to 2 3 x.reach) (omega arith) (omega arith)) in
    omega arith

-- a test of the places of a list is the list's
module _ {A : Type 0} (f : ℕ → Bool) (h : A → Bool) (e : A) where
  count_from : (xs : List A) (a : ℕ) → ((i : ℕ) → i < length xs → f (a + i) ≡ h (get_or xs i e)) → count f (run a (length xs)) ≡ count h xs
  unfolding count run
  count_from [] a same = refl
  count_from (x ∷ xs) a same =
      let more : Bool → ℕ → ℕ = λ b m. elim b [ true ↦ suc m | false ↦ m ] in
      ap₂ more (ap f (omega arith) ∙ same 0 (omega arith)) (count_from xs (suc a) (λ i l. ap f (omega arith) ∙ same (suc i) (omega arith)))

  count_places : (xs : List A) → ((i : ℕ) → i < length xs → f i ≡ h (get_or xs i e)) → count f (between 0 (length xs)) ≡ count h xs
  unfolding between
  count_places xs same = rw (sub-zero (length xs)) (count_from xs 0 (λ i l. ap f (omega arith) ∙ same i l))

module _ {g : Ledger} {table : List ℕ} {ws : List Window} {n : ℕ} {ds : List Default} {d : ℕ} (P : Priced g table ws n ds d) where
  abbrev default_at : ℕ → Default
  default_at j = get_or g.defaults j no_default

  -- a default is in live window i exactly where its period has the window's number
  numbered : (i : ℕ) (x : Default) → i < n → eqb (window_number_of table x) (suc i) ≡ (live g (window_at g i) && within (window_at g i) x.minute.0)
  numbered i x h = number_at P.windows P.numbers i (x.minute.0 / 30) h ∙ rw (covers_is x.minute.0 (P.windows.each i h)) refl

  -- the window of a default that is in a live one
  pub record OwnWindow (x : Default) (k : ℕ) : Type 0 where
    pub below : k < n
    pub has : covers (window_at g k) (x.minute.0 / 30) ≡ true
    pub window : window_of table ws x ≡ window_at g k

  pub own_window : (x : Default) (k : ℕ) → window_number_of table x ≡ suc k → OwnWindow x k
  own_window x k e =
      let l : k < n = number_below P.windows P.numbers (x.minute.0 / 30) k e in
      let q : window_number_of table x - 1 ≡ k = omega arith in
      record {
        below = l;
        has = (on_and (live g (window_at g k)) (covers (window_at g k) (x.minute.0 / 30))
            (sym (number_at P.windows P.numbers k (x.minute.0 / 30) l) ∙ eq-true (window_number_of table x) (suc k) e)).1;
        window = ap (λ z. get_or ws z no_window) q ∙ P.windows.window k l;
      }

  -- what a default reaches of live window i
  module _ (i p : ℕ) (x : Default) (h : i < n) (alive : live g (window_at g i) ≡ true) (c : covers (window_at g i) p ≡ true)
      (r : (1 ≤ x.reach) × (x.reach ≤ 3)) where
    -- one of another window reaches no place of this one
    other : (k : ℕ) → OwnWindow x k → (k ≡ i → ⊥) → (leb (reach_from (window_at g k) x) p && ltb p (reach_to (window_at g k) x)) ≡ false
    other k H z =
        let s = reach_inside (window_at g k) x H.has in
        let here = covered (window_at g i) p c in
        elim (dec_lt k i) [
          | yes l ↦ rw (le-ltb p (reach_to (window_at g k) x) (omega (arith, P.windows.apart k i l h)), and-false) refl
          | no l ↦ rw (lt-leb (reach_from (window_at g k) x) p (omega (arith, P.windows.apart i k (omega (arith, l, z)) H.below))) refl
        ]

    reaches_is : reaches_place table ws x p ≡ (within (window_at g i) x.minute.0 && reaches x (suc p))
    reaches_is = go (window_number_of table x) refl ∙ rw (numbered i x h, alive) refl
      where
        go : (m : ℕ) → window_number_of table x ≡ m → reaches_place table ws x p ≡ (eqb (window_number_of table x) (suc i) && reaches x (suc p))
        go zero e = rw (e, eqb-zero-suc i) refl
        go (suc k) e =
            let H = own_window x k e in
            elim (ℕ_discrete k i) [
              | yes z ↦ rw (H.window, e, z, eqb-suc-zero i, eq-true (suc i) (suc i) refl) (reach_is (window_at g i) x p r c)
              | no z ↦ rw (H.window, e, eqb-suc-zero k, eq-false (suc k) (suc i) (λ q. z (omega arith))) (other k H z)
            ]

  reached_is : (i p : ℕ) → i < n → live g (window_at g i) ≡ true → covers (window_at g i) p ≡ true → not (reached_to table ws ds d p)
      ≡ paid g (window_at g i) (suc p)
  unfolding paid
  reached_is i p h alive c =
      ap not
      (ap (λ z. reached_to table ws ds z p) P.count
      ∙ any-all (λ x. within (window_at g i) x.minute.0 && reaches x (suc p)) no_default g.defaults (λ j. reached_to table ws ds j p) refl
      (λ j l. let m : j < d = omega (arith, P.count) in rw (P.default j m, reaches_is i p (default_at j) h alive c (P.reach j m)) refl))

  -- ---- P
  abbrev faulty : Window → Bool
  faulty w = live g w && any (λ x. leb x.kind 3 && within w x.minute.0) g.defaults

  any-within : (a : Bool) (p q : Default → Bool) (xs : List Default) → any (λ x. p x && (a && q x)) xs ≡ (a && any (λ x. p x && q x) xs)
  unfolding any
  any-within true p q xs = refl
  any-within false p q [] = refl
  any-within false p q (x ∷ xs) = ap₂ ◌||◌ (and-false (p x)) (any-within false p q xs)

  counted_is : (i : ℕ) → i < n → counted_to table ds d i ≡ faulty (window_at g i)
  counted_is i h =
      ap (λ z. counted_to table ds z i) P.count
      ∙ any-all (λ x. leb x.kind 3 && (live g (window_at g i) && within (window_at g i) x.minute.0)) no_default g.defaults
      (λ j. counted_to table ds j i) refl
      (λ j l.
      let m : j < d = omega (arith, P.count) in
      rw (P.default j m, le-leb 1 (default_at j).kind (P.kind j m), numbered i (default_at j) h) refl)
      ∙ any-within (live g (window_at g i)) (λ x. leb x.kind 3) (λ x. within (window_at g i) x.minute.0) g.defaults

  pub penalty_is : penalty_by (counted_to table ds d) n ≡ penalty g
  unfolding penalty
  penalty_is =
      ap (min 30)
      (ap (λ z. count (counted_to table ds d) (between 0 z)) P.windows.count
      ∙ count_places (counted_to table ds d) faulty no_window g.windows (λ i l. counted_is i (omega (arith, P.windows.count))))

  -- ---- the entries
  paid_is : (i : ℕ) → i < n → paid_periods_by table (reached_to table ws ds d) (window_at g i) i ≡ length (paid_periods g (window_at g i))
  unfolding paid_periods
  paid_is i h =
      let w : Window = window_at g i in
      let from : ℕ = w.start.0 / 30 in
      let to : ℕ = w.end.0 / 30 in
      let sound = P.windows.each i h in
      let first : eqb (get_or table from 0) (suc i) ≡ live g w =
      number_at P.windows P.numbers i from h
      ∙ rw (le-leb from from (le_refl from), lt-ltb from to (omega arith)) (and-true (live g w)) in
      rw first
      ((elim (live g w) as (λ b. live g w ≡ b → cond b (count (λ p. not (reached_to table ws ds d p)) (between from to)) 0
      ≡ length (cond b (filter (paid g w) (periods_of w)) [])) [
        | true ↦ λ alive.
            count_shift (λ p. not (reached_to table ws ds d p)) (paid g w) from to (from + 1) (to + 1) (omega arith)
            (λ m l. reached_is i (from + m) h alive (rw (le-leb from (from + m) (omega arith), lt-ltb (from + m) to (omega arith)) refl)
            ∙ ap (paid g w) (omega arith))
            ∙ sym (count-filter (paid g w) (periods_of w))
        | false ↦ λ alive. refl
      ]) refl)

  module _ (each : ℕ) (E : pos each ≡ period_pence g) where
    abbrev reached : ℕ → Bool
    reached = reached_to table ws ds d

    abbrev entry : ℕ → Available
    entry i = entry_by table reached each (get_or ws i no_window) i

    entry_is : (i : ℕ) → i < n → entry i ≡ available_of g (window_at g i)
    unfolding entry_of available_of
    entry_is i h = rw (P.windows.window i h, paid_is i h, ← E, pos-*ℤ-pos (length (paid_periods g (window_at g i))) each) refl

    paid_are : windows_paid g ≡ map entry (between 0 n)
    unfolding windows_paid
    paid_are =
        first_are entry (available_of g no_window) (map (available_of g) g.windows) n (length-map g.windows _ ∙ sym P.windows.count)
        (λ i h. get_or-map (available_of g) g.windows i no_window ∙ sym (entry_is i h))

    pub entries_are : entries_to table reached each ws n ≡ windows_paid g ++ replicate (128 - length g.windows) nothing
    entries_are =
        let e : 128 ≡ n + (128 - n) = omega (arith, P.windows.few) in
        let all : replicate 128 nothing ≡ replicate n nothing ++ replicate (128 - n) nothing =
        ap (λ m. replicate m nothing) e ∙ sym (replicate-append-replicate n (128 - n) nothing) in
        sets_first entry (entries_to table reached each ws) (λ m. refl) n (omega (arith, P.windows.few, length-replicate 128 nothing))
        ∙ rw (all, drop_at (replicate n nothing) (replicate (128 - n) nothing) n (length-replicate n nothing), ← paid_are, P.windows.count) refl

    pub pence_is : pos (periods_to table reached ws n * each) ≡ sum (λ (v : Available). v.pence.0) (windows_paid g)
    unfolding entry_of
    pence_is =
        sum_first entry (λ (v : Available). v.pence.0) (λ m. pos (periods_to table reached ws m * each)) n (ap pos (zero-mul each))
        (λ m h. ap pos (add-mul (periods_to table reached ws m) (paid_periods_by table reached (get_or ws m no_window) m) each)) n (le_refl n)
        ∙ ap (sum (λ (v : Available). v.pence.0)) (sym paid_are)
