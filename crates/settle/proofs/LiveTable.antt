-- The table of live periods is the rules': a minute is in a live window exactly where its period is marked, and in window i exactly where it is
-- marked with that window's number.
use mathlib.Core.Path.{◌≡◌, refl, sym, ◌∙◌, ap, ap₂}
use mathlib.Core.Bool.{Bool, true, false, cond, not, ◌&&◌, ◌||◌, and-false, and_comm, or-true, or-false}
use mathlib.Core.List.{List}
use Prim.Native.Nat.{ℕ, zero, suc, ◌+◌, ◌/◌, ◌≤◌, ◌<◌}
use native.Mathlib.Decide.{ℕ_discrete, dec_le}
use native.Mathlib.Nat.{le_refl}
use native.Mathlib.Omega.{arith}
use lib.Dec.{eqb, leb, ltb, eqb-suc-zero}
use lib.ListN.{get_or, length}
use borrow.Author.Tests.{le-ltb, le-leb, lt-leb, leb-true}
use Rattle.energy.specs.Lists.{any}
use Rattle.energy.proofs.Tests.{eq-true, eq-false, on_and}
use Rattle.rules.specs.Ledger.{Ledger, contract_of, end_of, within}
use Rattle.rules.specs.Segment.{excludes, live, in_live}
use Rattle.commands.specs.declared.contract.Contract.{Contract}
use Rattle.commands.specs.declared.entries.Instruction.{Instruction}
use Rattle.commands.specs.declared.entries.Window.{Window}
use Rattle.book.specs.Book.{no_instruction, no_window}
use Rattle.settle_terms.specs.declared.Terms.{Terms}
use Rattle.settle_live.specs.Live.{excluded_to, is_live, covers, number_to, LiveTable}
use Rattle.settle_lines.specs.Cursor.{live_at}
use Rattle.rules.proofs.Folds.{any-all, any_and}
use Rattle.book.proofs.SoundBook.{SoundWindow}
use Rattle.settle.proofs.LedgerTables.{TermsOf, WindowsOf, window_at}

-- ---- the number at a place
pub covered : (w : Window) (p : ℕ) → covers w p ≡ true → (w.start.0 / 30 ≤ p) × (p < w.end.0 / 30)
covered w p e = let h = on_and (leb (w.start.0 / 30) p) (ltb p (w.end.0 / 30)) e in omega (arith, leb-true)

module _ (f : Window → Bool) (ws : List Window) where
  abbrev at : ℕ → Window
  at i = get_or ws i no_window

  -- window i is live and has the place
  abbrev has : ℕ → ℕ → Bool
  has i p = f (at i) && covers (at i) p

  pub number_small : (n p : ℕ) → number_to f ws n p ≤ n
  number_small zero p = omega arith
  number_small (suc n) p =
      let h = number_small n p in
      elim (has n p) as (λ b. cond b (suc n) (number_to f ws n p) ≤ suc n) [ true ↦ omega arith | false ↦ omega arith ]

  -- of windows one after the other, window i's number stands exactly at its places, where it is live
  pub number_is : (n : ℕ) → ((i j : ℕ) → i < j → j < n → (at i).end.0 ≤ (at j).start.0) → (i p : ℕ) → i < n
      → eqb (number_to f ws n p) (suc i) ≡ has i p
  number_is zero A i p h = absurd (omega arith)
  number_is (suc n) A i p h = go (has n p) refl (ℕ_discrete i n) (number_is n (λ a b l k. A a b l (omega arith)) i p)
    where
      go : (b : Bool) → has n p ≡ b → Dec (i ≡ n) → (i < n → eqb (number_to f ws n p) (suc i) ≡ has i p)
          → eqb (cond b (suc n) (number_to f ws n p)) (suc i) ≡ has i p
      go true t (yes e) r = rw e (eq-true (suc n) (suc n) refl ∙ sym t)
      go true t (no d) r =
          let (l, _) = covered (at n) p (on_and (f (at n)) (covers (at n) p) t).1 in
          let past : (at i).end.0 / 30 ≤ p = omega (arith, A i n (omega (arith, d)) (omega arith)) in
          rw (eq-false (suc n) (suc i) (λ q. d (omega arith)), le-ltb p ((at i).end.0 / 30) past, and-false (leb ((at i).start.0 / 30) p))
          (sym (and-false (f (at i))))
      go false t (yes e) r = rw e (eq-false (number_to f ws n p) (suc n) (λ q. omega (arith, number_small n p)) ∙ sym t)
      go false t (no d) r = r (omega (arith, d))

-- ---- the rules' live windows
leb_same : (a b c d : ℕ) → (a ≤ b → c ≤ d) → (c ≤ d → a ≤ b) → leb a b ≡ leb c d
leb_same a b c d f h =
    elim (dec_le a b) [
      | yes l ↦ le-leb a b l ∙ sym (le-leb c d (f l))
      | no l ↦ let k : c ≤ d → ⊥ = λ x. l (h x) in lt-leb a b (omega (arith, l)) ∙ sym (lt-leb c d (omega (arith, k)))
    ]

-- whole periods: a minute is in the window exactly where its period is
pub covers_is : {span : ℕ} {w : Window} (m : ℕ) → SoundWindow span w → covers w (m / 30) ≡ within w m
covers_is {w = w} m s =
    ap₂ ◌&&◌ (leb_same (w.start.0 / 30) (m / 30) w.start.0 m (λ d. omega arith) (λ d. omega arith))
    (leb_same (suc (m / 30)) (w.end.0 / 30) (suc m) w.end.0 (λ d. omega arith) (λ d. omega arith))

module _ {g : Ledger} {t : Terms} {calls : List Instruction} {recovery : ℕ} {ws : List Window} {n : ℕ}
    (T : TermsOf g t calls) (R : recovery ≡ (contract_of g).recovery.0) (W : WindowsOf g ws n) where
  abbrev k : Contract
  k = contract_of g

  live_is : (w : Window) → is_live calls t recovery w ≡ live g w
  unfolding is_live live excludes
  live_is w =
      let ended : Instruction → Bool = λ i. ltb (end_of k i) w.start.0 in
      let near : Instruction → Bool = λ i. ltb w.start.0 (end_of k i + k.recovery.0 + k.response.0) in
      let f : ℕ → Bool = excluded_to calls t recovery w.start.0 in
      let e : f (length calls) ≡ any (λ i. ended i && near i) g.instructions =
      ap f T.count ∙ any-all (λ i. ended i && near i) no_instruction g.instructions f refl
      (λ j h. ap (λ z. f j || z) (rw ((T.each j (omega (arith, T.count))).end, R, T.response) refl)) in
      rw (e, R, any_and (leb 1 k.recovery.0) ended near g.instructions) refl

  -- a table by the book's windows is one by the rules'
  pub lives : {table : List ℕ} → LiveTable (is_live calls t recovery) ws n table → LiveTable (live g) g.windows n table
  lives L = record { period = λ p. L.period p ∙ go p n (le_refl n) }
    where
      go : (p m : ℕ) → m ≤ n → number_to (is_live calls t recovery) ws m p ≡ number_to (live g) g.windows m p
      go p zero h = refl
      go p (suc m) h = rw (W.window m h, live_is (window_at g m), go p m (omega arith)) refl

module _ {g : Ledger} {ws : List Window} {n : ℕ} {table : List ℕ} (W : WindowsOf g ws n) (L : LiveTable (live g) g.windows n table) where
  pub live_at_lem : (m : ℕ) → live_at table m ≡ in_live g m
  unfolding in_live
  live_at_lem m =
      let marks : ℕ → Bool = λ i. not (eqb (number_to (live g) g.windows i (m / 30)) 0) in
      ap (λ z. not (eqb z 0)) (L.period (m / 30)) ∙ ap marks W.count
      ∙ any-all (λ w. within w m && live g w) no_window g.windows marks refl
      (λ i h. step (number_to (live g) g.windows i (m / 30)) i (live g (window_at g i) && covers (window_at g i) (m / 30)) ∙ ap (λ z. marks i || z)
      (and_comm (live g (window_at g i)) (covers (window_at g i) (m / 30)) ∙ rw (covers_is m (W.each i (omega (arith, W.count)))) refl))
    where
      step : (k i : ℕ) (b : Bool) → not (eqb (cond b (suc i) k) 0) ≡ (not (eqb k 0) || b)
      step k i true = rw (eqb-suc-zero i) (sym (or-true (not (eqb k 0))))
      step k i false = sym (or-false (not (eqb k 0)))

  -- the number of window i, at a place
  pub number_at : (i p : ℕ) → i < n → eqb (get_or table p 0) (suc i) ≡ (live g (window_at g i) && covers (window_at g i) p)
  number_at i p h = rw (L.period p) (number_is (live g) g.windows n W.apart i p h)

  pub number_below : (p k : ℕ) → get_or table p 0 ≡ suc k → k < n
  number_below p k e = omega (arith, L.period p, number_small (live g) g.windows n p)
