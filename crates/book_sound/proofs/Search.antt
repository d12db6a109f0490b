-- Windows that could be entered are in order, so the last one that starts by a minute is the only one that can hold it.
use Rattle.std.proofs.Common.{◌≡◌, ℕ, zero, suc, ◌-◌, ◌≤◌, ◌<◌, Bool, true, false, leb, ltb, List, [], ◌∷◌, length, get_or, refl, sym, ◌∙◌, subst, T, arith, take, Option, None, Some, MatchOption, Bor, slice_get}
use Rattle.std.specs.Option.{option_copied}
use mathlib.Core.Logic.{⊎_elim}
use mathlib.Core.Bool.{and-false}
use native.Mathlib.Nat.{le_refl, eq-or-lt_of_le}
use borrow.Author.Tests.{ltb-false, leb-true, le-ltb}
use Rattle.std.specs.List.Sorted.{IsPartitionPoint, IsPartitionedBy}
use Rattle.std.proofs.lemmas.List.Sorted.{IsNonDecreasingBy-from_default, IsPartitionedBy-leb}
use Rattle.std.proofs.lemmas.List.Recursion.{or_is}
use Rattle.std.proofs.lemmas.Option.{slice_get-get_or, slice_get_within, get_or_from_slice_get}
use lib.Seq.{get_or-take, length-take-le}
use Rattle.energy.specs.Lists.{any}
use Rattle.energy.proofs.Tests.{either-le}
use Rattle.rules.specs.Ledger.{within, no_window}
use Rattle.rules.specs.Reached.{windows_sound}
use Rattle.commands.specs.declared.contract.Contract.{Contract}
use Rattle.commands.specs.declared.entries.Window.{Window}
use Rattle.rules.proofs.Tables.{WindowFits, windows-cons}
use Rattle.book_sound.specs.InOrder.{WindowsInOrder}

-- ---- windows that could be entered

-- one window before windows in order
before_all : (k : Contract) (span e : ℕ) (w : Window) (ws : List Window) → WindowFits k span e w → WindowsInOrder w.end.0 ws → WindowsInOrder e (w ∷ ws)
before_all k span e w ws f r = record { some = some; after = after; apart = apart }
  where
    some : (i : ℕ) → i < suc (length ws) → (get_or (w ∷ ws) i no_window).start.0 < (get_or (w ∷ ws) i no_window).end.0
    some zero h = f.order
    some (suc i) h = r.some i (omega arith)

    after : (i : ℕ) → i < suc (length ws) → e ≤ (get_or (w ∷ ws) i no_window).start.0
    after zero h = f.after
    after (suc i) h = omega (arith, r.after i (omega arith))

    apart : (i j : ℕ) → i < j → j < suc (length ws) → (get_or (w ∷ ws) i no_window).end.0 ≤ (get_or (w ∷ ws) j no_window).start.0
    apart i zero h l = absurd (omega arith)
    apart zero (suc j) h l = r.after j (omega arith)
    apart (suc i) (suc j) h l = r.apart i j (omega arith) (omega arith)

pub in_order : (k : Contract) (span e : ℕ) (ws : List Window) → T (windows_sound k span e ws) → WindowsInOrder e ws
in_order k span e [] t = record { some = λ i h. absurd (omega arith); after = λ i h. absurd (omega arith); apart = λ i j h l. absurd (omega arith) }
in_order k span e (w ∷ ws) t = let (f, rest) = windows-cons k span e w ws t in before_all k span e w ws f (in_order k span w.end.0 ws rest)

-- ---- the search among windows in order

module _ {ws : List Window} (o : WindowsInOrder 0 ws) (m : ℕ) where
  rising : (i j : ℕ) → i ≤ j → j < length ws → (get_or ws i no_window).start.0 ≤ (get_or ws j no_window).start.0
  rising i j h k =
      ⊎_elim (λ (e : i ≡ j). subst (λ x. (get_or ws i no_window).start.0 ≤ (get_or ws x no_window).start.0) e (le_refl (get_or ws i no_window).start.0))
      (λ (l : i < j). omega (arith, o.some i (omega arith), o.apart i j l k)) (eq-or-lt_of_le h)

  -- those that start by a minute come first
  pub parted : IsPartitionedBy (λ (w : Window). leb w.start.0 m) ws
  parted = IsPartitionedBy-leb (λ (w : Window). w.start.0) ws m (IsNonDecreasingBy-from_default (λ (w : Window). w.start.0) ws no_window rising)

  module _ {n : ℕ} (f : n ≤ length ws) (p : IsPartitionPoint (λ (w : Window). leb w.start.0 m ≡ true) (λ (w : Window). leb w.start.0 m ≡ false) ws n) where
    later : (i : ℕ) → n ≤ i → i < length ws → within (get_or ws i no_window) m ≡ false
    later i h l = rw (p.1 i no_window h l)

    -- where none starts by then, none holds it
    none_holds : (r : Bool) → n ≡ 0 → r ≡ false → r ≡ any (λ w. within w m) ws
    unfolding any
    none_holds r z e = or_is (any (λ w. within w m)) (λ w. within w m) refl (λ w l. refl) ws no_window r (λ t. absurd (cc)) (λ t i l. later i (omega arith) l)

    -- otherwise the last one that does holds it, or none
    last-holds : (r : Bool) → 0 < n → r ≡ ltb m (get_or ws (n - 1) no_window).end.0 → r ≡ any (λ w. within w m) ws
    unfolding any
    last-holds r z e =
        or_is (any (λ w. within w m)) (λ w. within w m) refl (λ w l. refl) ws no_window r
        (λ t. (n - 1, omega arith, rw (p.0 (n - 1) no_window (omega arith) (omega arith), sym e ∙ t))) go
      where
        go : r ≡ false → (i : ℕ) → i < length ws → within (get_or ws i no_window) m ≡ false
        go t i l =
            either-le n i (λ h. later i h l)
            (λ h.
            let before : (get_or ws (n - 1) no_window).start.0 ≤ m = leb-true (get_or ws (n - 1) no_window).start.0 m (p.0 (n - 1) no_window (omega arith) (omega arith)) in
            let ends : (get_or ws (n - 1) no_window).end.0 ≤ m = ltb-false m (get_or ws (n - 1) no_window).end.0 (sym e ∙ t) in
            let past : (get_or ws i no_window).end.0 ≤ m =
            ⊎_elim (λ (q : i ≡ n - 1). rw q ends) (λ (q : i < n - 1). omega (arith, o.apart i (n - 1) q (omega arith))) (eq-or-lt_of_le (omega arith)) in
            rw (le-ltb m (get_or ws i no_window).end.0 past, and-false))

  -- the library's two calls: the last of those that start by then, and what is asked of it
  pub last-says : (n : ℕ) (a : Option (Bor Window)) (r : Bool) {P : Bor Window → Type 0} → n ≤ length ws
      → IsPartitionPoint (λ (w : Window). leb w.start.0 m ≡ true) (λ (w : Window). leb w.start.0 m ≡ false) ws n
      → option_copied a ≡ slice_get (take n ws) (length (take n ws) - 1) → MatchOption a (r ≡ false) P
      → ((w : Bor Window) → P w → r ≡ ltb m w.now.end.0) → r ≡ any (λ w. within w m) ws
  last-says n None r f p g h q =
      let size : length (take n ws) ≡ n = length-take-le n ws f in
      either-le n 0 (λ z. none_holds f p r (omega arith) h)
      (λ z.
      let there = g ∙ slice_get-get_or (take n ws) (length (take n ws) - 1) no_window (omega arith) in
      absurd (cc))
  last-says n (Some w) r f p g h q =
      let size : length (take n ws) ≡ n = length-take-le n ws f in
      let inside = slice_get_within (take n ws) (length (take n ws) - 1) w.now (sym g) in
      let found : get_or ws (n - 1) no_window ≡ w.now =
      sym (get_or-take n ws (n - 1) no_window (omega arith)) ∙ (rw size at (get_or_from_slice_get (take n ws) (length (take n ws) - 1) w.now no_window (sym g))) in
      last-holds f p r (omega arith) (q w h ∙ rw found)
