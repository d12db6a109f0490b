-- Marking a table's places one after the other, and its windows.
use Rattle.std.proofs.Common.{◌≡◌, refl, ◌∙◌, ap, Bool, cond, ◌&&◌, List, ◌++◌, ℕ, zero, suc, ◌+◌, ◌-◌, ◌≤◌, ◌<◌, length, get_or, take, drop, replicate, add-one, arith, length-append, length-drop}
use Rattle.std.proofs.lemmas.List.{get_or_append_left, get_or-append_right, get_or-drop, get_or-replicate, get_or-take, length-replicate, length-take-le}
use native.Mathlib.Decide.{dec_le, dec_lt}
use native.Mathlib.Nat.{le_refl}
use lib.Dec.{leb, ltb}
use borrow.Author.Tests.{lt-ltb, le-ltb, le-leb, lt-leb}
use Rattle.commands.specs.declared.entries.Window.{Window}
use Rattle.rules.specs.Ledger.{no_window}
use Rattle.settle_live.specs.Live.{Marked, WindowMarked, Unmarked, Windows, LiveTable, number_to}

-- the places from a to b − 1 filled with v
module _ (xs : List ℕ) (a b v : ℕ) (h : a ≤ b) (l : b ≤ length xs) where
  abbrev n : ℕ
  n = b - a

  abbrev rest : List ℕ
  rest = drop n (drop a xs)

  abbrev all : List ℕ
  all = take a xs ++ (replicate n v ++ rest)

  front : length (take a xs) ≡ a
  front = length-take-le a xs (omega arith)

  mid : length (replicate n v) ≡ n
  mid = length-replicate n v

  entry : (p : ℕ) → Dec (a ≤ p) → Dec (p < b) → get_or all p 0 ≡ cond (leb a p && ltb p b) v (get_or xs p 0)
  entry p (no d) u =
      rw (lt-leb a p (omega (arith, d)))
      (get_or_append_left (take a xs) (replicate n v ++ rest) 0 p (omega (arith, d, front)) ∙ get_or-take a xs p 0 (omega (arith, d)))
  entry p (yes k) (yes u) =
      rw (le-leb a p k, lt-ltb p b u)
      (get_or-append_right (take a xs) (replicate n v ++ rest) a p 0 front k ∙ get_or_append_left (replicate n v) rest 0 (p - a) (omega (arith, mid))
      ∙ get_or-replicate n (p - a) v 0 (omega arith))
  entry p (yes k) (no u) =
      let e : a + (n + (p - a - n)) ≡ p = omega (arith, u) in
      rw (le-leb a p k, le-ltb p b (omega (arith, u)))
      (get_or-append_right (take a xs) (replicate n v ++ rest) a p 0 front k ∙ get_or-append_right (replicate n v) rest n (p - a) 0 mid (omega (arith, u))
      ∙ get_or-drop n (drop a xs) (p - a - n) 0 ∙ get_or-drop a xs (n + (p - a - n)) 0 ∙ ap (λ z. get_or xs z 0) e)

  pub filled : (ys : List ℕ) → ys ≡ replicate (length (take n (drop a xs))) v → Marked xs a b v (take a xs ++ (ys ++ rest))
  filled ys e =
      let size : length (take n (drop a xs)) ≡ n = length-take-le n (drop a xs) (omega (arith, length-drop a xs)) in
      let same : length all ≡ length xs = simp length-append (omega (arith, front, mid, length-drop n (drop a xs), length-drop a xs)) in
      rw (e, size) (record { same = same; entry = λ p. entry p (dec_le a p) (dec_lt p b) })

-- no window is marked at first, and then one more
pub live-none : (f : Window → Bool) (ws : List Window) (live : List ℕ) → Unmarked live → LiveTable f ws 0 live
live-none f ws live a = record { period = a.none }

pub live_next : (f : Window → Bool) (ws : List Window) (n : ℕ) (live live' : List ℕ) → LiveTable f ws n live
    → WindowMarked (get_or ws n no_window) (n + 1) (f (get_or ws n no_window)) live live' → LiveTable f ws (n + 1) live'
live_next f ws n live live' l s = record { period = λ p. rw (s.period p, l.period p, add-one n) refl }

-- the first n windows of a list as a list of their own
module _ (ws : List Window) (n : ℕ) (h : n ≤ length ws) where
  size : length (take n ws) ≡ n
  size = length-take-le n ws h

  pub windows_first : {room : ℕ} → Windows ws n room → Windows (take n ws) (length (take n ws)) room
  windows_first W =
      rw size (record {
        few = W.few;
        order = λ i l. rw (get_or-take n ws i no_window l) (W.order i l);
        inside = λ i l. rw (get_or-take n ws i no_window l) (W.inside i l);
      })

  number_first : (f : Window → Bool) (p m : ℕ) → m ≤ n → number_to f (take n ws) m p ≡ number_to f ws m p
  number_first f p zero l = refl
  number_first f p (suc m) l =
      rw (get_or-take n ws m no_window l, number_first f p m (omega arith)) refl

  pub live_first : {f : Window → Bool} {live : List ℕ} → LiveTable f (take n ws) (length (take n ws)) live → LiveTable f ws n live
  live_first {f} L = record { period = λ p. L.period p ∙ rw size (number_first f p n (le_refl n)) }
