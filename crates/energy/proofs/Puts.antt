-- Laws of elements put into memory from a position on.
use mathlib.Core.Path.{◌≡◌, sym, ap, ◌∙◌}
use mathlib.Core.List.{List, [], ◌∷◌, ◌++◌, append_assoc, append-nil}
use Prim.Native.Nat.{ℕ, suc, ◌+◌, ◌≤◌, ◌<◌}
use native.Mathlib.Nat.{add-zero, add_assoc}
use native.Mathlib.Numerals.{add-one}
use native.Mathlib.Omega.{arith}
use lib.ListN.{length, get_or, take, drop, set, length-append, length-drop, take-append-drop, get_or-append}
use lib.Seq.{get_or-take, get_or-append-add, length-take-le, take_at, drop_at, drop-drop, take-suc-set, drop-set-lt}
use Rattle.energy.specs.Lists.{put_at, Laid}

module _ {A : Type 0} where
  pub put_none : (m : List A) (at : ℕ) → put_at [] m at ≡ m
  unfolding put_at
  put_none m at = rw (add-zero, append-nil) (take-append-drop at m)

  pub length_put : (xs m : List A) (at : ℕ) → at + length xs ≤ length m → length (put_at xs m at) ≡ length m
  unfolding put_at
  length_put xs m at h =
      let before = length-take-le at m (omega arith) in
      simp (length-append, length-drop) (omega arith)

  -- what stands before them, and what they put
  pub put_before : (xs m : List A) (at i : ℕ) (d : A) → at ≤ length m → i < at → get_or (put_at xs m at) i d ≡ get_or m i d
  unfolding put_at
  put_before xs m at i d h l =
      let front = length-take-le at m h in
      get_or-append (take at m ++ xs) (drop (at + length xs) m) d i (simp length-append (omega arith))
      ∙ get_or-append (take at m) xs d i (omega arith)
      ∙ get_or-take at m i d l

  pub put_inside : (xs m : List A) (at i : ℕ) (d : A) → at ≤ length m → i < length xs → get_or (put_at xs m at) (at + i) d ≡ get_or xs i d
  unfolding put_at
  put_inside xs m at i d h l =
      let front : length (take at m) ≡ at = length-take-le at m h in
      get_or-append (take at m ++ xs) (drop (at + length xs) m) d (at + i) (simp length-append (omega arith))
      ∙ ap (λ n. get_or (take at m ++ xs) (n + i) d) (sym front)
      ∙ get_or-append-add (take at m) xs i d

  -- a part of the memory that is replaced, as a lent part comes back
  pub put_part : (xs m : List A) (at size : ℕ) → length xs ≡ size → take at m ++ (xs ++ drop size (drop at m)) ≡ put_at xs m at
  unfolding put_at
  put_part xs m at size long = rw (drop-drop, ← long, ← append_assoc (take at m) xs (drop (at + length xs) m))

  -- elements, and elements after them, are both together
  module _ (xs ys m : List A) (at place : ℕ) (stands : place ≡ at + length xs) (room : place ≤ length m) where
    front : length (take at m ++ xs) ≡ place
    front = length-append (take at m) xs ∙ rw (length-take-le at m (omega arith)) (sym stands)

    past : drop (place + length ys) (take at m ++ xs ++ drop (at + length xs) m) ≡ drop (at + length xs + length ys) m
    past =
        rw (← drop-drop (length ys) place (take at m ++ xs ++ drop (at + length xs) m), drop_at (take at m ++ xs) (drop (at + length xs) m) place front)
        (drop-drop (length ys) (at + length xs) m)

    pub put_put : put_at ys (put_at xs m at) place ≡ put_at (xs ++ ys) m at
    unfolding put_at
    put_put =
        rw (take_at (take at m ++ xs) (drop (at + length xs) m) place front, past, length-append xs ys) (simp (append_assoc, add_assoc))

  -- one element in front
  pub put_cons : (x : A) (xs m : List A) (at : ℕ) → at < length m → put_at xs (set m at x) (at + 1) ≡ put_at (x ∷ xs) m at
  unfolding put_at
  put_cons x xs m at h =
      let one : at + 1 + length xs ≡ at + suc (length xs) = omega arith in
      let past : at < at + suc (length xs) = omega arith in
      rw (one, drop-set-lt (at + suc (length xs)) m at x, add-one at, take-suc-set m at x h) (simp append_assoc)

  -- ---- laid one after the other

  -- nothing changes nothing
  pub laid_none : (m : List A) (at : ℕ) → Laid [] m at m at
  laid_none m at = record { ends = omega arith; holds = sym (put_none m at) }

  -- where there is room, memory keeps its length
  pub laid_long : {xs m after : List A} {at next : ℕ} → at + length xs ≤ length m → Laid xs m at after next → length after ≡ length m
  laid_long {xs} {m} {at = at} room l = ap length l.holds ∙ length_put xs m at room

  -- in any case they end within the memory that they leave
  pub laid_within : {xs m after : List A} {at next : ℕ} → at ≤ length m → Laid xs m at after next → next ≤ length after
  unfolding put_at
  laid_within {m = m} {at = at} h l =
      let before = length-take-le at m h in
      omega (arith, l.ends, simp (length-append, length-drop) at (ap length l.holds))

  pub laid_both : {xs ys m m₁ m₂ : List A} {at at₁ at₂ : ℕ} → at₁ ≤ length m → Laid xs m at m₁ at₁ → Laid ys m₁ at₁ m₂ at₂ → Laid (xs ++ ys) m at m₂ at₂
  laid_both {xs} {ys} {m} {at = at} {at₁} room l n =
      record {
        ends = omega (arith, length-append xs ys, l.ends, n.ends);
        holds = n.holds ∙ rw l.holds (put_put xs ys m at at₁ l.ends room);
      }
