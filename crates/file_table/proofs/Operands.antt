-- Laws of operands and their widths, one operand after the other.
use mathlib.Core.Path.{◌≡◌, refl, ◌∙◌, ap}
use mathlib.Core.List.{List, [], ◌∷◌, ◌++◌, append_assoc}
use Prim.Native.Nat.{ℕ, zero, suc, ◌+◌, ◌-◌, ◌^◌, ◌≤◌, ◌<◌}
use native.Mathlib.Nat.{le_of_lt, add_assoc, add_comm, add-zero, zero-add}
use native.Mathlib.Numerals.{add-one}
use native.Mathlib.Omega.{arith}
use lib.Dec.{lit<}
use lib.ListN.{length, get_or, take, drop, set, replicate, length-append, length-drop}
use lib.Seq.{length-take-le, get_or-drop, drop-drop, set_at, take-suc}
use Rattle.rules.specs.File.{total, word_from, operands, command_of}
use Rattle.file_table.specs.Operands.{padded, sized_from, Sized}
use Rattle.file_table.proofs.Words.{Bytes, word_below}

-- ---- the widths passed

total-snoc : (ws : List ℕ) (w : ℕ) → total (ws ++ (w ∷ [])) ≡ total ws + w
unfolding total
total-snoc [] w = omega arith
total-snoc (v ∷ ws) w = omega (arith, total-snoc ws w)

pub total_more : (ws : List ℕ) (k : ℕ) → k < length ws → total (take (k + 1) ws) ≡ total (take k ws) + get_or ws k 0
total_more ws k h = rw (add-one k, take-suc ws k 0) (total-snoc (take k ws) (get_or ws k 0))

pub total-within : (ws : List ℕ) (k : ℕ) → total (take k ws) ≤ total ws
unfolding total
total-within ws zero = omega arith
total-within [] (suc k) = omega arith
total-within (w ∷ ws) (suc k) = omega (arith, total-within ws k)

-- the next operand ends where all of them end, or before
pub next_ends : (ws : List ℕ) (at place k size : ℕ) → k < length ws → place ≡ at + total (take k ws) → at + total ws ≤ size → place + get_or ws k 0 ≤ size
next_ends ws at place k size h stands room = omega (arith, total_more ws k h, total-within ws (k + 1))

-- ---- the operands read

pub length-operands : (ws s : List ℕ) → length (operands ws s) ≡ length ws
unfolding operands
length-operands [] s = refl
length-operands (w ∷ ws) s = ap suc (length-operands ws (drop w s))

operands-snoc : (ws s : List ℕ) (w : ℕ) → operands (ws ++ (w ∷ [])) s ≡ operands ws s ++ (word_from 0 (take w (drop (total ws) s)) ∷ [])
unfolding operands total
operands-snoc [] s w = refl
operands-snoc (v ∷ ws) s w = rw (operands-snoc ws (drop v s) w, drop-drop)

pub operands_more : (ws s : List ℕ) (k : ℕ) → k < length ws
    → operands (take (k + 1) ws) s ≡ operands (take k ws) s ++ (word_from 0 (take (get_or ws k 0) (drop (total (take k ws)) s)) ∷ [])
operands_more ws s k h = rw (add-one k, take-suc ws k 0) (operands-snoc (take k ws) s (get_or ws k 0))

-- ---- numbers in eleven places

pub padded_more : (xs : List ℕ) (k x : ℕ) → length xs ≡ k → k < 11 → set (padded xs) k x ≡ padded (xs ++ (x ∷ []))
unfolding padded
padded_more xs k x e h =
    let one : 11 - length xs ≡ suc (11 - (length xs + 1)) = omega arith in
    rw (one, set_at xs 0 (replicate (11 - (length xs + 1)) 0) x k e, length-append xs (x ∷ []), append_assoc)

get_d_zeros : (n k : ℕ) → ◌≡◌ {A = ℕ} (get_or (replicate n 0) k 0) 0
get_d_zeros zero k = refl
get_d_zeros (suc n) zero = refl
get_d_zeros (suc n) (suc k) = get_d_zeros n k

-- the places after the numbers hold what a list has past its end
pub get_d_padded : (xs : List ℕ) (k : ℕ) → get_or (padded xs) k 0 ≡ get_or xs k 0
unfolding padded
get_d_padded xs k = go xs k (11 - length xs)
  where
    go : (xs : List ℕ) (k n : ℕ) → get_or (xs ++ replicate n 0) k 0 ≡ get_or xs k 0
    go [] k n = get_d_zeros n k
    go (x ∷ xs) zero n = refl
    go (x ∷ xs) (suc k) n = go xs k n

pub command_padded : (b : ℕ) (xs : List ℕ) → command_of b (padded xs) ≡ command_of b xs
unfolding command_of
command_padded b xs = simp get_d_padded

-- an operand is below 256 to the power of its width
operand_below : (ws s : List ℕ) → Bytes s → (k : ℕ) → get_or (operands ws s) k 0 < 256 ^ get_or ws k 0
unfolding operands
operand_below [] s h k = lit< tt
operand_below (w ∷ ws) s h zero = word_below w s h
operand_below (w ∷ ws) s h (suc k) = operand_below ws (drop w s) (λ j. rw get_or-drop (h (w + j))) k

sized_by : (ws v : List ℕ) (k : ℕ) → ((j : ℕ) → get_or v (k + j) 0 < 256 ^ get_or ws j 0) → sized_from k ws v
sized_by [] v k h = tt
sized_by (w ∷ ws) v k h = (rw add-zero at (h 0), sized_by ws v (k + 1) (λ j. rw (add_assoc k 1 j, add_comm 1 j, add-one j) (h (suc j))))

-- the operands that bytes say fit their widths
pub operands_sized : (ws s : List ℕ) → Bytes s → Sized ws (padded (operands ws s))
operands_sized ws s h = sized_by ws (padded (operands ws s)) 0 (λ j. rw (zero-add, get_d_padded) (operand_below ws s h j))

-- ---- a loop over the operands that bytes say: those that are left, and the numbers read
pub record Passed (s widths v rest : List ℕ) (k : ℕ) : Type 0 where
  pub left : rest ≡ drop (total (take k widths)) s
  pub reads : v ≡ padded (operands (take k widths) s)

pub passed_none : (s widths : List ℕ) → Passed s widths (replicate 11 0) s 0
unfolding total operands padded
passed_none s widths = record { left = refl; reads = refl }

module _ (s widths v rest : List ℕ) (k : ℕ) (inside : k < length widths) (p : Passed s widths v rest k) where
  -- the next operand has its bytes
  pub passed_next : total widths ≤ length s → get_or widths k 0 ≤ length rest
  passed_next h = rw (p.left, length-drop) (omega (arith, total_more widths k inside, total-within widths (k + 1)))

  pub passed_more : k < 11 → Passed s widths (set v k (word_from 0 (take (get_or widths k 0) rest))) (drop (get_or widths k 0) rest) (k + 1)
  passed_more few =
      let long = length-operands (take k widths) s ∙ length-take-le k widths (le_of_lt inside) in
      record {
        left = rw (p.left, drop-drop, total_more widths k inside);
        reads = rw (p.reads, p.left, operands_more widths s k inside, padded_more (operands (take k widths) s) k _ long few);
      }
