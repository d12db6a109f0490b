-- Laws of lent memory: the cells' numbers, and a list that is filled from a place on.
use mathlib.Core.Path.{◌≡◌, ◌∙◌}
use mathlib.Core.List.{List, ◌++◌, append-nil}
use Prim.Native.Nat.{ℕ, zero, suc, ◌-◌, ◌≤◌, ◌<◌}
use native.Mathlib.Numerals.{add-one}
use native.Mathlib.Omega.{arith}
use lib.IntN.{ℤ, pos}
use lib.ListN.{length, get_or, take, drop, replicate, length-drop, length-replicate, drop_of_length-le}
use lib.Seq.{take_all}
use mathlib.Core.Path.{sym}
use mathlib.Core.Bool.{Bool, false, ◌||◌}
use Prim.Native.Nat.{zero-le}
use Rattle.std.specs.List.{fold}
use Rattle.std.proofs.lemmas.List.Sums.{fold_more}
use Rattle.energy.specs.Lists.{any, between}
use Rattle.energy.proofs.Sums.{any_snoc, any_none}
use mir.Syntax.{w32}
use mir.Val.{SFits, to_z, of_z}
use mir.Facts.{to_z-of_z}
use Rattle.energy.specs.Lists.{put_at}
use Rattle.energy.proofs.Puts.{put_part}
use Rattle.rules.proofs.Lists.{get_d_within}
use Rattle.book_memory.specs.Meter.{missing}

-- what the code reads off a cell is the cell, whatever stands past the end
pub cell_is : (cells : List ℤ) (i : ℕ) → SFits w32 (get_or cells i (pos 0)) → i < length cells
    → to_z w32 (of_z w32 (get_or cells i (pos 0))) ≡ get_or cells i missing
cell_is cells i fits inside = to_z-of_z fits ∙ get_d_within cells i (pos 0) missing inside

-- whether one of the first n cells passes a test, by a walk over them
pub any_cell : (f : ℤ → Bool) (cells : List ℤ) (n : ℕ) → n ≤ length cells
    → fold (λ b z. b || f z) false (take n cells) ≡ any (λ m. f (get_or cells m missing)) (between 0 n)
any_cell f cells zero h = sym (any_none (λ m. f (get_or cells m missing)) 0 0 (λ m i k. absurd (omega arith)))
any_cell f cells (suc n) h =
    rw (← add-one n, fold_more (λ b z. b || f z) false cells n missing, any_snoc (λ m. f (get_or cells m missing)) 0 n zero-le, any_cell f cells n (omega arith))

-- ---- a list that is filled from a place on

module _ {A : Type 0} where
  -- the part of a list from a place on that is lent, filled at its front and comes back
  pub part_filled : (v : A) (n at : ℕ) (d part : List A) → part ≡ replicate n v ++ drop n (take (length d - at) (drop at d))
      → take at d ++ (part ++ drop (length d - at) (drop at d)) ≡ put_at (replicate n v) d at
  part_filled v n at d part e =
      let size : length (drop at d) ≤ length d - at = omega (arith, length-drop at d) in
      rw (e, take_all (length d - at) (drop at d) size, drop_of_length-le (drop at d) size, append-nil)
      (put_part (replicate n v) d at n (length-replicate n v))
