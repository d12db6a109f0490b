-- The room in lent memory: no more than either length, and the same in memory of the same lengths.
use mathlib.Core.Path.{◌≡◌, ap₂, ◌∙◌}
use Prim.Native.Nat.{ℕ, ◌+◌, ◌≤◌, ◌<◌, min}
use native.Mathlib.Nat.{min-le_left, min-le_right, min-eq_left, le_refl}
use native.Mathlib.Omega.{arith}
use lib.IntN.{ℤ}
use Rattle.energy.proofs.Puts.{length_put}
use lib.ListN.{length, replicate, length-replicate, length-append, length-drop, length-set}
use Rattle.book_memory.specs.Meter.{Memory, missing, lent, room_in, marked_to, marked_from, written_at}

pub room_cells : (m : Memory) → room_in m ≤ length m.cells
unfolding room_in
room_cells m = min-le_left (length m.cells) (length m.revisions)

pub room_revisions : (m : Memory) → room_in m ≤ length m.revisions
unfolding room_in
room_revisions m = min-le_right (length m.cells) (length m.revisions)

room_same : (m n : Memory) → length m.cells ≡ length n.cells → length m.revisions ≡ length n.revisions → room_in m ≡ room_in n
unfolding room_in
room_same m n c r = ap₂ min c r

-- a minute that there is room for has a cell and a byte
pub room_holds : (m : Memory) (i : ℕ) → i < room_in m → (i < length m.cells) × (i < length m.revisions)
room_holds m i h = (omega (arith, h, room_cells m), omega (arith, h, room_revisions m))

-- ---- what commands put leaves the room

pub marked_room : (m : Memory) (n : ℕ) → n ≤ room_in m → room_in (marked_to n m) ≡ room_in m
marked_room m n h =
    let c = room_cells m in
    let r = room_revisions m in
    room_same (marked_to n m) m (simp (length-append, length-replicate, length-drop) (omega arith))
    (simp (length-append, length-replicate, length-drop) (omega arith))

pub marked_from_room : (m : Memory) (at n : ℕ) → at + n ≤ room_in m → room_in (marked_from at n m) ≡ room_in m
marked_from_room m at n h =
    let cells = length-replicate n missing in
    let bytes = length-replicate {A = ℕ} n 0 in
    room_same (marked_from at n m) m (length_put (replicate n missing) m.cells at (omega (arith, room_cells m)))
    (length_put (replicate n 0) m.revisions at (omega (arith, room_revisions m)))

pub written_room : (m : Memory) (i : ℕ) (kw : ℤ) (n : ℕ) → room_in (written_at i kw n m) ≡ room_in m
written_room m i kw n = room_same (written_at i kw n m) m (length-set m.cells i kw) (length-set m.revisions i n)

-- ---- memory of any room

-- without a reading
pub unmarked : ℕ → Memory
unmarked n = lent (replicate n missing) (replicate n 0)

pub unmarked_room : (n : ℕ) → room_in (unmarked n) ≡ n
unfolding room_in unmarked
unmarked_room n = ap₂ min (length-replicate n missing) (length-replicate n 0) ∙ min-eq_left (le_refl n)
