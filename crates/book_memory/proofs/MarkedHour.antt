-- Minutes without a reading, and an hour marked after them: none of them has one.
use mathlib.Core.Path.{◌≡◌, sym, ap, ◌∙◌}
use mathlib.Core.Bool.{false}
use mathlib.Core.Option.{none, none-ne-some}
use Prim.Native.Nat.{ℕ, ◌+◌, ◌-◌, ◌≤◌, ◌<◌}
use native.Mathlib.Omega.{arith}
use lib.IntN.{ℤ}
use lib.ListN.{length, replicate, length-replicate, get_or-replicate}
use Rattle.energy.proofs.Tests.{either, either-le}
use Rattle.energy.proofs.Puts.{put_before, put_inside}
use Rattle.commands.specs.Input.{is_reading}
use Rattle.book_memory.specs.Meter.{Memory, missing, cell_reading, kw_at, revision_at, metered_at, marked_from}

-- a cell that gives no reading is outside the range, whatever its byte
pub not_reading : (z : ℤ) (n : ℕ) → cell_reading z n ≡ none → is_reading z ≡ false
not_reading z n e = either (is_reading z) (λ h. absurd (none-ne-some (record { kw = z; revision = n }) (sym e ∙ (rw h)))) (λ h. h)

-- and one outside the range gives none
pub no_reading : (z : ℤ) (n : ℕ) → is_reading z ≡ false → cell_reading z n ≡ none
no_reading z n e = rw e

pub marked-unread : (m : Memory) (at n i : ℕ) → at ≤ length m.cells → (i < at → metered_at m i ≡ none) → i < at + n → metered_at (marked_from at n m) i ≡ none
marked-unread m at n i h before l =
    let marks = replicate n missing in
    let byte = revision_at (marked_from at n m) i in
    either-le at i
    (λ k.
    let place : at + (i - at) ≡ i = omega arith in
    let cell : kw_at (marked_from at n m) i ≡ missing =
    ap (λ x. kw_at (marked_from at n m) x) (sym place)
    ∙ put_inside marks m.cells at (i - at) missing h (omega (arith, length-replicate n missing))
    ∙ get_or-replicate n (i - at) missing missing (omega arith) in
    no_reading (kw_at (marked_from at n m) i) byte (ap is_reading cell))
    (λ k.
    let cell : kw_at (marked_from at n m) i ≡ kw_at m i = put_before marks m.cells at i missing h k in
    no_reading (kw_at (marked_from at n m) i) byte (ap is_reading cell ∙ not_reading (kw_at m i) (revision_at m i) (before k)))
