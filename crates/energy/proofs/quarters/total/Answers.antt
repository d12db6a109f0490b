-- `energy::quarters::total` meets its contract. The sum so far is the sum over the minutes passed. Assumes nothing.
use mathlib.Core.List.{List}
use mathlib.Core.Path.{◌≡◌, refl, sym}
use Prim.Native.Nat.{ℕ, ◌+◌, ◌-◌, ◌≤◌, ◌<◌}
use native.Mathlib.Omega.{arith}
use lib.IntN.{ℤ, pos, ◌+ℤ◌}
use lib.ListN.{length, get_or, take, drop}
use mir.Syntax.{w32}
use mir.Val.{SFits, to_z, of_z}
use mir.Facts.{to_z-of_z}
use Rattle.std.proofs.lemmas.List.{get_or-drop, get_or-take, length-take-le, length-drop}
use Rattle.energy.specs.Lists.{sum as sum_of, between}
use Rattle.energy.proofs.Integers.{fits_parts}
use Rattle.energy.proofs.Sums.{sum-snoc, sum-none, sum-within}
use Rattle.energy.specs.Energy.{Readable, cell}
use Rattle.energy.proofs.quarters.total.Goals as goal

-- the sum of i readings
abbrev part : List ℤ → ℕ → ℕ → ℤ
part meter from i = sum_of (cell meter) (between from (from + i))

-- the reading of the slice's place i
abbrev item : List ℤ → ℕ → ℕ → ℕ → ℤ
item meter from to i = to_z w32 (of_z w32 (get_or (take (to - from) (drop from meter)) i (pos 0)))

module _ (meter : List ℤ) (from to : ℕ) (h : Readable meter from to) where
  part-fits : (i : ℕ) → from + i ≤ to → SFits w32 (part meter from i)
  part-fits i k =
      fits_parts w32 (part meter from i)
      (omega (arith, sum-within (cell meter) 500000 from (from + i) (λ m a b. h.read m a (omega arith))))

  -- the sum with the next reading is the sum of one reading more
  turn : (i : ℕ) → from + i < to → part meter from i +ℤ item meter from to i ≡ part meter from (i + 1)
  turn i k =
      let fits : SFits w32 (cell meter (from + i)) =
      fits_parts w32 (cell meter (from + i)) (omega (arith, h.read (from + i) (omega arith) k)) in
      let e : from + i + 1 ≡ from + (i + 1) = omega arith in
      rw (get_or-take (to - from) (drop from meter) i (pos 0) (omega arith), get_or-drop from meter i (pos 0), to_z-of_z fits)
      (rw e at (sym (sum-snoc (cell meter) from (from + i) (omega arith))))

  items : length (take (to - from) (drop from meter)) ≡ to - from
  items = length-take-le _ _ (rw (length-drop from meter) (omega arith))

pub loop-reading-init : goal.loop-reading-init
loop-reading-init c = let e : c.args.from + 0 ≡ c.args.from = omega arith in rw (e, sum-none (cell c.args.meter.now) c.args.from) refl

-- what the machine has after a turn, and that there was one reading more
record Turned (c : goal.After-sum-1) : Type 0 where
  sum : to_z w32 c.loop-reading.sum-bits +ℤ item c.args.meter.now c.args.from c.args.to c.loop-reading.reading-index
      ≡ part c.args.meter.now c.args.from (c.loop-reading.reading-index + 1)
  inside : c.args.from + (c.loop-reading.reading-index + 1) ≤ c.args.to

turned : (c : goal.After-sum-1) → Turned c
turned c =
    let k : c.args.from + c.loop-reading.reading-index < c.args.to = omega (arith, items c.args.meter.now c.args.from c.args.to c.requires) in
    record {
      sum = rw c.loop-reading.invariant (turn c.args.meter.now c.args.from c.args.to c.requires c.loop-reading.reading-index k);
      inside = omega arith;
    }

pub overflow_add-sum : goal.overflow_add-sum
overflow_add-sum c = let t = turned c in rw t.sum (part-fits c.args.meter.now c.args.from c.args.to c.requires _ t.inside)

pub loop-reading-preserved : goal.loop-reading-preserved
loop-reading-preserved c =
    let t = turned c in rw t.sum (to_z-of_z (part-fits c.args.meter.now c.args.from c.args.to c.requires _ t.inside))
