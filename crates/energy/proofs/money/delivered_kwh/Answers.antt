-- `energy::money::delivered_kwh` meets its contract. Raised by 500,000 kWh the quarters are no longer negative. Assumes nothing.
use native.Mathlib.Omega.{arith}
use lib.IntN.{ℤ, pos, ◌+ℤ◌, ◌-ℤ◌}
use mir.Syntax.{w32, w64}
use mir.Val.{SFits}
use mir.Facts.{to_z-of_z}
use mir.ValLaws.{to_z_pos}
use Rattle.energy.proofs.Integers.{fits_parts, fits_sum}
use Rattle.energy.proofs.Rounding.{Raised, Lowered, raised}
use Rattle.energy.proofs.money.delivered_kwh.Goals as goal
use Rattle.energy.proofs.money.delivered_kwh.Goals.{After-half_up, Start}

abbrev z : Start → ℤ
z c = c.args.q +ℤ pos 120000000

record Fit (c : Start) : Type 0 where
  fq : SFits w32 c.args.q
  fz : SFits w32 (z c)
  by : Raised c.args.q 240 500000

fit : (c : Start) → Fit c
fit c = record {
  fq = c.ranges.q;
  fz = fits_sum w32 c.args.q (pos 120000000) (omega arith);
  by = raised c.args.q 240 500000 (omega arith) (omega arith);
}

lowered : (c : After-half_up) → Lowered c.args.q 240 500000 c.half_up.result
lowered c = let f = fit c.before in f.by.lowered c.half_up.result (simp (to_z-of_z, f.fq, f.fz) at c.half_up.ensures)

pub overflow_cast-k : goal.overflow_cast-k
overflow_cast-k c = omega (arith, (lowered c).most)

pub overflow_sub-k : goal.overflow_sub-k
overflow_sub-k c =
    let r = c.half_up.result in
    rw (to_z_pos w64 r (omega (arith, (lowered c).most))) (fits_parts w64 (pos r -ℤ pos 500000) (omega (arith, (lowered c).within)))

pub returns : goal.returns
returns c =
    let r = c.half_up.result in
    let e = to_z_pos w64 r (omega (arith, (lowered c).most)) in
    let f = rw e at (overflow_sub-k c) in
    simp (to_z-of_z, e) ((lowered c).value, (lowered c).within)
