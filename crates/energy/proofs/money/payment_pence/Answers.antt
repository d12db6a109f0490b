-- `energy::money::payment_pence` meets its contract. Raised by 500,000,000 pence the amount is no longer negative. Assumes nothing.
use mathlib.Core.Path.{◌≡◌}
use native.Mathlib.Nat.{mul-le-mul}
use native.Mathlib.Omega.{arith}
use lib.IntN.{ℤ, pos, ◌+ℤ◌, ◌-ℤ◌, ◌*ℤ◌}
use mir.Syntax.{w64}
use mir.Val.{SFits, to_z}
use mir.Facts.{to_z-of_z}
use mir.ValLaws.{to_z_pos}
use Rattle.energy.specs.Number.{Within}
use Rattle.energy.proofs.Integers.{mul-parts, fits_parts, fits_sum, non_neg_parts}
use Rattle.energy.proofs.Rounding.{Raised, Lowered, raised}
use Rattle.energy.proofs.money.payment_pence.Goals as goal
use Rattle.energy.proofs.money.payment_pence.Goals.{After-half_up, Start}

-- in thousandths of a penny
abbrev n : Start → ℤ
n c = c.args.k.0 *ℤ pos c.args.rate

abbrev z : Start → ℤ
z c = n c +ℤ pos 500000000000

record Fit (c : Start) : Type 0 where
  fk : SFits w64 c.args.k.0
  rate : to_z w64 c.args.rate ≡ pos c.args.rate
  fn : SFits w64 (n c)
  fz : SFits w64 (z c)
  by : Raised (n c) 1000 500000000

fit : (c : Start) → Fit c
fit c =
    let m = mul-parts c.args.k.0 (pos c.args.rate) in
    let ups = mul-le-mul c.requires.within.0 c.requires.rate_bound in
    let downs = mul-le-mul c.requires.within.1 c.requires.rate_bound in
    let small : Within 500000000000 (n c) = omega arith in
    record {
      fk = fits_parts w64 c.args.k.0 (omega arith);
      rate = to_z_pos w64 c.args.rate (omega arith);
      fn = fits_parts w64 (n c) (omega arith);
      fz = fits_sum w64 (n c) (pos 500000000000) (omega arith);
      by = raised (n c) 1000 500000000 (omega arith) small;
    }

pub overflow_add-raised : goal.overflow_add-raised
overflow_add-raised c = let f = fit c.before.before in simp (to_z-of_z, f.fk, f.rate, f.fn) f.fz

pub overflow_cast-raised-2 : goal.overflow_cast-raised-2
overflow_cast-raised-2 c =
    let s = c.before.before in
    let f = fit s in
    simp (to_z-of_z, f.fk, f.rate, f.fn, f.fz) (non_neg_parts (z s) f.by.low, omega (arith, f.by.size))

lowered : (c : After-half_up) → Lowered (n c.before.before.before) 1000 500000000 c.half_up.result
lowered c =
    let f = fit c.before.before.before in
    f.by.lowered c.half_up.result (simp (to_z-of_z, f.fk, f.rate, f.fn, f.fz) at c.half_up.ensures)

pub overflow_cast-pence : goal.overflow_cast-pence
overflow_cast-pence c = omega (arith, (lowered c).most)

pub overflow_sub-pence : goal.overflow_sub-pence
overflow_sub-pence c =
    let r = c.half_up.result in
    rw (to_z_pos w64 r (omega (arith, (lowered c).most))) (fits_parts w64 (pos r -ℤ pos 500000000) (omega (arith, (lowered c).within)))

pub returns : goal.returns
returns c =
    let r = c.half_up.result in
    let e = to_z_pos w64 r (omega (arith, (lowered c).most)) in
    let f = rw e at (overflow_sub-pence c) in
    simp (to_z-of_z, e) ((lowered c).value, (lowered c).within)
