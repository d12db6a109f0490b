-- `energy::money::pay_period` meets its contract: its test, of the number that the machine holds, decides. Assumes nothing.
use mathlib.Core.Path.{◌≡◌, refl}
use mathlib.Core.Bool.{Bool, true, false, ◌&&◌}
use Prim.Native.Nat.{ℕ}
use native.Mathlib.Omega.{arith}
use lib.Dec.{leb}
use lib.IntN.{ℤ, pos, nat_abs}
use lib.Signed.{le_z}
use mir.Syntax.{w64}
use mir.Val.{SFits}
use mir.Facts.{to_z-of_z}
use Rattle.std.specs.Prelude.{Result, Ok, Err}
use Rattle.energy.specs.Answers.{paid_for_period}
use Rattle.energy.specs.Energy.{pence_of_parts, period_parts}
use Rattle.energy.specs.declared.limits.OutOfRange.{OutOfRange}
use Rattle.energy.specs.declared.units.Pence.{Pence}
use Rattle.energy.proofs.money.pay_period.Goals as goal

-- the kW, the rate and P are ones that are paid for
abbrev inside : ℤ → ℕ → ℕ → Bool
inside kw rate p = le_z (pos 0) kw && le_z kw (pos 500000) && leb rate 1000000 && leb p 30

-- such are paid for
paid : (kw z : ℤ) (rate p : ℕ) → inside kw rate p ≡ true → z ≡ pence_of_parts (period_parts (nat_abs kw) rate p)
    → ◌≡◌ {A = Result Pence OutOfRange} (Ok (record { 0 = z })) (paid_for_period kw rate p)
unfolding paid_for_period
paid kw z rate p h e = rw (h, e) refl

-- and no others
unpaid : (kw : ℤ) (rate p : ℕ) → inside kw rate p ≡ false → ◌≡◌ {A = Result Pence OutOfRange} (Err (record {})) (paid_for_period kw rate p)
unfolding paid_for_period
unpaid kw rate p h = rw h refl

pub returns-then-power-rate : goal.returns-then-power-rate
returns-then-power-rate c =
    let f : SFits w64 c.args.kw.0 = omega arith in
    paid c.args.kw.0 _ c.args.rate c.args.p (simp to_z-of_z at c.if-power-rate.true) c.period_pence.ensures.0

pub returns : goal.returns
returns c =
    let f : SFits w64 c.args.kw.0 = omega arith in
    unpaid c.args.kw.0 c.args.rate c.args.p (simp to_z-of_z at c.if-power-rate.false)
