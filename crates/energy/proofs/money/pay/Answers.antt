-- `energy::money::pay` meets its contract: its test, of the number that the machine holds, decides. Assumes nothing.
use mathlib.Core.Path.{◌≡◌, refl}
use mathlib.Core.Bool.{Bool, true, false, ◌&&◌}
use Prim.Native.Nat.{ℕ}
use native.Mathlib.Omega.{arith}
use lib.Dec.{leb}
use lib.IntN.{ℤ, pos, negsuc}
use lib.Signed.{le_z}
use mir.Syntax.{w64}
use mir.Val.{SFits}
use mir.Facts.{to_z-of_z}
use Rattle.std.specs.Prelude.{Result, Ok, Err}
use Rattle.energy.specs.Answers.{paid_for}
use Rattle.energy.specs.Energy.{payment}
use Rattle.energy.specs.declared.limits.OutOfRange.{OutOfRange}
use Rattle.energy.specs.declared.units.Pence.{Pence}
use Rattle.energy.proofs.money.pay.Goals as goal

-- the kWh and the rate are ones that are paid for
abbrev inside : ℤ → ℕ → Bool
inside k rate = le_z (negsuc 499999) k && le_z k (pos 500000) && leb rate 1000000

-- such are paid for
paid : (k p : ℤ) (rate : ℕ) → inside k rate ≡ true → p ≡ payment k rate → ◌≡◌ {A = Result Pence OutOfRange} (Ok (record { 0 = p })) (paid_for k rate)
unfolding paid_for
paid k p rate h e = rw (h, e) refl

-- and no others
unpaid : (k : ℤ) (rate : ℕ) → inside k rate ≡ false → ◌≡◌ {A = Result Pence OutOfRange} (Err (record {})) (paid_for k rate)
unfolding paid_for
unpaid k rate h = rw h refl

pub returns-then-k-rate : goal.returns-then-k-rate
returns-then-k-rate c =
    let f : SFits w64 c.args.capped.0 = omega arith in
    paid c.args.capped.0 _ c.args.rate (simp to_z-of_z at c.if-k-rate.true) c.payment_pence.ensures.0

pub returns : goal.returns
returns c =
    let f : SFits w64 c.args.capped.0 = omega arith in
    unpaid c.args.capped.0 c.args.rate (simp to_z-of_z at c.if-k-rate.false)
