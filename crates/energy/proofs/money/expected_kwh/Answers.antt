-- `energy::money::expected_kwh` meets its contract: the rounded number is `half_up`'s promise, and fits. Assumes nothing.
use Prim.Native.Nat.{◌≤◌}
use native.Mathlib.Omega.{arith}
use mir.Syntax.{w64}
use mir.ValLaws.{to_z_pos}
use Rattle.energy.proofs.Rounding.{half_up_within}
use Rattle.energy.proofs.money.expected_kwh.Goals as goal
use Rattle.energy.proofs.money.expected_kwh.Goals.{After-half_up-k}

most : (c : After-half_up-k) → c.half_up-k.result ≤ 500000
most c = omega (arith, half_up_within c.args.q 240 c.half_up-k.result (omega arith) c.half_up-k.ensures)

pub overflow_cast-k : goal.overflow_cast-k
overflow_cast-k c = omega (arith, most c)

pub returns : goal.returns
returns c = rw (to_z_pos w64 c.half_up-k.result (omega (arith, most c))) (c.half_up-k.ensures, omega (arith, most c))
