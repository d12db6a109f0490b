-- `energy::quarters::expected` meets its contract. The kW are not below 0, so that the machine reads them back as they are; a period's product fits 32 bits.
-- Assumes nothing.
use mathlib.Core.Path.{refl}
use native.Mathlib.Nat.{mul-le-mul}
use native.Mathlib.Omega.{arith}
use lib.Dec.{lit<}
use Rattle.energy.specs.Energy.{expected_in}
use Rattle.energy.proofs.Integers.{Unsigned, unsigned}
use Rattle.energy.proofs.quarters.expected.Goals as goal
use Rattle.energy.proofs.quarters.expected.Goals.{Start}

kw : (s : Start) → Unsigned s.args.kw.0
kw s = unsigned 500000 s.args.kw.0 (lit< tt) s.requires.0

pub returns-then-steady : goal.returns-then-steady
unfolding expected_in
returns-then-steady c =
    let s = c.before.before.before.before in
    rw ((kw s).plain, c.if-steady.true) (refl, omega (arith, mul-le-mul s.requires.1 s.requires.0.0))

pub returns : goal.returns
unfolding expected_in
returns c =
    let s = c.before.before.before.before in
    rw ((kw s).plain, c.if-steady.false) (refl, omega (arith, mul-le-mul s.requires.1 s.requires.0.0))
