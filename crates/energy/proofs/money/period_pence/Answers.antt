-- `energy::money::period_pence` meets its contract. The kW are not below 0, so that the machine reads them back as they are; the product fits 64 bits.
-- Assumes nothing.
use mathlib.Core.Path.{refl}
use Prim.Native.Nat.{ℕ, ◌-◌, ◌*◌, ◌≤◌}
use native.Mathlib.Nat.{mul-le-mul}
use native.Mathlib.Omega.{arith}
use lib.Dec.{lit<}
use lib.IntN.{nat_abs}
use mir.Syntax.{w64}
use mir.ValLaws.{to_z_pos}
use Rattle.energy.proofs.Integers.{Unsigned, unsigned}
use Rattle.energy.proofs.Rounding.{half_up_within}
use Rattle.energy.proofs.money.period_pence.Goals as goal
use Rattle.energy.proofs.money.period_pence.Goals.{After-half_up-pence, Start}

kw : (s : Start) → Unsigned s.args.kw.0
kw s = unsigned 500000 s.args.kw.0 (lit< tt) s.requires.0

abbrev power : Start → ℕ
power s = nat_abs s.args.kw.0

abbrev parts : Start → ℕ
parts s = power s * s.args.rate * (100 - s.args.p)

record Most (s : Start) : Type 0 where
  first : power s * s.args.rate ≤ 500000000000
  all : parts s ≤ 50000000000000

most : (s : Start) → Most s
most s =
    let first : power s * s.args.rate ≤ 500000000000 = omega (arith, mul-le-mul s.requires.0.0 s.requires.1) in
    let rest : 100 - s.args.p ≤ 100 = omega arith in
    record { first = first; all = omega (arith, mul-le-mul first rest) }

pence : (c : After-half_up-pence) → c.half_up-pence.result ≤ 250000000
pence c =
    let s = c.before.before.before in
    omega (arith, most s, half_up_within (parts s) 200000 c.half_up-pence.result (omega arith) (rw (kw s).plain at c.half_up-pence.ensures))

pub overflow_cast-pence : goal.overflow_cast-pence
overflow_cast-pence c = omega (arith, pence c)

pub returns : goal.returns
returns c =
    let s = c.before.before.before in
    rw (to_z_pos w64 c.half_up-pence.result (omega (arith, pence c))) (rw (kw s).plain at c.half_up-pence.ensures, omega (arith, pence c), refl)
