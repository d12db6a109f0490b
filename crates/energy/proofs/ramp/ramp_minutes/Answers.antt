-- `energy::ramp::ramp_minutes` meets its contract: the library's `div_ceil` is the definition's quotient. Assumes nothing.
use mathlib.Core.Path.{◌≡◌, sym, ◌∙◌}
use Prim.Native.Nat.{◌+◌, ◌-◌}
use native.Mathlib.Nat.{div-zero}
use native.Mathlib.Omega.{arith}
use lib.Dec.{lit<}
use lib.IntN.{nat_abs}
use Rattle.energy.specs.Number.{ceiling}
use Rattle.energy.proofs.Integers.{unsigned}
use Rattle.energy.proofs.Rounding.{taken_up}
use Rattle.energy.proofs.ramp.ramp_minutes.Goals as goal

pub returns-then-ramp-eq0 : goal.returns-then-ramp-eq0
unfolding ceiling
returns-then-ramp-eq0 c = let e : c.args.ramp ≡ 0 = omega arith in rw e (sym (div-zero (nat_abs c.args.kw.0 + (0 - 1))))

pub returns : goal.returns
returns c =
    c.div_ceil.ensures
    ∙ rw (unsigned 4294967295 c.args.kw.0 (lit< tt) c.requires).plain (taken_up (nat_abs c.args.kw.0) c.args.ramp (omega arith))
