-- `settle_availability::paid::entry_of` meets its contract: the product is `*`'s promise. Assumes nothing.
use native.Mathlib.Omega.{arith}
use Rattle.settle_availability.specs.Paid.{entry_of}
use Rattle.settle_availability.proofs.paid.entry_of.Goals as goal

pub returns : goal.returns
unfolding entry_of
returns c = rw c.mul-pence.ensures

pub mul-pence-requires : goal.mul-pence-requires
mul-pence-requires c = (c.requires.1, omega (arith, c.requires.0))
