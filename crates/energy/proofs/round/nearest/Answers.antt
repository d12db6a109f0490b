-- `energy::round::nearest` meets its contract: a divisor from 1 is what `quotient` asks for. Assumes nothing.
use mathlib.Core.Path.{refl, ◌∙◌, ap}
use native.Mathlib.Omega.{arith}
use borrow.Author.Tests.{le-leb, lt-leb}
use mir.Syntax.{w64}
use mir.Facts.{to_z-of_z}
use Rattle.energy.specs.Answers.{rounded}
use Rattle.std.specs.Prelude.{Ok}
use Rattle.energy.proofs.round.nearest.Goals as goal

pub returns-then-d-ge1 : goal.returns-then-d-ge1
unfolding rounded
returns-then-d-ge1 c =
    rw (le-leb 1 c.args.d (omega arith)) (ap Ok (to_z-of_z {w = w64} (record { sfits = c.quotient.type_inv }) ∙ simp (to_z-of_z, c.ranges.n) at c.quotient.ensures))

pub returns : goal.returns
unfolding rounded
returns c = rw (lt-leb 1 c.args.d (omega arith)) refl
