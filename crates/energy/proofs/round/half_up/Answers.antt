-- `energy::round::half_up` meets its contract: half of the divisor added, the quotient rounds down to the nearest. Assumes nothing.
use Rattle.energy.proofs.Rounding.{half_up}
use Rattle.energy.proofs.round.half_up.Goals as goal

pub returns : goal.returns
returns c = half_up c.args.n c.args.d c.requires.0
