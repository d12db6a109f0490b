-- `host_sums::put_entries` meets its contract. The invariant: the pairs of the first i windows are laid from the front.
use Rattle.std.proofs.Common.{◌*◌, take}
use Rattle.energy.specs.Lists.{concat_map, Laid}
use Rattle.host_sums.specs.Sums.{pair_of}
use Rattle.host_sums.proofs.put_entries.Given as goal

abbrev pub invariant-loop-i : goal.invariant-loop-i
invariant-loop-i l = Laid (concat_map pair_of (take l.i l.entries)) l.initial.pairs 0 l.pairs (2 * l.i)
