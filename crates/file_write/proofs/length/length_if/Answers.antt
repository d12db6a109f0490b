-- `file_write::length::length_if` meets its contract: the command, or none.
use mathlib.Core.Path.{refl, ap, sym, ◌∙◌}
use lib.ListN.{length}
use Rattle.energy.specs.Lists.{concat_map}
use Rattle.file_write.proofs.WrittenLaid.{bytes_one}
use Rattle.file_write.proofs.length.length_if.Goals as goal

pub returns-then-holds : goal.returns-then-holds
returns-then-holds c = rw c.if-holds.true (c.length_of.ensures ∙ sym (ap length (bytes_one c.args.command)))

pub returns-else-holds : goal.returns-else-holds
unfolding concat_map
returns-else-holds c = rw c.if-holds.false refl
