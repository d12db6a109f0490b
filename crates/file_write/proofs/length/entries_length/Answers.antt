-- `file_write::length::entries_length` meets its contract: the bytes of the entries passed are counted, and their number is a small one.
use mathlib.Core.Path.{refl, sym}
use native.Mathlib.Omega.{arith}
use borrow.Author.Rules.{rules}
use Rattle.energy.specs.Lists.{concat_map}
use Rattle.file_write.proofs.WrittenParts.{entry_longer, entries_short, write_short}
use Rattle.file_write.proofs.length.entries_length.Goals as goal

pub loop-entry-init : goal.loop-entry-init
unfolding concat_map
loop-entry-init g c = refl

pub overflow_add-n : goal.overflow_add-n
overflow_add-n g c =
    let so = entries_short g.T.Entry.as_command c.args.entries.now c.loop-entry.entry-index (omega arith) in
    let next = write_short c.command.result in
    omega (arith, c.loop-entry.invariant, c.length_of-n.ensures)

pub loop-entry-preserved : goal.loop-entry-preserved
loop-entry-preserved g c =
    rw (c.loop-entry.invariant, c.length_of-n.ensures, c.command.ensures)
    (sym (entry_longer g.T.Entry.as_command c.args.entries.now c.loop-entry.entry-index c.entry-item.result (search rules) c.entry-item.is))
