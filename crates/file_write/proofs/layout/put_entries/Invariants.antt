-- `file_write::layout::put_entries` meets its contract: the entries passed are put, and the next one goes after them.
use mathlib.Core.List.{map}
use lib.ListN.{take}
use Rattle.file_write.specs.Laid.{Laid}
use Rattle.file_write.proofs.layout.put_entries.Given as goal

abbrev pub invariant-loop-entry : goal.invariant-loop-entry
invariant-loop-entry g l = Laid (map g.T.Entry.as_command (take l.entry-index l.entries)) l.initial.out l.at l.out l.place
