-- `file_write::length::entries_length` meets its contract: the bytes of the entries passed are counted.
use mathlib.Core.Path.{◌≡◌}
use mathlib.Core.List.{map}
use lib.ListN.{length, take}
use Rattle.file_write.specs.Laid.{file_bytes}
use Rattle.file_write.proofs.length.entries_length.Given as goal

abbrev pub invariant-loop-entry : goal.invariant-loop-entry
invariant-loop-entry g l = l.n ≡ length (file_bytes (map g.T.Entry.as_command (take l.entry-index l.entries)))
