-- `file_table::number::number_in` meets its contract: the number is what the bytes passed so far say.
use mathlib.Core.Path.{◌≡◌}
use lib.ListN.{take}
use Rattle.rules.specs.File.{word_from}
use Rattle.file_table.proofs.number.number_in.Given as goal

abbrev pub invariant-loop-b : goal.invariant-loop-b
invariant-loop-b l = l.number ≡ word_from 0 (take l.b-index l.bytes)
