-- The examples of cells and bytes, computed.
use mathlib.Core.Path.{refl}
use Rattle.energy.specs.Lists.{put_at}
use Rattle.book_memory.specs.Meter.{room_in}
use Rattle.book_memory.specs.Examples.{CellExamples, PutExamples}

pub cell_examples : CellExamples
unfolding room_in
cell_examples =
    record { mark = refl; above = refl; below = refl; most = refl; least = refl; past_end = refl; few_bytes = refl; few_cells = refl }

pub put_examples : PutExamples
unfolding put_at
put_examples = record { contract = refl; hour = refl; no_hour = refl; plain = refl; again = refl }
