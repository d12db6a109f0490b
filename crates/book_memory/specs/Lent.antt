-- What is lent for a book's readings, as the rules' memory, and what a call that writes it leaves.
use Rattle.std.specs.Prelude.{◌≡◌}
use Rattle.book_memory.specs.declared.lent.Lent.{Lent}
use Rattle.book_memory.specs.declared.lent.LentMut.{LentMut}
use Rattle.book_memory.specs.Meter.{Memory, lent}

-- the cells and bytes that are lent to be read
abbrev pub held : Lent → Memory
held m = lent m.meter.now m.revisions.now

-- those that are lent to be written
abbrev pub held_mut : LentMut → Memory
held_mut m = lent m.meter.now m.revisions.now

-- the same two slices of the caller's, whatever they hold
abbrev pub Same : LentMut → LentMut → Type 0
Same before after = (after.meter.ghost_name ≡ before.meter.ghost_name) × (after.revisions.ghost_name ≡ before.revisions.ghost_name)

-- the same two slices, with this in them
abbrev pub Becomes : LentMut → Memory → LentMut → Type 0
Becomes before m after = (held_mut after ≡ m) × Same before after
