-- `file_write::layout::put_entries` meets its contract: the entries passed are put, and the next one goes after them.
use mathlib.Core.List.{map}
use borrow.Author.Rules.{rules}
use lib.ListN.{length, take}
use lib.Seq.{take-length}
use Rattle.file_write.specs.Laid.{Room}
use Rattle.file_write.proofs.WrittenLaid.{laid_none, room_turn, laid_turn}
use Rattle.file_write.proofs.WrittenParts.{entries_turns, entry_here}
use Rattle.file_write.proofs.layout.put_entries.Goals as goal

pub loop-entry-init : goal.loop-entry-init
loop-entry-init g c = laid_none _ _

pub put-place-requires : goal.put-place-requires
put-place-requires g c =
    let here = entry_here g.T.Entry.as_command c.args.entries.now c.loop-entry.entry-index c.entry-item.result (search rules) c.entry-item.is in
    let all : Room (map g.T.Entry.as_command (take (length c.args.entries.now) c.args.entries.now)) c.args.out.now c.args.at = rw take-length c.requires in
    rw (c.command.ensures, ← here)
    (room_turn (entries_turns g.T.Entry.as_command c.args.entries.now (length c.args.entries.now)) all c.loop-entry-test.true c.loop-entry.invariant)

pub loop-entry-preserved : goal.loop-entry-preserved
loop-entry-preserved g c =
    let here = entry_here g.T.Entry.as_command c.args.entries.now c.loop-entry.entry-index c.entry-item.result (search rules) c.entry-item.is in
    let all : Room (map g.T.Entry.as_command (take (length c.args.entries.now) c.args.entries.now)) c.args.out.now c.args.at = rw take-length c.requires in
    laid_turn (entries_turns g.T.Entry.as_command c.args.entries.now (length c.args.entries.now)) all c.loop-entry-test.true c.loop-entry.invariant
    (rw (here, ← c.command.ensures) c.put-place.ensures)
