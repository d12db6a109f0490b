-- `file_write::layout::put` meets its contract: where there is room the command is written.
use Rattle.file_write.proofs.WrittenLaid.{has_room, laid_one}
use Rattle.file_write.proofs.layout.put.Goals as goal

pub unwrap-requires : goal.unwrap-requires
unwrap-requires c = has_room c.args.command c.args.out.now c.args.at c.requires _ c.write_at.ensures.value

pub returns : goal.returns
returns c = laid_one c.args.command c.args.out.now c.args.at c.requires c.write_at.ensures.value c.unwrap.ensures c.write_at.ensures.out_after
