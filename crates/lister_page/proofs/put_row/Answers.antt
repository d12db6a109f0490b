-- The row's bytes are copied, and the others are as they were.
use Rattle.lister_page.proofs.Places.{laid_part}
use Rattle.lister_page.proofs.put_row.Goals as goal

pub returns-clause-laid : goal.returns-clause-laid
returns-clause-laid c = laid_part c.args.row c.args.out.now _ c.copy_from_slice.new.self c.args.at c.bytes-bytes.ensures.value c.copy_from_slice.ensures.after
