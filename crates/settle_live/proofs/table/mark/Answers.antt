-- `settle_live::table::mark` meets its contract: its places are filled. Assumes nothing.
use Rattle.settle_live.proofs.Marks.{filled}
use Rattle.settle_live.proofs.table.mark.Goals as goal

pub returns : goal.returns
returns c = let a = c.args in filled a.table.now a.from a.to a.value c.requires.0 c.requires.1 c.fill.new.self (c.fill.ensures.after (λ y e. e))
