-- `watch_month::numbers::put_figures` meets its contract: five stores from the front. The kW are not below 0, so that the machine reads them back as they are.
-- Assumes nothing.
use Rattle.std.proofs.Common.{◌∙◌, refl, [], ◌∷◌, arith}
use lib.Dec.{lit<}
use lib.Seq.{sets-eq}
use Rattle.energy.specs.Lists.{put_at}
use Rattle.energy.proofs.Integers.{unsigned}
use Rattle.watch_month.proofs.numbers.put_figures.Goals as goal

pub returns : goal.returns
unfolding put_at
returns c =
    let k = unsigned 500000 c.args.t.kw.0 (lit< tt) c.requires.1.kw in
    sets-eq (_ ∷ _ ∷ _ ∷ _ ∷ _ ∷ []) c.args.month.now 0 (omega (arith, c.requires.0)) ∙ rw k.plain refl
