-- `book_sound::unused::unused` meets its contract: the library's `all` by the entries' own equality.
use Rattle.std.proofs.Common.{◌∙◌, rules, tests}
use Rattle.std.proofs.lemmas.Iterator.{YieldsList-from_slice}
use Rattle.std.proofs.lemmas.Iterator.Search.{all_from_yields_List}
use Rattle.book_sound.proofs.Tables.{all_is}
use Rattle.book_sound.proofs.unused.unused.Goals as goal

pub returns : goal.returns
returns g c =
    all_from_yields_List (λ e. g.T.PartialEq.eq e c.args.none.now) _ _ _ c.all.ensures.ran (YieldsList-from_slice c.args.entries.now cc)
    (λ x b q k. search (rules, tests))
    ∙ all_is _ _
