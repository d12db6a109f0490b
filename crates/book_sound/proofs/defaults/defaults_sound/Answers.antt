-- `book_sound::defaults::defaults_sound` meets its contract: the library's `all` by the test of one default.
use Rattle.std.proofs.Common.{◌∙◌, rules, tests}
use Rattle.std.proofs.lemmas.Iterator.{YieldsList-from_slice}
use Rattle.std.proofs.lemmas.Iterator.Search.{all_from_yields_List}
use Rattle.rules.specs.Reached.{default_sound}
use Rattle.book_sound.proofs.Tables.{all_is}
use Rattle.book_sound.proofs.defaults.defaults_sound.Goals as goal

pub returns : goal.returns
returns c k =
    all_from_yields_List (default_sound k c.args.span c.args.windows.now) _ _ _ c.all.ensures.ran (YieldsList-from_slice c.args.defaults.now cc)
    (λ x b q h. search (rules, tests))
    ∙ all_is _ _
