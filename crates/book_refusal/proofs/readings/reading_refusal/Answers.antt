-- `book_refusal::readings::reading_refusal` meets its contract: what is held is looked at inside the span alone.
use mathlib.Core.Path.{◌≡◌}
use mathlib.Core.Bool.{true}
use borrow.Author.Tests.{leb-false, lt-ltb}
use lib.Dec.{ltb}
use Rattle.commands.specs.Refusals.{outcome}
use Rattle.commands.specs.declared.refusal.Refusal.TheVariants.{BeyondSpan}
use Rattle.commands.proofs.Outcomes.{numbered_as, passed_by, outcome-cond}
use Rattle.book_refusal.specs.Refusals.{reading_refusal}
use Rattle.book_refusal.proofs.readings.reading_refusal.Goals as goal

pub returns : goal.returns
unfolding reading_refusal outcome
returns c =
    let past = passed_by BeyondSpan (c.in_ok-refuse_if.ensures {u = tt}) in
    let inside : ltb c.args.r.minute.0 c.args.span ≡ true = lt-ltb _ _ (leb-false _ _ past) in
    rw (past, inside, ← c.not_above.ensures, outcome-cond, ← c.held_refusal.ensures, numbered_as) c.refuse_if-2.ensures
