-- `settle_live::is_live` meets its contract: what the ends exclude, the instructions do. Assumes nothing.
use Rattle.std.proofs.Common.{◌≡◌, ◌∙◌, length, rules, arith}
use Rattle.settle_live.proofs.Ends.{past_excluded}
use Rattle.settle_live.specs.Live.{excluded_to, is_live}
use Rattle.settle_live.proofs.is_live.Goals as goal

pub returns : goal.returns
unfolding is_live
returns c =
    let a = c.args in
    let same = past_excluded a.instructions.now a.t a.ends.now c.requires.1 a.recovery.0 a.w.start.0 (length a.instructions.now) (omega arith) in
    let told : c.excluded.result ≡ excluded_to a.instructions.now a.t a.recovery.0 a.w.start.0 (length a.instructions.now) =
    c.excluded.ensures ∙ rw c.requires.2 same in
    search (told, rules)
