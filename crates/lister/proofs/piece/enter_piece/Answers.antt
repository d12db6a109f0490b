-- `lister::piece::enter_piece` meets its contract: the step's equation is that of loading, and what loading left unread goes to the front.
use Rattle.std.proofs.Common.{rules, ◌≡◌, ◌∙◌, List, ℕ, ◌-◌, ◌≤◌, arith, length, take, drop, zero-add}
use lib.ListN.{length-drop}
use lib.Seq.{length-take-le, paste, take_at}
use Rattle.std.proofs.lemmas.Slice.{between_is}
use Rattle.lister.specs.Input.{step}
use Rattle.lister.proofs.piece.enter_piece.Goals as goal

-- what is moved to the front stands there
moved : (buffer : List ℕ) (from to : ℕ) → from ≤ to → to ≤ length buffer
    → take (to - from) (paste buffer 0 (drop from buffer) (to - from)) ≡ drop from (take to buffer)
moved buffer from to h room =
    let part : length (take (to - from) (drop from buffer)) ≡ to - from = length-take-le (to - from) (drop from buffer) (omega (arith, length-drop from buffer)) in
    rw zero-add (take_at (take (to - from) (drop from buffer)) (drop (to - from) buffer) (to - from) part ∙ between_is buffer from to)

pub returns : goal.returns
unfolding step
returns c =
    let l = c.load-l in
    let inside = c.requires.1 in
    let k = rw (← c.copy_within.ensures.after) at (moved c.args.buffer.now l.result.at c.args.have (search rules) inside) in
    record {
      stands = rw (← l.ensures.0, ← l.ensures.1.0, ← k);
      keeps = l.ensures.2;
      fits = omega (arith, c.copy_within.ensures.len, c.requires.1);
    }
