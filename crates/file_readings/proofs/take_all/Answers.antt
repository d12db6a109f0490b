-- `file_readings::take_all` meets its contract: runs of one kind and of the other, until neither goes on. The measure is what is left of the bytes.
use mathlib.Core.Path.{refl}
use native.Mathlib.Omega.{arith}
use Rattle.book_memory.specs.Lent.{held_mut}
use Rattle.book_memory.proofs.SameSlices.{same_on}
use Rattle.file_readings.specs.Run.{Run}
use Rattle.file_readings.proofs.Runs.{run_none, run_join, both_still}
use Rattle.file_readings.proofs.take_all.Goals as goal
use Rattle.file_readings.proofs.take_all.Lts as lts
use Rattle.file_readings.proofs.take_all.Reads as reads
use Rattle.file_readings.proofs.take_all.Tie as tie

abbrev After-take_run-both : Type 0
After-take_run-both = lts.After-take_run2 tie.the-claims reads.Pre reads.Post goal.the-invariant-loop-from goal.the-decreases-loop-from tie.handed_clauses

pub loop-from-init : goal.loop-from-init
loop-from-init c = (run_none _ _ _ _, (refl, refl))

-- both runs of a turn, as one
turned : (c : After-take_run-both) → let l = c in
    let a = c.args in
    Run a.span a.s.now l.loop-from.from (held_mut l.loop-from.memory) c.take_run-both.result
    (held_mut c.take_run-both.new.memory)
turned c = run_join _ _ _ _ _ _ _ _ c.take_run-plain.ensures.run c.take_run-both.ensures.run

pub returns-then-both-from : goal.returns-then-both-from
returns-then-both-from c =
    let d = c.before.before in
    let l = c.loop-from in
    let p = c.take_run-plain.ensures in
    let r = d.take_run-both.ensures in
    record {
      run = run_join _ _ _ _ _ _ _ _ l.invariant.0 (rw c.if-both-from.true at (turned d));
      same = same_on (same_on l.invariant.1 p.same) r.same;
      still = both_still _ _ l.from _ _ (held_mut l.memory) _ _ p.run r.run c.if-both-from.true p.still r.still;
    }

pub loop-from-smaller : goal.loop-from-smaller
loop-from-smaller c =
    let t = turned c.before.before in
    omega (arith, t.forward, c.if-both-from.false, t.inside (omega (arith, t.forward, c.if-both-from.false)))

pub loop-from-preserved : goal.loop-from-preserved
loop-from-preserved c =
    let d = c.before.before in
    (run_join _ _ _ _ _ _ _ _ c.loop-from.invariant.0 (turned d), same_on (same_on c.loop-from.invariant.1 c.take_run-plain.ensures.same) d.take_run-both.ensures.same)
