-- `file_readings::take_run` meets its contract. The loop's invariant: the run so far. The measure is what is left of the bytes.
use mathlib.Core.Path.{◌≡◌, refl}
use mathlib.Core.Bool.{true, false}
use Prim.Native.Nat.{◌+◌, ◌≤◌}
use native.Mathlib.Omega.{arith}
use borrow.Author.Rules.{rules}
use lib.ListN.{length}
use Rattle.book_memory.specs.Lent.{held_mut}
use Rattle.book_memory.proofs.SameSlices.{same_on}
use Rattle.file_readings.specs.Run.{stands_whole}
use Rattle.file_readings.proofs.RaisedKw.{when_taken, when_left}
use Rattle.file_readings.proofs.Runs.{whole, run_none, run_more, still}
use Rattle.file_readings.proofs.take_run.Goals as goal

pub loop-memory-init : goal.loop-memory-init
loop-memory-init g c = (run_none _ _ _ _, (refl, refl))

pub take-requires : goal.take-requires
take-requires g c =
    let there : stands_whole c.args.s.now c.loop-memory.at g.K.Kind.BYTE g.K.Kind.LENGTH ≡ true = search rules in
    let w = whole c.args.s.now c.loop-memory.at g.K.Kind.BYTE g.K.Kind.LENGTH there in
    (w.1, w.2)

pub returns-then-not-take-clause-run : goal.returns-then-not-take-clause-run
returns-then-not-take-clause-run g c =
    let l = c.loop-memory in
    let no : c.take.result ≡ false = search rules in
    run_more _ _ _ _ l.at l.at (held_mut l.memory) _ l.invariant.0 (when_left _ _ _ _ _ c.take.result _ c.take.ensures.0 no)

pub returns-then-not-take-clause-still : goal.returns-then-not-take-clause-still
returns-then-not-take-clause-still g c =
    let l = c.loop-memory in
    let no : c.take.result ≡ false = search rules in
    λ w. still _ _ _ (held_mut l.memory) _ (when_left _ _ _ _ _ c.take.result _ c.take.ensures.0 no)

pub overflow_add-at : goal.overflow_add-at
overflow_add-at g c =
    let there : stands_whole c.args.s.now c.loop-memory.at g.K.Kind.BYTE g.K.Kind.LENGTH ≡ true = search rules in
    let w = whole c.args.s.now c.loop-memory.at g.K.Kind.BYTE g.K.Kind.LENGTH there in
    let same : c.LENGTH-in-loop-memory.result ≡ g.K.Kind.LENGTH = search rules in
    let inside : c.loop-memory.at + c.LENGTH-in-loop-memory.result ≤ length c.args.s.now = omega (arith, w.1, same) in
    search rules

pub loop-memory-smaller : goal.loop-memory-smaller
loop-memory-smaller g c =
    let there : stands_whole c.args.s.now c.loop-memory.at g.K.Kind.BYTE g.K.Kind.LENGTH ≡ true = search rules in
    let w = whole c.args.s.now c.loop-memory.at g.K.Kind.BYTE g.K.Kind.LENGTH there in
    let same : c.LENGTH-in-loop-memory.result ≡ g.K.Kind.LENGTH = search rules in
    omega (arith, w.1, same, g.met.K.Kind.some)

pub loop-memory-preserved : goal.loop-memory-preserved
loop-memory-preserved g c =
    let l = c.loop-memory in
    let yes : c.take.result ≡ true = search rules in
    let same : c.LENGTH-in-loop-memory.result ≡ g.K.Kind.LENGTH = search rules in
    let taken = when_taken _ _ _ _ _ c.take.result _ c.take.ensures.0 yes in
    (run_more _ _ _ _ l.at (l.at + c.LENGTH-in-loop-memory.result) (held_mut l.memory) _ l.invariant.0 (rw same taken), same_on l.invariant.1 c.take.ensures.1)

pub returns-then-not-take-clause-same : goal.returns-then-not-take-clause-same
returns-then-not-take-clause-same g c = same_on c.loop-memory.invariant.1 c.take.ensures.1
