-- `settle_availability::paid::entries_of` meets its contract. The invariant: the entries and the periods are those of the first i windows. Assumes nothing.
use mathlib.Core.Path.{◌≡◌, refl, ◌∙◌}
use mathlib.Core.Bool.{Bool, cond, not}
use mathlib.Core.List.{List}
use Prim.Native.Nat.{ℕ, ◌+◌, ◌-◌, ◌*◌, ◌/◌, ◌≤◌, ◌<◌}
use native.Mathlib.Nat.{mul-le-mul}
use native.Mathlib.Numerals.{add-one}
use native.Mathlib.Omega.{arith}
use lib.Dec.{eqb}
use lib.ListN.{length, get_or, take, drop}
use Rattle.std.specs.List.{count_by}
use Rattle.commands.specs.declared.entries.Window.{Window}
use Rattle.rules.specs.Ledger.{no_window}
use Rattle.settle_terms.specs.Terms.{most_periods}
use Rattle.settle_availability.specs.Paid.{entries_by, marked, paid_periods_by}
use Rattle.settle_availability.proofs.Defaults.{counted_places}
use Rattle.settle_availability.proofs.paid.entries_of.Goals as goal

-- the paid periods of window i, from what is reached of its places
periods : (live : List ℕ) (reached : List Bool) (w : Window) (i n from to k : ℕ) → n ≡ get_or live from 0 → from ≡ w.start.0 / 30 → to ≡ w.end.0 / 30
    → from ≤ to → to ≤ length reached → k ≡ cond (eqb n (i + 1)) (count_by not (take (to - from) (drop from reached))) 0
    → k ≡ paid_periods_by live (marked reached) w i
periods live reached w i n from to k en ef et h l e = e ∙ rw (counted_places not reached from to h l, en, ef, et, add-one i) refl

pub loop-i-preserved : goal.loop-i-preserved
loop-i-preserved c =
    let l = c.loop-i in
    let h : l.i < length c.args.windows.now = omega arith in
    let from = c.place_of-from.ensures in
    let to = c.place_of-to.ensures in
    let o = c.requires.0.order l.i h in
    let p = periods c.args.live.now c.args.reached.now (get_or c.args.windows.now l.i no_window) l.i _ _ _ _ c.number_at.ensures from to (omega (arith, from, to, o))
    (omega (arith, to, c.requires.0.inside l.i h, c.requires.1)) c.paid_periods-k.ensures.0 in (
      rw (c.entry_of.ensures, p, l.invariant.0, add-one l.i),
      rw (l.invariant.1, p, add-one l.i),
      omega (arith, c.paid_periods-k.ensures.1),
    )

pub returns : goal.returns
unfolding entries_by
returns c =
    let l = c.loop-i in
    let e : l.i ≡ length c.args.windows.now = omega arith in
    let h : l.total ≤ most_periods * 128 = omega (arith, c.requires.0.few, l.invariant) in
    (rw (c.mul-pence.ensures, l.invariant.0, l.invariant.1, e), rw c.mul-pence.ensures (omega (arith, mul-le-mul h c.requires.4.0)))
