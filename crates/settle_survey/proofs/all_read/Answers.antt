-- `settle_survey::all_read` meets its contract. The test so far is that of the minutes passed. Assumes nothing.
use Rattle.std.proofs.Common.{◌≡◌, ◌+◌, ◌-◌, ◌<◌, ◌&&◌, take, drop, get_or, sym, ◌∙◌, ap, ap₂, arith, rules, add-zero, length-drop, ℤ, pos, w32}
use Rattle.std.proofs.lemmas.List.{get_or-take, get_or-drop, length-take}
use mir.Val.{SFits}
use mir.Facts.{to_z-of_z}
use Rattle.energy.proofs.Sums.{all_snoc, all_none}
use Rattle.commands.specs.Input.{is_reading}
use Rattle.settle_survey.specs.Survey.{has}
use Rattle.settle_survey.proofs.all_read.Goals as goal

pub loop-x-init : goal.loop-x-init
loop-x-init c = rw add-zero (sym (all_none (has c.args.meter.now) c.args.from))

pub loop-x-preserved : goal.loop-x-preserved
loop-x-preserved c =
    let a = c.args in
    let i = c.loop-x.x-index in
    let n = a.to - a.from in
    let inside : i < n = omega (arith, c.loop-x-test.true) in
    let x : SFits w32 (get_or (take n (drop a.from a.meter.now)) i (pos 0)) = search rules in
    let here : get_or (take n (drop a.from a.meter.now)) i (pos 0) ≡ get_or a.meter.now (a.from + i) (pos 0) =
    get_or-take n (drop a.from a.meter.now) i (pos 0) inside ∙ get_or-drop a.from a.meter.now i (pos 0) in
    let next : a.from + (i + 1) ≡ a.from + i + 1 = omega arith in
    rw (next, all_snoc (has a.meter.now) a.from (a.from + i) (omega arith))
    (ap₂ ◌&&◌ c.loop-x.invariant (c.holds_reading-ok.ensures ∙ ap is_reading (to_z-of_z x ∙ here)))

pub returns : goal.returns
returns c =
    let a = c.args in
    let e : a.from + c.loop-x.x-index ≡ a.to =
    omega (arith, length-take (a.to - a.from) (drop a.from a.meter.now), length-drop {A = ℤ} a.from a.meter.now) in
    rw e at c.loop-x.invariant
