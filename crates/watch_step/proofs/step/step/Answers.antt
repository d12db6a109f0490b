-- `watch_step::step::step` meets its contract: of its tests the first that fails decides. Assumes nothing.
use mathlib.Core.Path.{◌≡◌, refl}
use mathlib.Core.Bool.{Bool, true, false, cond, not, ◌&&◌, ◌||◌}
use mathlib.Core.List.{List}
use Prim.Native.Nat.{ℕ, ◌+◌}
use lib.Dec.{eqb, ltb}
use lib.IntN.{ℤ}
use borrow.Author.Tests.{not-false, eqb-true}
use mir.Syntax.{w32}
use mir.Val.{SFits, to_z, of_z}
use mir.Facts.{to_z-of_z}
use Rattle.energy.specs.Number.{Within}
use Rattle.energy.proofs.Tests.{on_and}
use Rattle.commands.specs.Input.{is_reading}
use Rattle.watch_step.specs.Month.{start_at, end_at}
use Rattle.watch_step.specs.Step.{answer_to, are_base, are_readings, is_next, over, step_of}
use Rattle.watch_step.specs.declared.totals.Totals.{Totals}
use Rattle.watch_step.proofs.Fits.{totals_fit_lem, reading_within}
use Rattle.watch_step.proofs.step.step.Goals as goal

-- ---- what `advance` and the base load ask
-- a minute of the same instruction is the one after the last
follows : (month : List ℕ) (s : Totals) (n m : ℕ) → is_next month s n m ≡ true → not (eqb n s.instruction) ≡ false → m ≡ s.minute.0 + 1
unfolding is_next
follows month s n m e t =
    let same = not-false (eqb n s.instruction) t in
    let (below, next) = on_and (ltb m (end_at month n))
    (cond (eqb n s.instruction) (eqb m (s.minute.0 + 1)) (eqb n (s.instruction + 1) && eqb m (start_at month n) && over month s)) e in
    eqb-true m (s.minute.0 + 1) (rw same at next)

read : (new : Bool) (kw : ℤ) (base : List ℤ) → are_readings new kw base ≡ true → Within 500000 kw
read new kw base e = reading_within kw (on_and (is_reading kw) (not new || are_base base) e).0

four : (new : Bool) (kw : ℤ) (base : List ℤ) → are_readings new kw base ≡ true → new ≡ true → are_base base ≡ true
four new kw base e t = rw t at (on_and (is_reading kw) (not new || are_base base) e).1

load-held : (z : ℤ) → SFits w32 z → Within 2000000 z → Within 2000000 (to_z w32 (of_z w32 z))
load-held z f h = rw (to_z-of_z f) h

pub base_now-requires : goal.base_now-requires
base_now-requires c =
    let a = c.args in
    (four (not (eqb a.n a.s.instruction)) a.r.kw.0 a.base.now c.in_ok-check_readings.ensures, (totals_fit_lem a.s c.in_ok-check_totals.ensures).base)

pub advance-requires-clause-within : goal.advance-requires-clause-within
advance-requires-clause-within c =
    let a = c.args in
    let b = c.base_now in (
      load-held b.result (record { sfits = b.type_inv }) b.ensures.1,
      read (not (eqb a.n a.s.instruction)) a.r.kw.0 a.base.now c.in_ok-check_readings.ensures,
    )

pub advance-requires-clause-minute_value : goal.advance-requires-clause-minute_value
advance-requires-clause-minute_value c =
    let a = c.args in
    follows a.month.now a.s a.n a.r.minute.0 (rw (c.in_ok-i.ensures.0, c.in_ok-known.ensures.0, c.in_ok-i.ensures.1) at c.in_ok-check_next.ensures)

pub returns : goal.returns
unfolding step_of answer_to
returns c =
    let k = c.in_ok-known.ensures in
    let i = rw k.0 at c.in_ok-i.ensures in
    let next = rw (i.0, i.1) at c.in_ok-check_next.ensures in
    let loads : SFits w32 c.base_now.result = record { sfits = c.base_now.type_inv } in
    let after = rw (to_z-of_z loads, i.0, i.1, c.base_now.ensures.0) at c.advance.ensures in
    rw (k.1, c.in_ok-check_totals.ensures, i.2, next, c.in_ok-check_readings.ensures, after) refl
