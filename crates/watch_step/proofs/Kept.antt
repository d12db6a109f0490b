-- A step that is not taken leaves the totals as they were.
use mathlib.Core.Path.{◌≡◌, refl}
use Rattle.std.specs.Prelude.{◌≢◌, Result, Ok, Err}
use Rattle.watch_step.specs.Step.{step_number, totals_after}
use Rattle.watch_step.specs.declared.step.NotStepped.{NotStepped}
use Rattle.watch_step.specs.declared.totals.Totals.{Totals}

pub kept : (s : Totals) (t : Result Totals NotStepped) → step_number t ≢ 0 → totals_after s t ≡ s
kept s (Ok after) h = absurd (h refl)
kept s (Err e) h = refl
