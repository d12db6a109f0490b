-- `file_readings::near_kw` meets its contract: raised, the number is far from a sign, and lowered again it is the same reading or none.
use mathlib.Core.Path.{◌≡◌}
use Prim.Native.Nat.{ℕ, ◌^◌, ◌<◌}
use native.Mathlib.Omega.{arith}
use lib.IntN.{pos, ◌-ℤ◌}
use mir.Syntax.{w64}
use mir.Val.{SFits, to_z, of_z}
use mir.Facts.{to_z_pos, to_z-of_z}
use Rattle.energy.proofs.Integers.{exact, diff_parts, fits_parts}
use Rattle.rules.specs.File.{signed_of}
use Rattle.file_readings.specs.Run.{ranged}
use Rattle.file_readings.proofs.RaisedKw.{raised, near_cell}
use Rattle.file_readings.proofs.near_kw.Goals as goal

module _ (n : ℕ) (h : n < 2 ^ 32) where
  -- raised, it is far from a sign
  number : to_z w64 (raised n) ≡ pos (raised n)
  number = to_z_pos w64 (omega arith)

  fits : SFits w64 (to_z w64 (raised n) -ℤ pos 500000)
  fits = rw number (fits_parts w64 _ (omega (arith, exact (diff_parts (pos (raised n)) (pos 500000)))))

  -- lowered again, as the machine holds it
  lowered : ranged (to_z w64 (of_z w64 (to_z w64 (raised n) -ℤ pos 500000))) ≡ ranged (signed_of n)
  lowered = rw (to_z-of_z fits, number) (near_cell n h)

pub returns : goal.returns
returns c = let a = c in lowered a.args.number a.requires

pub overflow_sub-result : goal.overflow_sub-result
overflow_sub-result c = let a = c in fits a.args.number a.requires
