-- A number of 32 bits among numbers of 64: it fits, and is read back as it is.
use mathlib.Core.Path.{◌≡◌}
use lib.IntN.{ℤ}
use mir.Syntax.{w32, w64}
use mir.Val.{SFits, to_z, of_z}
use mir.Facts.{to_z-of_z, sfits_widen}

pub wider : (z : ℤ) → SFits w32 z → SFits w64 z
wider z f = sfits_widen {w = w32} {w' = w64} tt f

pub held : (z : ℤ) → SFits w32 z → SFits w64 (to_z w32 (of_z w32 z))
held z f = rw (to_z-of_z f) (wider z f)

pub plain : (z : ℤ) → SFits w32 z → to_z w64 (of_z w64 (to_z w32 (of_z w32 z))) ≡ z
plain z f = rw (to_z-of_z f) (to_z-of_z (wider z f))
