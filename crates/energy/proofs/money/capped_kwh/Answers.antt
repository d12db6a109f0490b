-- `energy::money::capped_kwh` meets its contract. The kWh fit. Assumes nothing.
use mathlib.Core.Bool.{Bool, true, false, cond}
use Prim.Native.Nat.{◌≤◌}
use lib.Signed.{le_z}
use mathlib.Core.Path.{◌≡◌, refl, ◌∙◌, ap}
use native.Mathlib.Omega.{arith}
use lib.IntN.{ℤ, pos}
use mir.Syntax.{w64}
use mir.Val.{SFits}
use Rattle.std.specs.Int.{int_min, int_max}
use mir.Facts.{to_z-of_z}
use Rattle.energy.specs.Energy.{capped}
use Rattle.energy.specs.Number.{Within, lesser, up}
use Rattle.energy.proofs.Integers.{fits_parts}
use Rattle.energy.proofs.Rounding.{floored_lesser}
use Rattle.energy.proofs.money.capped_kwh.Goals as goal

either_up : (b : Bool) (x d : ℤ) → Within 500000 x → Within 500000 d → up (cond b x d) ≤ 500000
either_up true x d h k = h.0
either_up false x d h k = k.0

-- what the library's `min` and `max` give, and how large it can be
lesser_capped : (x d z : ℤ) → Within 500000 x → Within 500000 d → z ≡ int_max (int_min x d) (pos 0) → (z ≡ capped x d) × Within 500000 z
unfolding lesser
lesser_capped x d z h k e = rw (e, floored_lesser x d) (refl, (either_up (le_z x d) x d h k, omega arith))

pub returns : goal.returns
returns c =
    let x : SFits w64 c.args.x.0 = fits_parts w64 _ (omega (arith, c.requires.0)) in
    let d : SFits w64 c.args.d.0 = fits_parts w64 _ (omega (arith, c.requires.1)) in
    let least : SFits w64 c.min.result = record { sfits = c.min.type_inv } in
    let most : SFits w64 c.max.result = record { sfits = c.max.type_inv } in
    rw (to_z-of_z most)
    (lesser_capped c.args.x.0 c.args.d.0 c.max.result c.requires.0 c.requires.1
    (simp (to_z-of_z, least) at c.max.ensures.value ∙ ap (λ z. int_max z (pos 0)) (simp (to_z-of_z, x, d) at c.min.ensures.value)))
