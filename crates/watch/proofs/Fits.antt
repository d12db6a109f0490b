-- Totals stay small enough for a step to take them: those before the first step are, and a sum that a minute or a line is added to stays in its range.
use mathlib.Core.Path.{◌≡◌, refl, ap}
use mathlib.Core.Bool.{Bool, true, false, cond}
use Prim.Native.Nat.{ℕ, suc, ◌+◌, ◌*◌, ◌%◌, ◌≤◌, ◌<◌}
use native.Mathlib.Nat.{le_refl, mul-le-mul}
use native.Mathlib.Omega.{arith}
use lib.IntN.{ℤ, pos, ◌+ℤ◌}
use Rattle.energy.specs.Number.{Within}
use Rattle.energy.proofs.Integers.{add_parts}
use Rattle.watch_step.specs.Step.{no_totals}
use Rattle.watch_step.proofs.Fits.{TotalsFit}

pub none-fit : TotalsFit no_totals
none-fit = record { base = omega arith; expected = omega arith; delivered = omega arith; capped = omega arith; pence = omega arith }

-- a sum begun anew, or carried on from the minute before: at most b in each minute of a period
pub carried : (b p m : ℕ) (fresh : Bool) (x q : ℤ) → (fresh ≡ false → (m ≡ suc p) × (0 < m % 30)) → Within (b * (p % 30 + 1)) x → Within b q
    → Within (b * (m % 30 + 1)) (cond fresh (pos 0) x +ℤ q)
carried b p m true x q h l r = omega (arith, add_parts (pos 0) q)
carried b p m false x q h l r =
    let (e, o) = h refl in
    let s : m % 30 ≡ p % 30 + 1 = omega arith in
    omega (arith, add_parts x q, ap (λ z. b * z) s)

-- a sum of the lines with one more or none, at a later minute
pub counted : (b p m : ℕ) (ends : Bool) (x q : ℤ) → p < m → Within (b * (p + 1)) x → Within b q → Within (b * (m + 1)) (x +ℤ cond ends q (pos 0))
counted b p m true x q h l r = let s : p + 1 ≤ m = omega arith in omega (arith, add_parts x q, mul-le-mul (le_refl b) s)
counted b p m false x q h l r = let s : p + 1 ≤ m = omega arith in omega (arith, add_parts x (pos 0), mul-le-mul (le_refl b) s)
