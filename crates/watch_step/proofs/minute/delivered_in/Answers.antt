-- `watch_step::minute::delivered_in` meets its contract: the numbers fit on the way, and the kind decides the sign. Assumes nothing.
use mathlib.Core.Path.{◌≡◌, refl, ◌∙◌}
use Prim.Native.Nat.{ℕ}
use native.Mathlib.Omega.{arith}
use lib.IntN.{ℤ, pos, ◌-ℤ◌, ◌*ℤ◌}
use borrow.Author.Tests.{eq-eqb, ne_eqb}
use mir.Syntax.{w32, w64}
use mir.Val.{SFits}
use mir.Facts.{to_z-of_z}
use Rattle.energy.specs.Energy.{delivers}
use Rattle.energy.specs.Number.{Within}
use Rattle.energy.proofs.Integers.{arith_ℤ, diff_parts, mul-parts, fits_parts}
use Rattle.watch_step.proofs.minute.delivered_in.Goals as goal

abbrev above : ℤ → ℤ → ℤ
above S r = pos 4 *ℤ r -ℤ S

-- every number on the way fits
record Fit (S r : ℤ) : Type 0 where
  fs : SFits w32 S
  f32 : SFits w32 r
  f64 : SFits w64 r
  f4 : SFits w32 (pos 4 *ℤ r)
  fa : SFits w32 (above S r)
  fz : SFits w32 (pos 0 -ℤ above S r)
  most : Within 4000000 (above S r) × Within 4000000 (pos 0 -ℤ above S r)
  turned : pos 0 -ℤ above S r ≡ S -ℤ pos 4 *ℤ r

fit : (S r : ℤ) → Within 2000000 S → Within 500000 r → Fit S r
fit S r hs hr =
    let four = mul-parts (pos 4) r in
    let over = diff_parts (pos 4 *ℤ r) S in
    let under = diff_parts (pos 0) (above S r) in
    record {
      fs = fits_parts w32 S (omega arith);
      f32 = fits_parts w32 r (omega arith);
      f64 = fits_parts w64 r (omega arith);
      f4 = fits_parts w32 _ (omega arith);
      fa = fits_parts w32 _ (omega arith);
      fz = fits_parts w32 _ (omega arith);
      most = omega arith;
      turned = omega (arith_ℤ, diff_parts S (pos 4 *ℤ r));
    }

-- what a minute delivers, by the kind
generated : (kind : ℕ) (S r : ℤ) → kind ≡ 0 → above S r ≡ delivers kind S r
generated kind S r e = rw (eq-eqb kind 0 e) refl

reduced : (kind : ℕ) (S r : ℤ) → (kind ≡ 0 → ⊥) → S -ℤ pos 4 *ℤ r ≡ delivers kind S r
reduced kind S r e = rw (ne_eqb kind 0 e) refl

pub returns-then-kind-eq0 : goal.returns-then-kind-eq0
returns-then-kind-eq0 c =
    let a = c.args in
    let f = fit a.base a.kw.0 c.requires.0 c.requires.1 in
    simp (to_z-of_z, f.f64, f.f32, f.f4, f.fs, f.fa) (generated a.kind a.base a.kw.0 c.if-kind-eq0.true, f.most.0)

pub returns : goal.returns
returns c =
    let a = c.args in
    let f = fit a.base a.kw.0 c.requires.0 c.requires.1 in
    simp (to_z-of_z, f.f64, f.f32, f.f4, f.fs, f.fa, f.fz) (f.turned ∙ reduced a.kind a.base a.kw.0 c.if-kind-eq0.false, f.most.1)
