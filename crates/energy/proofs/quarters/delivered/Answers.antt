-- `energy::quarters::delivered` meets its contract. A sum less n times the base load is the sum over the minutes, each less the base load. Assumes nothing.
use mathlib.Core.Path.{◌≡◌, refl, sym, ◌∙◌, ap}
use mathlib.Core.Bool.{cond}
use Prim.Native.Nat.{ℕ, ◌-◌, ◌≤◌}
use native.Mathlib.Nat.{mul-le-mul}
use native.Mathlib.Omega.{arith}
use lib.Dec.{eqb}
use lib.IntN.{ℤ, pos, ◌-ℤ◌, ◌*ℤ◌}
use borrow.Author.Tests.{eq-eqb, ne_eqb}
use mir.Syntax.{w32}
use mir.Val.{SFits, to_z}
use mir.Facts.{to_z-of_z}
use mir.ValLaws.{to_z_pos}
use Rattle.energy.proofs.Integers.{diff_parts, mul-parts, fits_parts}
use Rattle.energy.specs.Number.{Within}
use Rattle.energy.proofs.Sums.{sum-within, sum-delivers}
use Rattle.energy.specs.Energy.{cell, delivered_in}
use Rattle.energy.proofs.quarters.delivered.Goals as goal
use Rattle.energy.proofs.quarters.delivered.Goals.{After-total-sum}

abbrev S : After-total-sum → ℤ
S c = c.total-sum.result

abbrev n : After-total-sum → ℕ
n c = c.args.to - c.args.from

abbrev B : After-total-sum → ℤ
B c = c.args.base

abbrev above : After-total-sum → ℤ
above c = pos 4 *ℤ S c -ℤ pos (n c) *ℤ B c

-- at most 30 readings
small : (c : After-total-sum) → Within 15000000 (S c)
small c =
    let a = c.args in
    rw c.total-sum.ensures (omega (arith, sum-within (cell a.meter.now) 500000 a.from a.to c.requires.readable.read))

record Fit (c : After-total-sum) : Type 0 where
  fs : SFits w32 (S c)
  fb : SFits w32 (B c)
  fn : to_z w32 (n c) ≡ pos (n c)
  f4 : SFits w32 (pos 4 *ℤ S c)
  fm : SFits w32 (pos (n c) *ℤ B c)
  fa : SFits w32 (above c)
  fz : SFits w32 (pos 0 -ℤ above c)
  most : Within 120000000 (above c) × Within 120000000 (pos 0 -ℤ above c)

fit : (c : After-total-sum) → Fit c
fit c =
    let s = small c in
    let b = c.requires.within in
    let k : n c ≤ 30 = omega arith in
    let ups = mul-le-mul k b.0 in
    let downs = mul-le-mul k b.1 in
    let four = mul-parts (pos 4) (S c) in
    let base = mul-parts (pos (n c)) (B c) in
    let over = diff_parts (pos 4 *ℤ S c) (pos (n c) *ℤ B c) in
    let turned = diff_parts (pos 0) (above c) in
    record {
      fs = record { sfits = c.total-sum.type_inv };
      fb = fits_parts w32 (B c) (omega arith);
      fn = to_z_pos w32 (n c) (omega arith);
      f4 = fits_parts w32 _ (omega arith);
      fm = fits_parts w32 _ (omega arith);
      fa = fits_parts w32 _ (omega arith);
      fz = fits_parts w32 _ (omega arith);
      most = omega arith;
    }

-- what the definition says, by the contract's kind
value : (c : After-total-sum)
    → delivered_in c.args.kind (B c) c.args.meter.now c.args.from c.args.to
    ≡ cond (eqb c.args.kind 0) (above c) (pos 0 -ℤ above c)
unfolding delivered_in
value c =
    let a = c.args in
    let by : ℤ → ℤ = λ z. pos 4 *ℤ z -ℤ pos (n c) *ℤ B c in
    sum-delivers (cell a.meter.now) a.kind (B c) a.from a.to
    ∙ ap (λ z. cond (eqb a.kind 0) (by z) (pos 0 -ℤ by z)) (sym c.total-sum.ensures)

pub overflow_mul-above : goal.overflow_mul-above
overflow_mul-above c = let f = fit c in simp (to_z-of_z, f.fs) f.f4

pub overflow_sub-above-2 : goal.overflow_sub-above-2
overflow_sub-above-2 c = let f = fit c in simp (to_z-of_z, f.fs, f.fb, f.fn, f.f4, f.fm) f.fa

pub returns-then-kind-eq0 : goal.returns-then-kind-eq0
returns-then-kind-eq0 c =
    let b = c.before in
    let f = fit b in
    simp (to_z-of_z, f.fs, f.fb, f.fn, f.f4, f.fm, f.fa) (sym (value b ∙ rw (eq-eqb b.args.kind 0 c.if-kind-eq0.true) refl), f.most.0)

pub overflow_sub-result : goal.overflow_sub-result
overflow_sub-result c = let f = fit c.before in simp (to_z-of_z, f.fs, f.fb, f.fn, f.f4, f.fm, f.fa) f.fz

pub returns : goal.returns
returns c =
    let b = c.before in
    let f = fit b in
    simp (to_z-of_z, f.fs, f.fb, f.fn, f.f4, f.fm, f.fa, f.fz) (sym (value b ∙ rw (ne_eqb b.args.kind 0 c.if-kind-eq0.false) refl), f.most.1)
