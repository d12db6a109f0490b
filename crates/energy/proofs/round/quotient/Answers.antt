-- `energy::round::quotient` meets its contract: n = d q + r with r nearer 0 than d, and q + 1, q - 1 or q is the nearest. Assumes nothing.
use mathlib.Core.Path.{◌≡◌, ◌∙◌, ap}
use Prim.Native.Nat.{ℕ, ◌+◌, ◌*◌, ◌≤◌, ◌<◌}
use native.Mathlib.Nat.{mul-le-mul_left}
use native.Mathlib.Omega.{arith}
use lib.IntN.{ℤ, pos, ◌+ℤ◌, ◌-ℤ◌, ◌*ℤ◌}
use lib.Signed.{quot_z, rem_z}
use mir.Syntax.{w64}
use mir.Val.{SFits, to_z}
use mir.Facts.{to_z-of_z}
use mir.ValLaws.{to_z_pos}
use Rattle.energy.specs.Number.{up, down}
use Rattle.energy.proofs.Integers.{add_parts, diff_parts, mul-parts, fits_parts, fits_sum, fits_diff, fits_product, parts-fit, quot_rem, tests_ℤ}
use Rattle.energy.proofs.Rounding.{nearest_by}
use Rattle.energy.proofs.round.quotient.Goals as goal
use Rattle.energy.proofs.round.quotient.Goals.{Start, Then-r-m, Then-r-m-2}

abbrev n : Start → ℤ
n c = c.args.n

abbrev d : Start → ℕ
d c = c.args.d

abbrev q : Start → ℤ
q c = quot_z (n c) (pos (d c))

abbrev r : Start → ℤ
r c = rem_z (n c) (pos (d c))

-- every number on the way fits, so the machine reads back what it wrote
record Fit (c : Start) : Type 0 where
  fn : SFits w64 (n c)
  fd : to_z w64 (d c) ≡ pos (d c)
  fq : SFits w64 (q c)
  fr : SFits w64 (r c)
  f2 : SFits w64 (pos 2 *ℤ r c)
  fm : SFits w64 (pos 0 -ℤ pos (d c))

fit : (c : Start) → Fit c
fit c =
    let s = quot_rem (n c) (d c) c.requires in
    let b = parts-fit w64 (n c) c.ranges.n in
    record {
      fn = c.ranges.n;
      fd = to_z_pos w64 (d c) (omega arith);
      fq = fits_parts w64 (q c) (omega arith);
      fr = fits_parts w64 (r c) (omega arith);
      f2 = fits_product w64 (pos 2) (r c) (omega arith);
      fm = fits_diff w64 (pos 0) (pos (d c)) (omega arith);
    }

-- the tests, by the parts of r
over : (c : Then-r-m) → d c.before + 2 * down (r c.before) ≤ 2 * up (r c.before)
over c =
    let s = c.before in
    let f = fit s in
    let test = simp (to_z-of_z, f.fn, f.fd, f.fr, f.f2) at c.if-r-m.true in
    omega (arith, tests_ℤ, mul-parts (pos 2) (r s))

under : (c : Then-r-m-2) → 2 * up (r c.before.before) + d c.before.before < 2 * down (r c.before.before)
under c =
    let s = c.before.before in
    let f = fit s in
    let test = simp (to_z-of_z, f.fn, f.fd, f.fr, f.f2, f.fm) at c.if-r-m-2.true in
    omega (arith, tests_ℤ, mul-parts (pos 2) (r s), diff_parts (pos 0) (pos (d s)))

-- a remainder that is at least half of d needs a d of 2 or more, and the quotient is then at most half of n
pub overflow_add-result : goal.overflow_add-result
overflow_add-result c =
    let s = c.before in
    let f = fit s in
    let two : 2 ≤ d s = omega (arith, over c, quot_rem (n s) (d s) s.requires) in
    simp (to_z-of_z, f.fn, f.fd, f.fq)
    (fits_sum w64 (q s) _ (omega (arith, quot_rem (n s) (d s) s.requires, parts-fit w64 (n s) f.fn, mul-le-mul_left (up (q s)) two)))

pub overflow_sub-result : goal.overflow_sub-result
overflow_sub-result c =
    let s = c.before.before in
    let f = fit s in
    let two : 2 ≤ d s = omega (arith, under c, quot_rem (n s) (d s) s.requires) in
    simp (to_z-of_z, f.fn, f.fd, f.fq)
    (fits_sum w64 (q s) _ (omega (arith, quot_rem (n s) (d s) s.requires, parts-fit w64 (n s) f.fn, mul-le-mul_left (down (q s)) two)))

pub returns-then-r-m : goal.returns-then-r-m
returns-then-r-m c =
    let s = c.before in
    let f = fit s in
    to_z-of_z (overflow_add-result c)
    ∙ simp (to_z-of_z, f.fn, f.fd, f.fq)
    (nearest_by (n s) (d s) (q s +ℤ pos 1) (omega (arith, quot_rem (n s) (d s) s.requires, over c, ap (λ x. d s * x) (add_parts (q s) (pos 1)).same)))

pub returns-then-r-m-2 : goal.returns-then-r-m-2
returns-then-r-m-2 c =
    let s = c.before.before in
    let f = fit s in
    to_z-of_z (overflow_sub-result c)
    ∙ simp (to_z-of_z, f.fn, f.fd, f.fq)
    (nearest_by (n s) (d s) (q s -ℤ pos 1) (omega (arith, quot_rem (n s) (d s) s.requires, under c, ap (λ x. d s * x) (diff_parts (q s) (pos 1)).same)))

pub returns : goal.returns
returns c =
    let s = c.before.before in
    let f = fit s in
    let not-over = simp (to_z-of_z, f.fn, f.fd, f.fr, f.f2) at c.if-r-m.false in
    let not-under = simp (to_z-of_z, f.fn, f.fd, f.fr, f.f2, f.fm) at c.if-r-m-2.false in
    simp (to_z-of_z, f.fn, f.fd, f.fq)
    (nearest_by (n s) (d s) (q s)
    (omega (arith, tests_ℤ, quot_rem (n s) (d s) s.requires, mul-parts (pos 2) (r s), diff_parts (pos 0) (pos (d s)))))
