-- What is known of a month and of totals that fit, as plain facts; and that what is added up stays in its range.
use mathlib.Core.Path.{◌≡◌, refl}
use mathlib.Core.Bool.{true}
use mathlib.Core.List.{List}
use Prim.Native.Nat.{ℕ, ◌+◌, ◌*◌, ◌%◌, ◌≤◌}
use native.Mathlib.Omega.{arith}
use lib.Dec.{eqb}
use lib.IntN.{ℤ, pos, neg_ℤ}
use lib.ListN.{length}
use lib.Signed.{le_z}
use borrow.Author.Tests.{leb-true, le-leb, eqb-true}
use Rattle.energy.specs.Energy.{Readable, cell}
use Rattle.energy.specs.Lists.{sum, all, between}
use Rattle.energy.specs.Number.{Within, Upto}
use Rattle.energy.proofs.Integers.{le_z-true, le_z_yes, neg_parts, abs-parts}
use Rattle.energy.proofs.Sums.{all_in, sum-within}
use Rattle.energy.proofs.Tests.{on_and}
use Rattle.commands.specs.Input.{from_to_ℤ, is_reading}
pub use Rattle.commands.proofs.Terms.{reading_within}
use Rattle.watch_step.specs.Month.{month_numbers, kw_at, utilisation_at, optional_at, count_at}
use Rattle.watch_step.specs.Step.{about, month_fits, totals_fit, are_base}
use Rattle.watch_step.specs.declared.totals.Totals.{Totals}

-- a month has all its numbers, and its figures are in their ranges
pub record MonthFit (month : List ℕ) : Type 0 where
  pub long : month_numbers ≤ length month
  pub kw : kw_at month ≤ 500000
  pub utilisation : utilisation_at month ≤ 1000000
  pub optional : optional_at month ≤ 1000000
  pub instructions : count_at month ≤ 64

pub month-fit : (month : List ℕ) → month_fits month ≡ true → MonthFit month
unfolding month_fits
month-fit month e =
    let (four, e-count) = on_and _ _ e in
    let (three, e-optional) = on_and _ _ four in
    let (two, e-utilisation) = on_and _ _ three in
    let (e-long, e-kw) = on_and _ _ two in
    record {
      long = leb-true _ _ e-long;
      kw = leb-true _ _ e-kw;
      utilisation = leb-true _ _ e-utilisation;
      optional = leb-true _ _ e-optional;
      instructions = leb-true _ _ e-count;
    }

-- the two tests of a signed number's range
pub within : (n : ℕ) (z : ℤ) → about n z ≡ true → Within n z
within n z e =
    let (low, high) = on_and (le_z (neg_ℤ (pos n)) z) (le_z z (pos n)) e in
    omega (arith, le_z-true (neg_ℤ (pos n)) z low, le_z-true z (pos n) high, neg_parts (pos n))

pub upto : (n : ℕ) (z : ℤ) → from_to_ℤ (pos 0) (pos n) z ≡ true → Upto n z
upto n z e =
    let (low, high) = on_and (le_z (pos 0) z) (le_z z (pos n)) e in
    omega (arith, le_z-true (pos 0) z low, le_z-true z (pos n) high, abs-parts z)

-- totals are no larger than the minutes so far let them be
pub record TotalsFit (s : Totals) : Type 0 where
  pub base : Within 2000000 s.base
  pub expected : Upto (2000000 * (s.minute.0 % 30 + 1)) s.expected
  pub delivered : Within (4000000 * (s.minute.0 % 30 + 1)) s.delivered
  pub capped : Within (500000 * (s.minute.0 + 1)) s.capped.0
  pub pence : Within (500000000 * (s.minute.0 + 1)) s.pence.0

pub totals_fit_lem : (s : Totals) → totals_fit s ≡ true → TotalsFit s
unfolding totals_fit
totals_fit_lem s e =
    let (four, e-pence) = on_and _ _ e in
    let (three, e-capped) = on_and _ _ four in
    let (two, e-delivered) = on_and _ _ three in
    let (e-base, e-expected) = on_and _ _ two in
    record {
      base = within 2000000 s.base e-base;
      expected = upto (2000000 * (s.minute.0 % 30 + 1)) s.expected e-expected;
      delivered = within (4000000 * (s.minute.0 % 30 + 1)) s.delivered e-delivered;
      capped = within (500000 * (s.minute.0 + 1)) s.capped.0 e-capped;
      pence = within (500000000 * (s.minute.0 + 1)) s.pence.0 e-pence;
    }

-- ---- and back: what the tests answer of such a month and of such totals

pub month_test : (month : List ℕ) → MonthFit month → month_fits month ≡ true
unfolding month_fits
month_test month f =
    rw (
      le-leb month_numbers (length month) f.long,
      le-leb (kw_at month) 500000 f.kw,
      le-leb (utilisation_at month) 1000000 f.utilisation,
      le-leb (optional_at month) 1000000 f.optional,
      le-leb (count_at month) 64 f.instructions,
    )
    refl

about_yes : (n : ℕ) (z : ℤ) → Within n z → about n z ≡ true
about_yes n z h = rw (le_z_yes (neg_ℤ (pos n)) z (omega (arith, neg_parts (pos n))), le_z_yes z (pos n) (omega arith)) refl

upto_yes : (n : ℕ) (z : ℤ) → Upto n z → from_to_ℤ (pos 0) (pos n) z ≡ true
upto_yes n z h = rw (le_z_yes (pos 0) z (omega arith), le_z_yes z (pos n) (omega (arith, abs-parts z))) refl

pub totals_test : (s : Totals) → TotalsFit s → totals_fit s ≡ true
unfolding totals_fit
totals_test s f =
    rw (
      about_yes 2000000 s.base f.base,
      upto_yes (2000000 * (s.minute.0 % 30 + 1)) s.expected f.expected,
      about_yes (4000000 * (s.minute.0 % 30 + 1)) s.delivered f.delivered,
      about_yes (500000 * (s.minute.0 + 1)) s.capped.0 f.capped,
      about_yes (500000000 * (s.minute.0 + 1)) s.pence.0 f.pence,
    )
    refl

-- ---- base readings

-- four base readings can be summed, and are at most four times a reading
pub base_readable : (base : List ℤ) → are_base base ≡ true → Readable base 0 4
unfolding are_base between
base_readable base e =
    let (long, read) = on_and (eqb (length base) 4) (all (λ j. is_reading (cell base j)) (between 0 4)) e in
    record {
      order = omega arith;
      short = omega arith;
      inside = omega (arith, eqb-true (length base) 4 long);
      read = λ m h l. reading_within (cell base m) (all_in (λ j. is_reading (cell base j)) 0 4 read m h l);
    }

pub base_within : (base : List ℤ) → are_base base ≡ true → Within 2000000 (sum (cell base) (between 0 4))
base_within base e = sum-within (cell base) 500000 0 4 (base_readable base e).read
