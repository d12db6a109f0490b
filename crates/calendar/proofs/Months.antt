-- Laws of months: how many days they have, the hour gained or lost, and what a date's numbers are.
use mathlib.Core.Path.{◌≡◌, refl}
use mathlib.Core.Bool.{Bool, true, false, cond, ◌&&◌}
use mathlib.Core.List.{◌∷◌}
use mathlib.Core.Logic.{◌⊎◌, inl, inr}
use Prim.Native.Nat.{ℕ, ◌≤◌, ◌<◌, zero-le}
use native.Mathlib.Omega.{arith}
use lib.Dec.{T, eqb, leb}
use lib.ListN.{get_or, get_or-eq_default}
use borrow.Author.Tests.{eqb-true, leb-true, ne_eqb}
use Rattle.energy.specs.Lists.{all, between, run}
use Rattle.energy.proofs.Tests.{of_T, T_and, either-le, either-eq}
use Rattle.energy.proofs.Sums.{all_in}
use Rattle.calendar.specs.Calendar.{is_leap, month_lengths, days_of, year_days, from_to, is_date, no_date, is_no_date, gained_in, lost_in}
use Rattle.calendar.specs.declared.Date.{Date}

-- ---- days

-- no month after the twelfth has a day
pub no_month : (y m : ℕ) → 13 ≤ m → days_of y m ≡ 0
unfolding days_of
no_month y m h = get_or-eq_default (0 ∷ month_lengths (is_leap y)) 0 h

-- what a computed test finds of each month, in leap years and in others, holds of it
pub each_month : (test : ℕ → ℕ → Bool) (a b : ℕ) → ((leap : Bool) → all (λ m. test m (get_or (0 ∷ month_lengths leap) m 0)) (between a b) ≡ true)
    → (y m : ℕ) → a ≤ m → m < b → test m (days_of y m) ≡ true
unfolding days_of
each_month test a b t y m h k = all_in (λ m. test m (get_or (0 ∷ month_lengths (is_leap y)) m 0)) a b (t (is_leap y)) m h k

pub days_most : (y m : ℕ) → days_of y m ≤ 31
unfolding all between run
days_most y m =
    either-le 13 m (λ h. omega (arith, no_month y m h))
    (λ h. leb-true (days_of y m) 31 (each_month (λ m d. leb d 31) 0 13 (elim [ true ↦ refl | false ↦ refl ]) y m zero-le h))

pub month-days_least : (y m : ℕ) → 1 ≤ m → m ≤ 12 → 28 ≤ days_of y m
unfolding all between run
month-days_least y m h k =
    leb-true 28 (days_of y m) (each_month (λ m d. leb 28 d) 1 13 (elim [ true ↦ refl | false ↦ refl ]) y m h (omega arith))

pub year_days_most : (y : ℕ) → year_days y ≤ 366
year_days_most y = elim (is_leap y) as (λ b. cond b 366 365 ≤ 366) [ true ↦ omega arith | false ↦ omega arith ]

-- ---- the hour gained or lost

pub gained_is : (m : ℕ) → (gained_in m ≡ 0) ⊎ ((m ≡ 10) × (gained_in m ≡ 60))
unfolding gained_in
gained_is m = either-eq m 10 (λ e. inr (e, rw e refl)) (λ e. inl (rw (ne_eqb m 10 e) refl))

pub gained_most : (m : ℕ) → gained_in m ≤ 60
gained_most m = elim (gained_is m) [ inl e ↦ omega arith | inr e ↦ omega arith ]

pub lost_most : (m : ℕ) → lost_in m ≤ 60
unfolding lost_in
lost_most m = elim (eqb m 3) as (λ b. cond b 60 0 ≤ 60) [ true ↦ omega arith | false ↦ omega arith ]

-- ---- dates

-- the ranges of a date's numbers
pub record DateRanges (d : Date) : Type 0 where
  pub year_least : 2007 ≤ d.year
  pub year_most : d.year ≤ 2099
  pub month_least : 1 ≤ d.month
  pub month_most : d.month ≤ 12
  pub day_least : 1 ≤ d.day
  pub day_most : d.day ≤ 31
  pub day_of_month : d.day ≤ days_of d.year d.month

-- n is from a to b
in_range_lem : (a b n : ℕ) → T (from_to a b n) → (a ≤ n) × (n ≤ b)
in_range_lem a b n t =
    let (l, h) = T_and (leb a n) (leb n b) t in
    (leb-true a n (of_T _ l), leb-true n b (of_T _ h))

pub ranges_of : (d : Date) → T (is_date d) → DateRanges d
unfolding is_date
ranges_of d t =
    let year = from_to 2007 2099 d.year in
    let month = from_to 1 12 d.month in
    let days = days_of d.year d.month in
    let (ym, dd) = T_and (year && month) (from_to 1 days d.day) t in
    let (yy, mm) = T_and year month ym in
    let y = in_range_lem 2007 2099 d.year yy in
    let m = in_range_lem 1 12 d.month mm in
    let i = in_range_lem 1 days d.day dd in
    let most = days_most d.year d.month in
    record {
      year_least = y.0;
      year_most = y.1;
      month_least = m.0;
      month_most = m.1;
      day_least = i.0;
      day_most = omega arith;
      day_of_month = i.1;
    }

pub days_least : (d : Date) → T (is_date d) → 28 ≤ days_of d.year d.month
days_least d t = let r = ranges_of d t in month-days_least d.year d.month r.month_least r.month_most

pub no_date_lem : (d : Date) → T (is_no_date d) → d ≡ no_date
no_date_lem d t =
    let (ym, dd) = T_and (eqb d.year 0 && eqb d.month 0) (eqb d.day 0) t in
    let (yy, mm) = T_and (eqb d.year 0) (eqb d.month 0) ym in
    let y = eqb-true d.year 0 (of_T _ yy) in
    let m = eqb-true d.month 0 (of_T _ mm) in
    let i = eqb-true d.day 0 (of_T _ dd) in
    made d.year d.month d.day y m i
  where
    made : (y m i : ℕ) → y ≡ 0 → m ≡ 0 → i ≡ 0 → ◌≡◌ {A = Date} (record { year = y; month = m; day = i }) no_date
    made y m i e f g = rw (e, f, g) refl

pub date_some : (d : Date) → T (is_date d) → is_no_date d ≡ false
date_some d t = let r = ranges_of d t in rw (ne_eqb d.year 0 (λ e. omega (arith, r.year_least))) refl
