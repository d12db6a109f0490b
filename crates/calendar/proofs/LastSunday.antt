-- Of seven days in a row exactly one is a Sunday, so a month has one last Sunday.
use mathlib.Core.Path.{◌≡◌, refl, ap, ◌∙◌}
use mathlib.Core.Bool.{cond, ◌&&◌, and-true, and-false}
use Prim.Native.Nat.{ℕ, zero, suc, ◌+◌, ◌-◌, ◌*◌, ◌%◌, ◌≤◌, ◌<◌}
use native.Mathlib.Omega.{arith}
use lib.Dec.{eqb, ltb}
use borrow.Author.Tests.{lt-ltb, le-ltb}
use Rattle.energy.specs.Lists.{between, run, sum_ℕ}
use Rattle.energy.proofs.Sums.{between_split}
use Rattle.calendar.specs.Calendar.{days_of, year_days, day_number, is_last_sunday}
use Rattle.calendar.proofs.Days.{sum-append, sum_ext, sum_same, sum_shift}
use Rattle.calendar.proofs.Months.{month-days_least}

-- what comes back every seventh day has the same sum over any seven in a row
pub any_seven : (w : ℕ → ℕ) → ((n : ℕ) → w (n + 7) ≡ w n) → (n : ℕ) → sum_ℕ w (run n 7) ≡ sum_ℕ w (run 0 7)
unfolding sum_ℕ run
any_seven w back zero = refl
any_seven w back (suc n) =
    let e : n + 7 ≡ suc (suc (suc (suc (suc (suc (suc n)))))) = omega arith in
    omega (arith, rw e at (back n), any_seven w back n)

-- p on a Sunday, q on another day
abbrev on_sunday : ℕ → ℕ → ℕ → ℕ
on_sunday p q n = cond (eqb (n % 7) 0) p q

-- so one of seven is a Sunday
one_sunday : (p q n : ℕ) → sum_ℕ (on_sunday p q) (run n 7) ≡ p + 6 * q
unfolding sum_ℕ run
one_sunday p q n =
    any_seven (on_sunday p q) (λ k. let e : (k + 7) % 7 ≡ k % 7 = omega arith in rw e refl) n ∙ omega arith

-- among the days 1 to D of a month before which there are a days, with p for the last Sunday and q for every other day
abbrev on_last : ℕ → ℕ → ℕ → ℕ → ℕ → ℕ
on_last p q a D d = cond (eqb ((a + d) % 7) 0 && ltb D (d + 7)) p q

sum-last : (p q a D : ℕ) → 7 ≤ D → sum_ℕ (on_last p q a D) (between 1 (D + 1)) ≡ q * (D - 1) + p
unfolding between
sum-last p q a D h =
    let k = D - 6 in
    let w = on_last p q a D in
    let seven : D + 1 - k ≡ 7 = omega arith in
    let six : D - 1 ≡ k - 1 + 6 = omega arith in
    let early : sum_ℕ w (between 1 k) ≡ q * (k - 1) =
    sum_same w q 1 k (λ d i j. let n : d + 7 ≤ D = omega arith in rw (le-ltb D (d + 7) n, and-false (eqb ((a + d) % 7) 0)) refl)
    in
    let late : sum_ℕ w (between k (D + 1)) ≡ sum_ℕ (λ d. on_sunday p q (a + d)) (between k (D + 1)) =
    sum_ext w (λ d. on_sunday p q (a + d)) k (D + 1)
    (λ d i j. let n : D < d + 7 = omega arith in rw (lt-ltb D (d + 7) n, and-true (eqb ((a + d) % 7) 0)) refl)
    in
    let one : sum_ℕ (λ d. on_sunday p q (a + d)) (between k (D + 1)) ≡ p + 6 * q =
    rw seven (sum_shift (on_sunday p q) a k 7 ∙ one_sunday p q (a + k))
    in
    ap (sum_ℕ w) (between_split 1 k (D + 1) (omega arith) (omega arith)) ∙ sum-append w (between 1 k) (between k (D + 1))
    ∙ omega (arith, early, late, one, ap (λ n. q * n) six)

pub month-sum : (p q y m : ℕ) → 1 ≤ m → m ≤ 12 → sum_ℕ (λ d. cond (is_last_sunday y m d) p q) (between 1 (days_of y m + 1)) ≡ q * (days_of y m - 1) + p
unfolding day_number
month-sum p q y m h k =
    sum-last p q (sum_ℕ year_days (between 2007 y) + sum_ℕ (days_of y) (between 1 m)) (days_of y m) (omega (arith, month-days_least y m h k))
