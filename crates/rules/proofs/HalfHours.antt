-- Every month with a date: its span is the half hours of its days, and a March asks for the room that it asked for undated.
use mathlib.Core.Path.{◌≡◌, refl, sym, ap, subst, ◌∙◌}
use mathlib.Core.Bool.{◌&&◌}
use mathlib.Core.List.{[], ◌∷◌}
use Prim.Native.Nat.{ℕ, ◌+◌, ◌*◌}
use native.Mathlib.Omega.{arith}
use lib.Dec.{T, eqb}
use lib.ListN.{length}
use borrow.Author.Tests.{eqb-true}
use Rattle.energy.specs.Lists.{first, all, between, sum_ℕ}
use Rattle.energy.proofs.Tests.{T_and, of_T}
use Rattle.calendar.specs.Calendar.{days_of, gained_in, is_date, lost_in, no_date, periods_on}
use Rattle.calendar.specs.declared.Date.{Date}
use Rattle.calendar.proofs.Months.{ranges_of}
use Rattle.calendar.proofs.Year.{month-periods}
use Rattle.rules.specs.Ledger.{Ledger, ledger_of, contract_of, date_of, full_span, span_in, cells_in}
use Rattle.rules.specs.Refusal.{taken}
use Rattle.rules.specs.Reached.{date_sound, Reached, untouched, agreed}
use Rattle.rules.specs.Dates.{Dated·theorem, MarchCells·theorem}
use Rattle.commands.specs.declared.contract.Contract.{Contract}
use Rattle.commands.specs.declared.entries.Command.TheVariants.{Date as dateᶜ}
use Rattle.rules.proofs.Taken.{allowed, ledger_of-snoc}
use Rattle.rules.proofs.Span.{cells_dated}
use Rattle.rules.proofs.Reached.{bare, reached}

-- the minutes of a month with the hour of its date, by the days that the contract and the month share
half_hours : (k : Contract) (d : Date) → T (date_sound k d)
    → full_span k d ≡ 30 * sum_ℕ (periods_on d.year d.month) (between 1 (k.days + 1)) + lost_in d.month
half_hours k d t =
    let (first, days) = T_and (is_date d && eqb d.day 1) (eqb (days_of d.year d.month) k.days) t in
    let r = ranges_of d (T_and (is_date d) (eqb d.day 1) first).0 in
    let e : days_of d.year d.month ≡ k.days = eqb-true (days_of d.year d.month) k.days (of_T _ days) in
    sym (subst (λ n. 30 * sum_ℕ (periods_on d.year d.month) (between 1 (n + 1)) + lost_in d.month ≡ 1440 * n + gained_in d.month) e
    (month-periods d.year d.month r.month_least r.month_most))

-- a ledger that commands leave, with a date
span_dated : (size : ℕ) (g : Ledger) → Reached size g → (d : Date) → g.dates ≡ d ∷ []
    → span_in g ≡ 30 * sum_ℕ (periods_on d.year d.month) (between 1 ((contract_of g).days + 1))
unfolding span_in date_of first all
span_dated size g (untouched u) d e = absurd (omega (arith, ap length (sym u.dates ∙ e)))
span_dated size g (agreed a) d e =
    let sound : T (all (date_sound (contract_of g)) (d ∷ [])) = subst (λ ds. T (all (date_sound (contract_of g)) ds)) e a.dated in
    let is : date_of g ≡ d = ap (first no_date) e in
    rw is (omega (arith, half_hours (contract_of g) d (T_and (date_sound (contract_of g) d) _ sound).0))

pub dated : Dated·theorem
dated size cs d e = span_dated size (ledger_of (taken size cs)) (reached size cs) d e

-- a ledger without a date, and a March's
march_cells_lem : (g : Ledger) (d : Date) → g.dates ≡ [] → d.month ≡ 3 → full_span (contract_of g) d ≡ cells_in g
unfolding cells_in date_of first gained_in
march_cells_lem g d none march = rw (march, none) refl

pub march_cells_same : MarchCells·theorem
march_cells_same size cs d march e =
    let g : Ledger = ledger_of (taken size cs) in
    let none = (bare g d (allowed size g (dateᶜ d) e).kind.early).dates in
    ap cells_in (ledger_of-snoc (taken size cs) (dateᶜ d)) ∙ cells_dated g d none ∙ march_cells_lem g d none march
