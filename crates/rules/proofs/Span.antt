-- The span of a ledger, and the minutes that lent memory must have room for.
use mathlib.Core.Path.{◌≡◌, ap, ◌∙◌}
use mathlib.Core.List.{[], ◌∷◌, ◌++◌, append-nil}
use Prim.Native.Nat.{ℕ, ◌+◌, ◌-◌, ◌%◌, ◌≤◌, ◌<◌, max}
use native.Mathlib.Nat.{le_refl, le-max_left}
use native.Mathlib.Omega.{arith}
use Rattle.commands.specs.Command.{on_date, always}
use Rattle.commands.specs.Input.{most_minute}
use Rattle.commands.proofs.ByKind.{date_or_not}
use lib.Dec.{eqb}
use Rattle.energy.specs.Lists.{first}
use Rattle.energy.proofs.Tests.{either}
use Rattle.calendar.specs.Calendar.{no_date, gained_in, lost_in}
use Rattle.calendar.specs.declared.Date.{Date}
use Rattle.calendar.proofs.Months.{gained_most, lost_most}
use Rattle.rules.specs.Ledger.{Ledger, no_contract, contract_of, contract_in, date_of, date_in, span_of, full_span, span_in, cells_in}
use Rattle.commands.specs.declared.contract.Contract.{Contract}
use Rattle.commands.specs.declared.entries.Command.{Command}
use Rattle.commands.specs.declared.entries.Command.TheVariants.{Contract as contractᶜ, Date as dateᶜ}
use Rattle.commands.proofs.Terms.{Terms}
use Rattle.rules.proofs.Taken.{grown}

-- each minute of the span has a cell
pub span_cells : (g : Ledger) → span_in g ≤ cells_in g
unfolding span_in cells_in
span_cells g = omega arith

-- no fewer than the contract's month has undated
pub own_cells : (g : Ledger) → span_of (contract_of g) ≤ cells_in g
unfolding cells_in
own_cells g = omega arith

-- under a contract that could be taken
pub cells_most : (g : Ledger) → Terms (contract_of g) → cells_in g ≤ most_minute
unfolding cells_in
cells_most g t = omega (arith, t.ranges.days, gained_most (date_of g).month)

-- and there is a minute
pub span_some : (g : Ledger) → Terms (contract_of g) → 0 < span_in g
unfolding span_in
span_some g t = omega (arith, t.ranges.days, lost_most (date_of g).month)

-- it is of whole periods
hour : (m : ℕ) → (gained_in m % 60 ≡ 0) × (lost_in m % 60 ≡ 0)
unfolding gained_in lost_in
hour m =
    either (eqb m 10) (λ e. either (eqb m 3) (λ f. (rw e, rw f)) (λ f. (rw e, rw f))) (λ e. either (eqb m 3) (λ f. (rw e, rw f)) (λ f. (rw e, rw f)))

pub span_periods : (g : Ledger) → span_in g % 30 ≡ 0
unfolding span_in
span_periods g = omega (arith, hour (date_of g).month)

-- without a contract and a date there is none
pub cells_none : (g : Ledger) → g.contracts ≡ [] → g.dates ≡ [] → cells_in g ≡ 0
unfolding cells_in contract_of date_of first gained_in
cells_none g e d i = full_span (first no_contract (e i)) (first no_date (d i))

-- contract and date decide
pub span_same : (g h : Ledger) → g.contracts ≡ h.contracts → g.dates ≡ h.dates → span_in g ≡ span_in h
unfolding span_in contract_of date_of
span_same g h e d i = full_span (first no_contract (e i)) (first no_date (d i)) - lost_in (first no_date (d i)).month

pub cells_same : (g h : Ledger) → g.contracts ≡ h.contracts → g.dates ≡ h.dates → cells_in g ≡ cells_in h
unfolding cells_in contract_of date_of
cells_same g h e d i = full_span (first no_contract (e i)) (first no_date (d i))

-- 15 asks of a command no less than the book needs
pub cells_asked : (g : Ledger) (c : Command) → cells_in g ≤ on_date (λ d. max (cells_in g) (full_span (contract_of g) d)) (always (cells_in g)) c
cells_asked g =
    date_or_not (λ c. cells_in g ≤ on_date (λ d. max (cells_in g) (full_span (contract_of g) d)) (always (cells_in g)) c)
    (λ d. le-max_left (cells_in g) (full_span (contract_of g) d))
    (λ c o. rw (o _ (λ d. max (cells_in g) (full_span (contract_of g) d)) (always (cells_in g))) (le_refl (cells_in g)))

-- ---- one command more

module _ (g : Ledger) (c : Command) (e : contract_in c ≡ []) (d : date_in c ≡ []) where
  same : g.contracts ++ contract_in c ≡ g.contracts
  same = ap (λ l. g.contracts ++ l) e ∙ append-nil g.contracts

  undated : g.dates ++ date_in c ≡ g.dates
  undated = ap (λ l. g.dates ++ l) d ∙ append-nil g.dates

  -- one that is no contract and no date leaves them
  pub span_kept : span_in (grown g c) ≡ span_in g
  span_kept = span_same (grown g c) g same undated

  pub cells_kept : cells_in (grown g c) ≡ cells_in g
  cells_kept = cells_same (grown g c) g same undated

-- the first contract brings its own
pub cells_new : (g : Ledger) (k : Contract) → g.contracts ≡ [] → g.dates ≡ [] → cells_in (grown g (contractᶜ k)) ≡ span_of k
unfolding cells_in contract_of date_of first gained_in
cells_new g k e d =
    let now : cells_in (grown g (contractᶜ k)) ≡ span_of k + 0 = λ i. full_span (first no_contract (e i ++ (k ∷ []))) (first no_date (append-nil (d i) i)) in
    omega (arith, now)

-- the first date asks for what its month needs
pub cells_dated : (g : Ledger) (d : Date) → g.dates ≡ [] → cells_in (grown g (dateᶜ d)) ≡ full_span (contract_of g) d
unfolding cells_in contract_of date_of first
cells_dated g d e i = full_span (first no_contract (append-nil g.contracts i)) (first no_date (e i ++ (d ∷ [])))
