-- The span of a book, and the minutes that lent memory must have room for: those of its ledger.
use mathlib.Core.Path.{◌≡◌, sym, ap, ◌∙◌}
use mathlib.Core.Bool.{Bool, true, false, cond, ◌&&◌}
use mathlib.Core.List.{List, [], ◌∷◌}
use Prim.Native.Nat.{ℕ, ◌+◌, ◌-◌, ◌≤◌, ◌<◌}
use native.Mathlib.Omega.{arith}
use lib.Dec.{T, leb}
use borrow.Author.Tests.{leb-false}
use Rattle.book_memory.specs.Meter.{Memory}
use Rattle.energy.proofs.Tests.{T_and, and_T, to-T, either}
use Rattle.commands.specs.Input.{from_to, is_reading, meterable, most_minute}
use Rattle.commands.specs.declared.entries.Reading.{Reading}
use Rattle.energy.specs.Lists.{all, pass}
use Rattle.calendar.specs.Calendar.{no_date, is_no_date, gained_in, lost_in}
use Rattle.calendar.specs.declared.Date.{Date}
use Rattle.calendar.proofs.Months.{gained_most, no_date_lem}
use Rattle.commands.specs.declared.contract.Contract.{Contract}
use Rattle.rules.specs.Ledger.{span_of, full_span, contract_of, span_in, cells_in}
use Rattle.rules.proofs.Span.{cells_none, span_cells as span_below}
use Rattle.rules.specs.Reached.{date_sound, agreed_tests}
use Rattle.commands.proofs.Chain.{true_or_false}
use Rattle.commands.proofs.Terms.{ranges}
use Rattle.book.specs.Book.{book_span, book_cells, ledger_in}
use Rattle.book.specs.Sound.{sound}
use Rattle.book.specs.declared.Book.{Book}
use Rattle.book.proofs.SoundTests.{contents, sound_used, contract_is, date_is, sound_empty}

-- each minute of the span has a cell
pub span_cells : (b : Book) → book_span b ≤ book_cells b
unfolding book_span book_cells
span_cells b = omega arith

-- no fewer than the contract's month has undated
pub own_span : (b : Book) → span_of b.contract ≤ book_cells b
unfolding book_cells
own_span b = omega arith

-- without a date it is just that
pub undated_span_lem : (k : Contract) (d : Date) → d ≡ no_date → full_span k d - lost_in d.month ≡ span_of k
unfolding gained_in lost_in
undated_span_lem k d q = let now : full_span k d - lost_in d.month ≡ span_of k + 0 - 0 = ap (λ x. full_span k x - lost_in x.month) q in omega (arith, now)

pub span_undated : (b : Book) (meter : Memory) → (ledger_in b meter).dates ≡ [] → book_span b ≡ span_of b.contract
unfolding book_span ledger_in
span_undated b meter e =
    either (is_no_date b.date) (λ h. undated_span_lem b.contract b.date (no_date_lem b.date (to-T h)))
    (λ h. let full : ◌≡◌ {A = List Date} (b.date ∷ []) [] = rw h at e in let z : ◌≡◌ {A = ℕ} 0 1 = cc in absurd (omega arith))

-- ---- with a contract

pub span_is : (b : Book) (meter : Memory) → b.agreed ≡ true → span_in (ledger_in b meter) ≡ book_span b
unfolding span_in book_span
span_is b meter s i = full_span (contract_is b meter s i) (date_is b meter i) - lost_in (date_is b meter i).month

pub cells_is : (b : Book) (meter : Memory) → b.agreed ≡ true → cells_in (ledger_in b meter) ≡ book_cells b
unfolding cells_in book_cells
cells_is b meter s i = full_span (contract_is b meter s i) (date_is b meter i)

-- the tests of its date and of what is in the tables are those of the ledger
module _ (b : Book) (meter : Memory) (s : b.agreed ≡ true) where
  abbrev dated : Bool
  dated = let g = ledger_in b meter in all (date_sound (contract_of g)) g.dates

  abbrev used : Bool
  used = let g = ledger_in b meter in pass (agreed_tests (contract_of g) (span_in g) g.windows g.instructions g.defaults)

  contents_are : pass (contents b b.agreed) ≡ (dated && used)
  unfolding ledger_in pass
  contents_are = rw (span_is b meter s, contract_is b meter s, s)

  pub contents_pass : T dated → T used → T (pass (contents b b.agreed))
  contents_pass d u = rw contents_are (and_T dated used d u)

  pub contents_passed : T (pass (contents b b.agreed)) → T dated × T used
  contents_passed t = T_and dated used (rw contents_are at t)

-- a reading of either kind that is allowed is in the span, and a number of its range
pub reading_fits : (b : Book) (meter : Memory) (r : Reading) → b.agreed ≡ true → T (meterable r) → leb (span_in (ledger_in b meter)) r.minute.0 ≡ false
    → (r.minute.0 < book_span b) × T (is_reading r.kw.0)
reading_fits b meter r s t e = (
  leb-false (book_span b) r.minute.0 (rw (span_is b meter s) at e),
  (T_and (from_to 0 most_minute r.minute.0) (is_reading r.kw.0) t).1,
)

-- ---- without one

none : (b : Book) (meter : Memory) → sound b ≡ true → b.agreed ≡ false → cells_in (ledger_in b meter) ≡ 0
unfolding ledger_in
none b meter e s =
    cells_none (ledger_in b meter) (ap (λ x. cond x (b.contract ∷ []) []) s) (ap (λ d. cond (is_no_date d) [] (d ∷ [])) (sound_empty b e s).date)

pub cells_empty : (b : Book) → sound b ≡ true → b.agreed ≡ false → book_cells b ≡ 0
unfolding book_cells gained_in
cells_empty b e s i = full_span ((sound_empty b e s).contract i) ((sound_empty b e s).date i)

pub span_empty : (b : Book) → sound b ≡ true → b.agreed ≡ false → book_span b ≡ 0
span_empty b e s = omega (arith, span_cells b, cells_empty b e s)

-- ---- of a sound book

pub span_sound : (b : Book) (meter : Memory) → sound b ≡ true → span_in (ledger_in b meter) ≡ book_span b
span_sound b meter e =
    true_or_false b.agreed (span_is b meter) (λ s. omega (arith, span_below (ledger_in b meter), none b meter e s, span_empty b e s))

pub cells_sound : (b : Book) (meter : Memory) → sound b ≡ true → cells_in (ledger_in b meter) ≡ book_cells b
cells_sound b meter e = true_or_false b.agreed (cells_is b meter) (λ s. none b meter e s ∙ sym (cells_empty b e s))

pub cells_most : (b : Book) → sound b ≡ true → book_cells b ≤ most_minute
unfolding book_cells
cells_most b e =
    true_or_false b.agreed (λ s. let p = sound_used b e s in omega (arith, (ranges b.contract p.operands).days, gained_most b.date.month))
    (λ s. omega (arith, cells_empty b e s))
