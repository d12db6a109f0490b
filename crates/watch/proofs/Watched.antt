-- Live totals are the rules': the month that a book's call gives has the ledger's numbers, and the steps over it go as the rules do.
use mathlib.Core.Path.{◌≡◌, refl, sym, ap, ◌∙◌, subst}
use mathlib.Core.Bool.{Bool, true, false, cond, not}
use mathlib.Core.List.{List, [], ◌∷◌, ◌++◌}
use Prim.Native.Nat.{ℕ, suc, ◌+◌, ◌*◌, ◌/◌, ◌≤◌, ◌<◌, zero-le}
use native.Mathlib.Omega.{arith}
use lib.Dec.{eqb}
use lib.IntN.{+ℤ_idl}
use lib.ListN.{length, drop, get_or, length-append, get_or-append}
use lib.Seq.{take-length}
use borrow.Author.Tests.{le-ltb, lt-ltb}
use Rattle.energy.specs.Lists.{sum}
use Rattle.commands.specs.Input.{first_met}
use Rattle.commands.specs.declared.contract.Contract.{Contract}
use Rattle.commands.specs.declared.entries.Command.{Command}
use Rattle.commands.specs.declared.entries.Instruction.{Instruction}
use Rattle.rules.specs.Ledger.{Ledger, contract_of, ledger_of, no_instruction, span_in}
use Rattle.rules.specs.Reached.{Agreed, Reached}
use Rattle.rules.specs.Reached.Reached.{untouched, agreed}
use Rattle.rules.specs.Refusal.{taken}
use Rattle.rules.specs.Segment.{complete, in_live, live, needed, segments, segments_from}
use Rattle.rules.specs.Statement.{lines, line_of, statement_of}
use Rattle.rules.specs.declared.statement.Line.{Line}
use Rattle.rules.proofs.OneRate.{same_live, whole}
use Rattle.rules.proofs.Reached.{parts_of, reached, terms_of_lem}
use Rattle.book_memory.specs.Meter.{Memory, lent}
use Rattle.book.specs.Book.{empty_book, ledger_in, put_all}
use Rattle.book.specs.declared.Book.{Book}
use Rattle.book.proofs.FromCommands.{Leads, leads}
use Rattle.watch_step.specs.Month.{month_numbers, month_periods, live_at}
use Rattle.watch_step.specs.Step.{no_totals}
use Rattle.watch_month.specs.MonthOf.{month_book, month_laid, month_of, month_refusal, unread}
use Rattle.watch_month.proofs.Places as places
use Rattle.watch.specs.Running.{active_from, active_minutes, running_of}
use Rattle.watch.specs.Watched.{Watched, Watched·theorem}
use Rattle.watch.proofs.Done.{sum_to}
use Rattle.watch.proofs.Fits.{none-fit}
use Rattle.watch.proofs.Minute.{Figures, Row, capped_of, pence_of, sum_mapped}
use Rattle.watch.proofs.Numbers.{Minutes, chain_numbers, minutes_small}
use Rattle.watch.proofs.Steps.{Chain, Rows, Summed, chain_ends, chain_taken, chain_totals, goes, span_most}
use Rattle.rules.specs.Answer.{Taken as takenᵃ}

-- ---- the month's numbers

-- they are the same whatever the readings
same_month : (b : Book) (x y : Memory) → month_of (ledger_in b x) ≡ month_of (ledger_in b y)
unfolding month_of ledger_in contract_of in_live live
same_month b x y = refl

module _ {size : ℕ} {g : Ledger} (a : Agreed size g) (more : List ℕ) where
  abbrev month : List ℕ
  month = month_of g ++ more

  abbrev few : length g.instructions ≤ 64
  few = a.instructions

  front : (p : ℕ) → p < month_numbers → get_or month p 0 ≡ get_or (month_of g) p 0
  front p h = get_or-append (month_of g) more 0 p (omega (arith, places.length-month g few))

  flagged : (b : Bool) → not (eqb (cond b 1 0) 0) ≡ b
  flagged true = refl
  flagged false = refl

  live_is : (m : ℕ) → m < 30 * month_periods → live_at month m ≡ in_live g m
  live_is m h =
      rw (lt-ltb (m / 30) month_periods (omega arith), front (325 + m / 30) (omega arith), places.live_at_lem g few (m / 30) (omega arith))
      (flagged (in_live g (30 * (m / 30))) ∙ same_live (30 * (m / 30)) m (omega arith) g (whole g (agreed a)))

  pub figures : Figures g month
  figures =
      let r = (terms_of_lem a).ranges in
      record {
        size = omega (arith, length-append (month_of g) more, places.length-month g few);
        kw = front 0 (omega arith) ∙ places.kw_at_lem g few;
        kind = front 1 (omega arith) ∙ places.kind_at_lem g few;
        utilisation = front 2 (omega arith) ∙ places.utilisation_at_lem g few;
        optional = front 3 (omega arith) ∙ places.optional_at_lem g few;
        count = front 4 (omega arith) ∙ places.count_at_lem g few;
        live = live_is;
        small = (r.contracted.1, r.utilisation, r.optional);
        few = few;
        whole = whole g (agreed a);
      }

  pub row : (j : ℕ) → j < length g.instructions → Row (contract_of g) month (suc j) (get_or g.instructions j no_instruction)
  row j h =
      record {
        start = front (68 + suc j) (omega arith) ∙ places.start_at_lem g few j h;
        expiry = front (132 + suc j) (omega arith) ∙ places.expiry_at_lem g few j h;
        cease = front (196 + suc j) (omega arith) ∙ places.cease_at_lem g few j h;
        end = front (260 + suc j) (omega arith) ∙ places.end_at_lem g few j h;
      }

-- the columns, from what stands in each place
rows_from : (k : Contract) (month : List ℕ) (is : List Instruction) (n : ℕ) → ((j : ℕ) → j < length is → Row k month (n + j) (get_or is j no_instruction))
    → Rows k month n is
unfolding Rows
rows_from k month [] n h = tt
rows_from k month (i ∷ is) n h = (
  subst (λ z. Row k month z i) (omega arith) (h 0 (omega arith)),
  rows_from k month is (suc n) (λ j l. subst (λ z. Row k month z (get_or is j no_instruction)) (omega arith) (h (suc j) (omega arith))),
)

-- ---- the steps of a month

steps : {size : ℕ} (g : Ledger) → Reached size g → complete g ≡ true → (more : List ℕ) → Chain (month_of g ++ more) g (Summed g) no_totals (active_minutes g)
unfolding active_minutes active_from segments segments_from complete needed sum
steps g (untouched u) c more =
    subst
    (λ is. Chain (month_of g ++ more) g
    (λ s. (s.capped.0 ≡ sum (capped_of g) (segments_from (contract_of g) 1 is)) × (s.pence.0 ≡ sum (pence_of g) (segments_from (contract_of g) 1 is)))
    no_totals (active_from (contract_of g) 1 is))
    (sym u.instructions) (refl, refl)
steps g (agreed a) c more =
    goes a (figures a more) g.instructions 1 0 no_totals
    (record {
      sound = (parts_of a).instructions;
      rows =
          rows_from (contract_of g) (month_of g ++ more) g.instructions 1
          (λ j l. subst (λ z. Row (contract_of g) (month_of g ++ more) z (get_or g.instructions j no_instruction)) (omega arith) (row a more j l));
      read = c;
      count = omega arith;
      fits = none-fit;
      number = refl;
      over = refl;
      low = λ m l o. omega arith;
      capped = λ m l. sym (+ℤ_idl (sum_to (capped_of g) m (segments g)));
      pence = λ m l. sym (+ℤ_idl (sum_to (pence_of g) m (segments g)));
    })

minutes : {size : ℕ} (g : Ledger) → Reached size g → Minutes (active_minutes g)
unfolding active_minutes active_from
minutes g (untouched u) = subst (λ is. Minutes (active_from (contract_of g) 1 is)) (sym u.instructions) tt
minutes g (agreed a) =
    minutes_small (contract_of g) (span_in g) (span_most a) g.instructions 1 0 (parts_of a).instructions
    (omega (arith, a.instructions))

watched_of : {size : ℕ} (g : Ledger) → Reached size g → complete g ≡ true → (more : List ℕ) → Watched g (month_of g ++ more)
unfolding running_of statement_of lines
watched_of g r c more =
    let month : List ℕ = month_of g ++ more in
    let chain = steps g r c more in
    let (e, p) = chain_ends month g (Summed g) (active_minutes g) no_totals chain in
    let all = take-length (active_minutes g) in
    record {
      totals = chain_totals month g (Summed g) (active_minutes g) no_totals chain;
      taken = chain_taken month g (Summed g) (active_minutes g) no_totals chain;
      numbers = chain_numbers month g (Summed g) (active_minutes g) no_totals chain (zero-le, zero-le) (minutes g r);
      capped = rw all (ap (λ z. record { 0 = z }) (e ∙ sym (sum_mapped (λ (l : Line). l.capped.0) (line_of g) (segments g))));
      pence = rw all (ap (λ z. record { 0 = z }) (p ∙ sym (sum_mapped (λ (l : Line). l.pence.0) (line_of g) (segments g))));
    }

-- ---- the theorem

-- a book that commands leave has its month laid, with the ledger's numbers first
pub laid : (size : ℕ) (cs : List Command) (memory : List ℕ) → month_numbers ≤ length memory
    → month_book (put_all empty_book (taken size cs)) memory
    ≡ month_laid takenᵃ (month_of (ledger_of (taken size cs)) ++ drop month_numbers memory)
unfolding month_book month_refusal first_met
laid size cs memory h =
    let t : List Command = taken size cs in
    let b : Book = put_all empty_book t in
    let l : Leads size t = leads size cs in
    let is : month_of (unread b) ≡ month_of (ledger_of t) = same_month b (lent [] []) l.meter ∙ ap month_of l.follows.ledger in
    rw (l.follows.stands.sound, le-ltb (length memory) month_numbers h, is) refl

pub watched : Watched·theorem
unfolding Watched·theorem
watched size cs c memory h = rw (laid size cs memory h) (refl, watched_of (ledger_of (taken size cs)) (reached size cs) c (drop month_numbers memory))
