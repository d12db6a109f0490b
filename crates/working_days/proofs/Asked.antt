-- The day query over lists: the book that commands leave is sound and holds their contract and date, and these alone decide.
use mathlib.Core.Path.{◌≡◌, sym, ap, ◌∙◌}
use mathlib.Core.Bool.{true, cond}
use mathlib.Core.List.{List, [], ◌∷◌}
use Prim.Native.Nat.{ℕ}
use Rattle.calendar.specs.Calendar.{is_no_date}
use Rattle.commands.proofs.Chain.{true_or_false}
use Rattle.rules.specs.Refusal.{taken}
use Rattle.book_memory.specs.Meter.{Memory}
use Rattle.book.specs.Book.{empty_book, put_all, dates_in, ledger_in}
use Rattle.book.specs.Sound.{sound}
use Rattle.book.specs.declared.Book.{Book}
use Rattle.book.proofs.SoundTests.{contract_is, sound_empty}
use Rattle.book.proofs.FromCommands.{leads}
use Rattle.working_days.specs.Days.{day_kind, day_in, day_book}
use Rattle.working_days.specs.Asked.{Asked·theorem}
use Rattle.std.specs.Prelude.{Ok}

-- a sound book's day is by its own contract and date, whatever memory is lent
pub of_book : (b : Book) (meter : Memory) (n : ℕ) (holidays : List ℕ) → sound b ≡ true
    → day_kind (dates_in b) b.contract.days n holidays ≡ day_in (ledger_in b meter) n holidays
unfolding day_in
of_book b meter n holidays e =
    true_or_false b.agreed (λ s. unfold ledger_in in rw (contract_is b meter s))
    (λ s. unfold ledger_in in rw (ap (λ d. cond (is_no_date d) [] (d ∷ [])) (sound_empty b e s).date))

pub asked : Asked·theorem
unfolding day_book
asked size cs meter n holidays =
    let l = leads size cs in
    let b : Book = put_all empty_book (taken size cs) in
    let e : sound b ≡ true = l.follows.stands.sound in
    (rw e (ap Ok (sym (of_book b meter n holidays e) ∙ of_book b l.meter n holidays e ∙ ap (λ g. day_in g n holidays) l.follows.ledger)))
