-- The book follows the commands taken: what it and lent memory hold is the ledger of those commands. Once for every command: one that is taken keeps the
-- book sound and adds exactly its entry; one that is refused changes nothing.
use mathlib.Core.Path.{◌≡◌, refl, sym, ap, ◌∙◌, subst⁻¹}
use mathlib.Core.Bool.{Bool, true, false, cond, not}
use mathlib.Core.List.{List, [], ◌∷◌, ◌++◌}
use mathlib.Core.Option.{Option, none, some}
use Prim.Native.Nat.{ℕ, ◌*◌, ◌≤◌, max}
use native.Mathlib.Nat.{le-max_right}
use native.Mathlib.Omega.{arith}
use borrow.Author.Tests.{ltb-false}
use lib.Dec.{leb-suc-zero}
use Rattle.energy.specs.Lists.{all, any, pass, concat_map}
use Rattle.calendar.specs.Calendar.{days_of, gained_in, lost_in}
use Rattle.commands.specs.Command.{always}
use Rattle.commands.proofs.ByKind.{contract_or_not}
use Rattle.rules.specs.Ledger.{Ledger, ledger_of, contract_of, span_of, full_span, cells_in, reading_of}
use Rattle.rules.specs.Refusal.{refusal, joined, answer_of}
use Rattle.rules.specs.Reached.{Reached, untouched, agreed}
use Rattle.commands.specs.declared.contract.Contract.{Contract}
use Rattle.commands.specs.declared.entries.Command.{Command}
use Rattle.commands.specs.declared.entries.Command.TheVariants.{Contract as contractᶜ, Date as dateᶜ, Window as windowᶜ, Instruction as instructionᶜ}
use Rattle.commands.specs.declared.entries.Command.TheVariants.{Default as defaultᶜ, Reading as readingᶜ, Revision as revisionᶜ}
use Rattle.commands.specs.declared.entries.Command.TheVariants.{Close as closeᶜ}
use Rattle.rules.proofs.Reached.{step, start, dated-days}
use Rattle.rules.proofs.Taken.{grown, ledger_of-snoc, Allowed, allowed}
use Rattle.rules.proofs.FileLength.{cells_fit}
use Rattle.book_memory.specs.Meter.{put_meter, metered_at, Memory, room_in}
use Rattle.book_memory.proofs.Lengths.{marked_room, marked_from_room, written_room}
use Rattle.book.specs.Book.{empty_book, book_span, book_cells, ledger_in, put_book}
use Rattle.book_sound.specs.Unused.{no_contract_tests}
use Rattle.book.specs.Sound.{sound, Shaped, table_tests, empty_tests}
use Rattle.book.specs.Enter.{enter_book, entered_by}
use Rattle.book.specs.declared.Book.{Book}
use Rattle.book.proofs.SoundTests.{Tables, is_sound}
use Rattle.book.proofs.Month.{cells_is, contents_pass}
use Rattle.book.proofs.Holds.{agreed_before, windows_grow, instructions_grow, defaults_grow, holds}

-- ---- a book with a contract, and its ledger

-- tables of a reached ledger are sound
pub reached_sound : (b : Book) (meter : Memory) {size : ℕ} → b.agreed ≡ true → Tables b → Reached size (ledger_in b meter) → sound b ≡ true
unfolding ledger_in
reached_sound b meter s t (untouched u) =
    let full : ◌≡◌ {A = List Contract} (b.contract ∷ []) [] = rw s at u.contracts in
    let z : ◌≡◌ {A = ℕ} 0 1 = cc in
    absurd (omega arith)
reached_sound b meter s t (agreed a) = is_sound b (record { tables = t; contents = contents_pass b meter s a.dated a.tests })

-- ---- the book and the commands taken

-- a sound book and lent memory, whose ledger is one that commands can leave
pub record Stands (size : ℕ) (b : Book) (meter : Memory) : Type 0 where
  pub reached : Reached size (ledger_in b meter)
  pub sound : sound b ≡ true
  pub shaped : Shaped b
  pub memory : room_in meter ≡ size

-- the ledger is that of the commands t
pub record Follows (size : ℕ) (t : List Command) (b : Book) (meter : Memory) : Type 0 where
  pub ledger : ledger_in b meter ≡ ledger_of t
  pub stands : Stands size b meter

module _ {size : ℕ} {b : Book} {meter : Memory} (f : Stands size b meter) where
  abbrev g : Ledger
  g = ledger_in b meter

  -- lent memory has room for the span
  fits : b.agreed ≡ true → book_cells b ≤ room_in meter
  fits s = rw (← cells_is b meter s, f.memory) (cells_fit f.reached)

  agreed_after : (c : Command) → Allowed size g c → (put_book b c).agreed ≡ true
  agreed_after =
      contract_or_not _ (λ k a. refl)
      (λ c o a. o _ (λ k. true) (always b.agreed) ∙ agreed_before b meter c a ∙ ap not (o _ (λ k. true) (always false)))

  memory_after : (c : Command) → Allowed size g c → room_in (put_meter meter c) ≡ room_in meter
  memory_after (contractᶜ k) a = marked_room meter (span_of k) (omega (arith, ltb-false size (span_of k) a.book.memory, f.memory))
  memory_after (dateᶜ d) a =
      let enough = ltb-false size (max (cells_in g) (full_span (contract_of g) d)) a.book.memory in
      marked_from_room meter (1440 * days_of d.year d.month) (gained_in d.month)
      (omega (arith, dated-days g d a.kind.month, enough, le-max_right (cells_in g) (full_span (contract_of g) d), f.memory))
  memory_after (windowᶜ w) a = refl
  memory_after (instructionᶜ i) a = refl
  memory_after (defaultᶜ d) a = refl
  memory_after (readingᶜ r) a = written_room meter r.minute.0 r.kw.0 0
  memory_after (revisionᶜ v) a = written_room meter v.reading.minute.0 v.reading.kw.0 v.number
  memory_after closeᶜ a = refl

  -- what a taken command leaves: its entry in the ledger
  pub put_grows : (c : Command) → refusal false size g c ≡ none → ledger_in (put_book b c) (put_meter meter c) ≡ grown g c
  put_grows c e = holds size b meter f.sound f.shaped fits c (allowed size g c e)

  -- and a sound book
  pub put_stands : (c : Command) → refusal false size g c ≡ none → Stands size (put_book b c) (put_meter meter c)
  put_stands c e =
      let a : Allowed size g c = allowed size g c e in
      let w = (windows_grow size b meter f.sound f.shaped fits c a).table in
      let i = (instructions_grow size b meter f.sound f.shaped fits c a).table in
      let d = (defaults_grow size b meter f.sound f.shaped fits c a).table in
      let tables : Tables (put_book b c) =
      record {
        windows = w.within;
        instructions = i.within;
        defaults = d.within;
        no_windows = w.rest;
        no_instructions = i.rest;
        no_defaults = d.rest;
      } in
      let r : Reached size (ledger_in (put_book b c) (put_meter meter c)) = subst⁻¹ (Reached size) (put_grows c e) (step size g c f.reached e) in
      record {
        reached = r;
        sound = reached_sound (put_book b c) (put_meter meter c) (agreed_after c a) tables r;
        shaped = record { windows = w.size; instructions = i.size; defaults = d.size };
        memory = memory_after c a ∙ f.memory;
      }

-- the book keeps following
pub put_follows : {size : ℕ} {t : List Command} {b : Book} {meter : Memory} → Follows size t b meter → (c : Command)
    → refusal false size (ledger_of t) c ≡ none → Follows size (t ++ (c ∷ [])) (put_book b c) (put_meter meter c)
put_follows {size} {t} {b} {meter} f c e =
    let taken : refusal false size (ledger_in b meter) c ≡ none = rw f.ledger e in
    record {
      ledger = put_grows f.stands c taken ∙ ap (λ l. grown l c) f.ledger ∙ sym (ledger_of-snoc t c);
      stands = put_stands f.stands c taken;
    }

-- ---- entering

-- for a book that follows the commands taken, the book's refusal is theirs
same_refusal : {size : ℕ} {t : List Command} {b : Book} {meter : Memory} (c : Command) → Follows size t b meter
    → refusal (not (sound b)) (room_in meter) (ledger_in b meter) c ≡ refusal false size (ledger_of t) c
same_refusal c f = rw (f.stands.sound, f.stands.memory, f.ledger)

-- entering keeps book and commands together, taken or refused
pub follow : {size : ℕ} {t : List Command} {b : Book} {meter : Memory} (c : Command) → Follows size t b meter
    → Follows size (joined (refusal false size (ledger_of t) c) t c) (enter_book b meter c).entry.book (enter_book b meter c).meter
unfolding enter_book
follow {size} {t} {b} {meter} c f =
    subst⁻¹ (λ o. Follows size (joined (refusal false size (ledger_of t) c) t c) (entered_by o b meter c).entry.book (entered_by o b meter c).meter)
    (same_refusal c f)
    (go (refusal false size (ledger_of t) c) refl)
  where
    go : (o : Option ℕ) → refusal false size (ledger_of t) c ≡ o
        → Follows size (joined o t c) (entered_by o b meter c).entry.book (entered_by o b meter c).meter
    go none e = put_follows f c e
    go (some n) e = f

-- and is answered as the rules say
pub answers : {size : ℕ} {t : List Command} {b : Book} {meter : Memory} (c : Command) → Follows size t b meter
    → (enter_book b meter c).entry.answer ≡ answer_of (refusal false size (ledger_of t) c)
unfolding enter_book
answers {size} {t} {b} {meter} c f = ap (λ o. (entered_by o b meter c).entry.answer) (same_refusal c f) ∙ go (refusal false size (ledger_of t) c)
  where
    go : (o : Option ℕ) → (entered_by o b meter c).entry.answer ≡ answer_of o
    go none = refl
    go (some n) = refl

-- ---- the empty book

nothing_held : (meter : Memory) → ledger_in empty_book meter ≡ ledger_of []
unfolding ledger_in book_span gained_in lost_in ledger_of empty_book any concat_map reading_of
nothing_held meter i =
    record {
      contracts = [];
      dates = [];
      windows = [];
      instructions = [];
      defaults = [];
      closed = false;
      reading = λ m. ap (λ (x : Bool). cond x (metered_at meter m) none) (leb-suc-zero m) i;
    }

pub starts : (meter : Memory) → Follows (room_in meter) [] empty_book meter
unfolding book_span empty_book sound pass empty_tests table_tests no_contract_tests all
starts meter =
    record {
      ledger = nothing_held meter;
      stands =
          record {
            reached = rw (nothing_held meter) (start (room_in meter));
            sound = refl;
            shaped = record { windows = refl; instructions = refl; defaults = refl };
            memory = refl;
          };
    }
