-- What a sound, closed and complete book lays out settles it: the lines' sums, the windows' entries and the statement.
use mathlib.Core.Path.{◌≡◌, refl, sym, ◌∙◌, ap, ap₂}
use mathlib.Core.Bool.{true}
use mathlib.Core.List.{List}
use mathlib.Core.Option.{some}
use Prim.Native.Nat.{ℕ}
use native.Mathlib.Omega.{arith}
use lib.Dec.{lit<}
use lib.IntN.{ℤ, pos, nat_abs, ◌+ℤ◌}
use lib.ListN.{length}
use Rattle.book_memory.specs.Meter.{Memory}
use Rattle.book_memory.proofs.Lengths.{room_cells}
use Rattle.book.specs.Sound.{Shaped, sound}
use Rattle.book.proofs.SoundBook.{closed_agreed}
use Rattle.energy.specs.Energy.{period_parts, pence_of_parts}
use Rattle.energy.specs.declared.units.Pence.{Pence}
use Rattle.energy.proofs.Rounding.{half_up}
use Rattle.commands.specs.Input.{kw_of}
use Rattle.rules.specs.Ledger.{Ledger}
use Rattle.rules.specs.Segment.{live, segments}
use Rattle.rules.specs.Statement.{period_exact, period_pence, statement_of}
use Rattle.commands.specs.declared.contract.Contract.{Contract}
use Rattle.rules.specs.declared.statement.Statement.{Statement}
use Rattle.rules.specs.declared.statement.Line.{Line}
use Rattle.book.specs.Book.{ledger_in}
use Rattle.book.specs.declared.Book.{Book}
use Rattle.settle_availability.specs.declared.paid.Entries.{Entries}
use Rattle.settle.specs.declared.prepare.Prepared.{Prepared}
use Rattle.settle_terms.specs.declared.Terms.{Terms}
use Rattle.settle_terms.specs.Terms.{period_places, terms_of}
use Rattle.settle_live.specs.Live.{is_live, number_to, LiveTable}
use Rattle.settle_availability.specs.Paid.{counted_to, penalty_by, entries_by, each_by, availability_by}
use Rattle.settle_lines.specs.Cursor.{cursor_at, stored}
use Rattle.settle.specs.Settle.{Settled, refusal_for, settle_book}
use Rattle.settle.specs.Prepared.{unsummed, summed, calls_of, live_of, without_sums, prepared_of, Counted, LaidOut, last_cursor, prepared_line, settled_with, Prepares}
use Rattle.settle.proofs.CursorLine.{Tied}
use Rattle.settle.proofs.Sequence.{ready_at, sum_fits, capped_at, pence_at, stored_lines}
use Rattle.settle.proofs.Availability.{penalty_is, entries_are, pence_is}
use Rattle.settle.proofs.BookPlan.{Grounds, grounds, contract_is, windows, priced, tied}
use Rattle.settle_lines.proofs.First.{first_are}
use Rattle.rules.proofs.LineBound.{lines-segments}
use Rattle.settle.proofs.Refusal.{open_for}
use Rattle.std.specs.Prelude.{Ok, Err}
use Rattle.commands.specs.Refusals.{number_of}
use Rattle.commands.specs.declared.refusal.Refusal.{Refusal}
use Rattle.commands.proofs.Outcomes.{refusal_back}

-- the pence of a paid period are not below 0
each_is : (n : ℕ) → pos (nat_abs (pence_of_parts n)) ≡ pence_of_parts n
each_is n = let e = half_up n 200000 (lit< tt) in ap (λ z. pos (nat_abs z)) (sym e) ∙ e

-- the availability, and with it the statement without the lines' sums
module _ {b : Book} {readings : Memory} (G : Grounds b readings) {live : List ℕ} (size : length live ≡ period_places)
    (L : LiveTable (is_live (calls_of b) (terms_of b.contract) b.contract.recovery.0) b.windows b.nwindows live) where
  abbrev k : Contract
  k = b.contract

  abbrev g : Ledger
  g = ledger_in b readings

  abbrev entries : Entries
  entries = availability_by live b.windows b.nwindows b.defaults b.ndefaults (kw_of k) k.availability

  pence_each : pos (each_by live b.nwindows b.defaults b.ndefaults (kw_of k) k.availability) ≡ period_pence g
  unfolding each_by period_pence period_exact
  pence_each =
      each_is (period_parts (kw_of k) k.availability (penalty_by (counted_to live b.defaults b.ndefaults) b.nwindows))
      ∙ rw (contract_is G, penalty_is (priced G size L)) refl

  unsummed_is : (n : ℕ) → n ≡ length (segments g) → unsummed n entries ≡ without_sums g
  unfolding availability_by entries_by statement_of
  unsummed_is n e =
      let a : ◌≡◌ {A = Pence} entries.pence (statement_of g).availability = ap (λ z. record { 0 = z }) (pence_is (priced G size L) _ pence_each) in
      cc (e, lines-segments g, a, entries_are (priced G size L) _ pence_each)

-- what a sound, closed and complete book lays out settles it
module _ {b : Book} {readings : Memory} (G : Grounds b readings) {room n : ℕ} {p : Prepared} (O : LaidOut b n p) (C : Counted b readings room n) where
  abbrev meter : List ℤ
  meter = readings.cells

  abbrev ledger : Ledger
  ledger = ledger_in b readings

  abbrev t : Terms
  t = terms_of b.contract

  L : LiveTable (is_live (calls_of b) t b.contract.recovery.0) b.windows b.nwindows p.live
  L = rw O.terms at O.live

  T : Tied ledger t (calls_of b) p.live meter
  T = tied G O.size L (open_for C.taken).complete

  statement_is : p.statement ≡ without_sums ledger
  unfolding terms_of
  statement_is = O.statement ∙ rw O.terms (unsummed_is G O.size L n C.lines)

  prepared_is : p ≡ prepared_of b ledger
  prepared_is =
      let periods : p.live ≡ live_of ledger =
      first_are (number_to (live ledger) ledger.windows (length ledger.windows)) 0 p.live period_places O.size
      (λ q h. (priced G O.size L).numbers.period q ∙ ap (λ m. number_to (live ledger) ledger.windows m q) (windows G).count) in
      λ i. record { statement = statement_is i; terms = O.terms i; live = periods i }

  count : p.statement.lines ≡ length (segments ledger)
  count = O.lines ∙ C.lines

  last_is : last_cursor b p meter ≡ cursor_at t (calls_of b) p.live meter (length (segments ledger))
  last_is = ap₂ (λ t n. cursor_at t (calls_of b) p.live meter n) O.terms count

  sums_settle : summed p.statement (last_cursor b p meter) ≡ statement_of ledger
  unfolding statement_of
  sums_settle =
      let S = statement_of ledger in
      ap₂ summed statement_is last_is
      ∙ (λ i.
      record {
        lines = S.lines;
        capped = record { 0 = capped_at T i };
        utilisation = record { 0 = pence_at T i };
        availability = S.availability;
        total = record { 0 = pence_at T i +ℤ S.availability.0 };
        windows = S.windows;
      })

  prepares : Prepares b readings room p
  unfolding settle_book settled_with
  prepares =
      record {
        taken = C.taken;
        is = prepared_is;
        size = O.size;
        called = omega (arith, G.sound.counts.1, G.shape.instructions);
        plan = rw O.terms T.plan;
        few = omega (arith, count, (open_for C.taken).few);
        ready = λ k h. rw O.terms (ready_at T k (omega (arith, count)));
        sums = (rw last_is (sum_fits T (length (segments ledger)) (omega arith)), O.small);
        settles = λ memory l.
            rw (l, C.taken)
            (ap₂ (λ (s : Statement) (m : List Line). record { answer = Ok s; memory = m }) sums_settle
            (rw (O.terms, count) (stored_lines T memory (omega (arith, (open_for C.taken).few)))));
      }

-- so it is of a book that is not refused
pub laid_out : {b : Book} {readings : Memory} {room n : ℕ} {p : Prepared} → Shaped b → Counted b readings room n → LaidOut b n p → Prepares b readings room p
laid_out {b} {readings} shape C O =
    let o = open_for C.taken in
    prepares (grounds b readings o.sound o.closed shape (omega (arith, o.cells, room_cells readings))) O C

-- what is asked where it is laid out
pub sound_agreed : {b : Book} {readings : Memory} {room n : ℕ} → Counted b readings room n → (sound b ≡ true) × (b.agreed ≡ true)
sound_agreed {b} C = let o = open_for C.taken in (o.sound, closed_agreed b o.sound o.closed)

-- what `settle` promises, from what is prepared
module _ (b : Book) (readings : Memory) (memory : List Line) (p : Prepared) (P : Prepares b readings (length memory) p) where
  pub settled_answer : Ok (summed p.statement (last_cursor b p readings.cells)) ≡ (settle_book b readings memory).answer
  unfolding settled_with
  settled_answer = ap (λ (s : Settled). s.answer) (P.settles memory refl)

  pub settled_memory : stored (prepared_line b p readings.cells) p.statement.lines memory ≡ (settle_book b readings memory).memory
  unfolding settled_with
  settled_memory = ap (λ (s : Settled). s.memory) (P.settles memory refl)

-- and of a refusal
pub refused : (b : Book) (readings : Memory) (memory : List Line) (r : Refusal) → refusal_for b readings (length memory) ≡ some (number_of r)
    → settle_book b readings memory ≡ record { answer = Err r; memory = memory }
unfolding settle_book
refused b readings memory r e = rw e (ap (λ x. record { answer = Err x; memory = memory }) (refusal_back r))
