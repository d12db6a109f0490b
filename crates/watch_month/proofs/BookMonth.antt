-- What settling reads off a sound book gives the book's month by the rules. A sound book without a contract has no instruction and no window, and zeros.
use mathlib.Core.Path.{◌≡◌, refl, sym, subst, ap, ap₂, ◌∙◌}
use mathlib.Core.Bool.{Bool, true, false, cond, not}
use mathlib.Core.List.{List, [], ◌∷◌, ◌++◌, map, append_assoc}
use Prim.Native.Nat.{ℕ, suc, ◌+◌, ◌-◌, ◌*◌, ◌/◌, ◌≤◌, ◌<◌}
use native.Mathlib.Omega.{arith}
use lib.Dec.{eqb}
use lib.IntN.{pos, nat_abs}
use lib.ListN.{length, get_or, drop, replicate, length-replicate}
use borrow.Author.Tests.{lt-ltb, le-ltb}
use Rattle.energy.specs.Lists.{any, between, first}
use Rattle.energy.specs.Number.{ceiling, Upto}
use Rattle.energy.proofs.Tests.{either}
use Rattle.commands.specs.Input.{up_minutes, down_minutes, first_met}
use Rattle.commands.specs.declared.contract.Contract.{Contract}
use Rattle.commands.specs.declared.entries.Instruction.{Instruction}
use Rattle.rules.specs.Ledger.{Ledger, contract_of, no_instruction, expiry, ramp_start, end_of}
use Rattle.rules.specs.Segment.{in_live, live}
use Rattle.book_memory.specs.Meter.{Memory, lent}
use Rattle.book.specs.Book.{book_cells, ledger_in}
use Rattle.book.specs.Sound.{Shaped, sound}
use Rattle.book.specs.declared.Book.{Book}
use Rattle.book.proofs.SoundBook.{sound_book}
use Rattle.book.proofs.SoundTests.{Empty, sound_empty}
use Rattle.settle_terms.specs.declared.Terms.{Terms}
use Rattle.settle_terms.specs.Terms.{period_places, terms_of}
use Rattle.settle.specs.Prepared.{calls_of}
use Rattle.settle_live.specs.Live.{Cleared, LiveTable, Windows, is_live}
use Rattle.settle.proofs.LedgerTables.{TermsOf, TimesOf}
use Rattle.settle.proofs.LiveTable.{live_at_lem}
use Rattle.settle.proofs.BookPlan.{Grounds, cleared, contract_is, kw_upto, priced, surveyed, windows, windows-fit}
use Rattle.watch_step.specs.Month.{month_numbers, month_periods}
use Rattle.watch_month.specs.MonthBy.{Figured, figures_by, flag_by, month_by, periods_by, times_by}
use Rattle.watch_month.specs.MonthOf.{column, month_of, month_refusal, month_laid, month_book, unread}
use Rattle.rules.specs.Answer.{Taken}
use Rattle.std.specs.Prelude.{Err}
use Rattle.commands.specs.declared.refusal.Refusal.TheVariants.{NotReached, NoRoom}
use Rattle.commands.specs.Refusals.{refusal_of}

-- ---- a column

-- two columns of the same times
column_same : (f h : Instruction → ℕ) (is : List Instruction) → ((j : ℕ) → j < length is → f (get_or is j no_instruction) ≡ h (get_or is j no_instruction))
    → column f is ≡ column h is
unfolding column
column_same f h is e = ap (λ z. z ++ replicate (64 - length is) 0) (maps is e)
  where
    maps : (l : List Instruction) → ((j : ℕ) → j < length l → f (get_or l j no_instruction) ≡ h (get_or l j no_instruction)) → map f l ≡ map h l
    maps [] k = refl
    maps (x ∷ l) k = ap₂ ◌∷◌ (k 0 (omega arith)) (maps l (λ j q. k (suc j) (omega arith)))

-- ---- the month of a ledger

regroup : (a b c d e f g : List ℕ) → a ++ (b ++ c ++ d ++ e ++ f) ++ g ≡ a ++ b ++ c ++ d ++ e ++ f ++ g
regroup a b c d e f g = simp append_assoc

-- the terms, the instructions and the marked periods are the ledger's
record Read (g : Ledger) (t : Terms) (calls : List Instruction) (marks : List ℕ) : Type 0 where
  kw : t.kw ≡ (contract_of g).contracted
  kind : t.kind ≡ (contract_of g).kind
  utilisation : t.utilisation ≡ (contract_of g).utilisation
  optional : t.optional ≡ (contract_of g).optional
  start : t.upminutes.0 ≤ t.response.0
  same : calls ≡ g.instructions
  terms : TermsOf g t calls
  periods : (p : ℕ) → flag_by marks p ≡ cond (in_live g (30 * p)) 1 0

module _ {g : Ledger} {t : Terms} {calls : List Instruction} {marks : List ℕ} (R : Read g t calls marks) where
  abbrev is : List Instruction
  is = g.instructions

  abbrev k : Contract
  k = contract_of g

  figures_are : figures_by t (length is) ≡ nat_abs k.contracted.0 ∷ k.kind ∷ k.utilisation ∷ k.optional ∷ length is ∷ []
  figures_are = rw (R.kw, R.kind, R.utilisation, R.optional) refl

  -- what is known of an instruction's times, by its place in the ledger
  at : (j : ℕ) → j < length is → TimesOf g t is j
  at j h = let T : TermsOf g t is = subst (TermsOf g t) R.same R.terms in T.each j h

  month_is : month_by t calls marks ≡ month_of g
  unfolding month_by times_by periods_by month_of
  month_is =
      let starts = column_same (λ x. x.issue.0 + (t.response.0 - t.upminutes.0)) (ramp_start k) is (λ j h. omega (arith, (at j h).start, R.start)) in
      let expiries = column_same (λ x. x.issue.0 + t.response.0) (expiry k) is (λ j h. (at j h).expiry) in
      let ends = column_same (λ x. x.cease.0 + t.downminutes.0) (end_of k) is (λ j h. (at j h).end) in
      let flags : periods_by marks ≡ map (λ p. cond (in_live g (30 * p)) 1 0) (between 0 month_periods) =
      λ i. map (λ p. R.periods p i) (between 0 month_periods) in
      rw R.same (regroup (figures_by t (length is)) (column (λ x. x.issue.0) is) (column (λ x. x.issue.0 + (t.response.0 - t.upminutes.0)) is)
      (column (λ x. x.issue.0 + t.response.0) is) (column (λ x. x.cease.0) is) (column (λ x. x.cease.0 + t.downminutes.0) is) (periods_by marks)
      ∙ (λ z. figures_are z ++ column (λ x. x.issue.0) is ++ starts z ++ expiries z ++ column (λ x. x.cease.0) is ++ ends z ++ flags z))

-- ---- the month of a book

-- a number that is not 0 as a flag
flag_is : (z : Bool) (m : ℕ) → not (eqb m 0) ≡ z → ◌≡◌ {A = ℕ} (cond (eqb m 0) 0 1) (cond z 1 0)
flag_is z m e = go (eqb m 0) ∙ ap (λ x. cond x 1 0) e
  where
    go : (x : Bool) → ◌≡◌ {A = ℕ} (cond x 0 1) (cond (not x) 1 0)
    go true = refl
    go false = refl

-- what working a book's month out asks, and what it gives
pub record Workable (b : Book) : Type 0 where
  pub terms : Upto 500000 b.contract.contracted.0 × (up_minutes b.contract ≤ 240) × (down_minutes b.contract ≤ 240)
  pub figured : Figured (terms_of b.contract)
  pub calls : b.ninstructions ≤ 64
  pub cleared : Cleared (calls_of b) (terms_of b.contract) b.contract.recovery.0
  pub windows : Windows b.windows b.nwindows period_places
  pub month : (marks : List ℕ) → length marks ≡ period_places
      → LiveTable (is_live (calls_of b) (terms_of b.contract) b.contract.recovery.0) b.windows b.nwindows marks
      → month_by (terms_of b.contract) (calls_of b) marks ≡ month_of (unread b)

module _ (b : Book) (S : sound b ≡ true) (shape : Shaped b) where
  abbrev t : Terms
  t = terms_of b.contract

  abbrev calls : List Instruction
  calls = calls_of b

  -- a month does not look at the readings, so cells for the span stand in
  abbrev cells : Memory
  cells = lent (replicate (book_cells b) (pos 0)) []

  unread_is : month_of (ledger_in b cells) ≡ month_of (unread b)
  unfolding month_of ledger_in contract_of in_live live
  unread_is = refl

  -- with a contract
  module _ (agreed : b.agreed ≡ true) where
    G : Grounds b cells
    G =
        record {
          sound = sound_book b S agreed;
          agreed = agreed;
          shape = shape;
          cells = omega (arith, length-replicate (book_cells b) (pos 0));
        }

    reads : (marks : List ℕ) → length marks ≡ period_places → LiveTable (is_live calls t b.contract.recovery.0) b.windows b.nwindows marks
        → Read (ledger_in b cells) t calls marks
    unfolding terms_of ledger_in
    reads marks size L =
        let c = G.sound.contract in
        record {
          kw = sym (ap (λ (c : Contract). c.contracted) (contract_is G));
          kind = sym (ap (λ (c : Contract). c.kind) (contract_is G));
          utilisation = sym (ap (λ (c : Contract). c.utilisation) (contract_is G));
          optional = sym (ap (λ (c : Contract). c.optional) (contract_is G));
          start = c.ramp_start.1;
          same = refl;
          terms = (surveyed G).terms;
          periods = λ p.
              let e : 30 * p / 30 ≡ p = omega arith in
              flag_is (in_live (ledger_in b cells) (30 * p)) (get_or marks p 0) (rw e at (live_at_lem (windows G) (priced G size L).numbers (30 * p)));
        }

    agreed_works : Workable b
    unfolding terms_of
    agreed_works =
        let c = G.sound.contract in
        record {
          terms = (kw_upto G, omega (arith, c.ramp_start, c.response), c.fall);
          figured = record { kw = kw_upto G; start = c.ramp_start.1 };
          calls = G.sound.counts.1;
          cleared = cleared G;
          windows = windows-fit G;
          month = λ marks size L. month_is (reads marks size L) ∙ unread_is;
        }

  -- without one
  module _ (agreed : b.agreed ≡ false) where
    E : Empty b
    E = sound_empty b S agreed

    contract_none : contract_of (unread b) ≡ b.contract
    unfolding contract_of ledger_in first
    contract_none = rw (agreed, E.contract) refl

    up_none : up_minutes b.contract ≡ 0
    unfolding up_minutes ceiling
    up_none = rw E.contract refl

    down-none : down_minutes b.contract ≡ 0
    unfolding down_minutes ceiling
    down-none = rw E.contract refl

    none-live : (m : ℕ) → in_live (unread b) m ≡ false
    unfolding in_live ledger_in any
    none-live m = rw E.windows refl

    unmarked : (marks : List ℕ) → LiveTable (is_live calls t b.contract.recovery.0) b.windows b.nwindows marks → (p : ℕ)
        → not (eqb (get_or marks p 0) 0) ≡ false
    unmarked marks L p = rw (L.period p, E.windows) refl

    empty-reads : (marks : List ℕ) → LiveTable (is_live calls t b.contract.recovery.0) b.windows b.nwindows marks
        → Read (unread b) t calls marks
    unfolding terms_of ledger_in
    empty-reads marks L =
        record {
          kw = sym (ap (λ (c : Contract). c.contracted) contract_none);
          kind = sym (ap (λ (c : Contract). c.kind) contract_none);
          utilisation = sym (ap (λ (c : Contract). c.utilisation) contract_none);
          optional = sym (ap (λ (c : Contract). c.optional) contract_none);
          start = omega (arith, up_none);
          same = refl;
          terms =
              record {
                response = sym (ap (λ (c : Contract). c.response.0) contract_none);
                count = refl;
                each = λ j h. absurd (omega (arith, rw E.instructions at h));
              };
          periods = λ p. flag_is (in_live (unread b) (30 * p)) (get_or marks p 0) (unmarked marks L p ∙ sym (none-live (30 * p)));
        }

    empty_works : Workable b
    unfolding terms_of
    empty_works =
        record {
          terms = (rw E.contract (omega arith, refl), omega (arith, up_none), omega (arith, down-none));
          figured = record { kw = rw E.contract (omega arith, refl); start = omega (arith, up_none) };
          calls = omega (arith, E.instructions);
          cleared =
              record {
                few = rw E.instructions (omega arith);
                near = rw E.contract (omega arith);
                small = λ j h. absurd (omega (arith, rw E.instructions at h));
              };
          windows =
              record {
                few = omega (arith, E.windows);
                order = λ i h. absurd (omega (arith, E.windows));
                inside = λ i h. absurd (omega (arith, E.windows));
              };
          month = λ marks size L. month_is (empty-reads marks L);
        }

  pub workable : Workable b
  workable = either b.agreed agreed_works empty_works

-- ---- the call

module _ (b : Book) (memory : List ℕ) where
  pub is_11 : sound b ≡ false → month_laid (Err NotReached) memory ≡ month_book b memory
  unfolding refusal_of month_book month_refusal first_met
  is_11 e = rw e refl

  pub is_26 : sound b ≡ true → length memory < month_numbers → month_laid (Err NoRoom) memory ≡ month_book b memory
  unfolding refusal_of month_book month_refusal first_met
  is_26 e h = rw (e, lt-ltb (length memory) month_numbers h) refl

  pub is_laid : sound b ≡ true → month_numbers ≤ length memory → (calls : List Instruction) (marks : List ℕ) {after : List ℕ} {t u : Terms}
      → after ≡ month_by t calls marks ++ drop month_numbers memory
      → t ≡ u
      → month_by u calls marks ≡ month_of (unread b)
      → month_laid Taken after ≡ month_book b memory
  unfolding month_book month_refusal first_met
  is_laid e h calls marks l q m = rw (e, le-ltb (length memory) month_numbers h, l, q, m) refl
