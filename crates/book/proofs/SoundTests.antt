-- What the test for 11 says of a book, by name: its tables, and what is in them with a contract or without.
use mathlib.Core.Path.{◌≡◌, sym, ap, ◌∙◌, subst}
use mathlib.Core.Bool.{Bool, true, false, cond}
use mathlib.Core.List.{List, [], ◌∷◌}
use Prim.Native.Nat.{ℕ, ◌≤◌}
use lib.IntN.{ℤ, pos, negsuc}
use lib.Dec.{T, eqb→eq, leb→le, le→leb}
use lib.ListN.{length, take, drop}
use Rattle.book_memory.specs.Meter.{Memory}
use Rattle.energy.specs.Lists.{all, first, pass}
use Rattle.energy.proofs.Tests.{to-T, of_T, T_and, and_T, passes, passed, either}
use Rattle.calendar.specs.Calendar.{no_date, is_no_date}
use Rattle.calendar.proofs.Months.{no_date_lem}
use Rattle.rules.specs.Ledger.{contract_of, date_of, no_contract}
use Rattle.rules.specs.Reached.{date_sound, agreed_tests}
use Rattle.commands.specs.declared.contract.Contract.{Contract}
use Rattle.commands.proofs.Chain.{not_on}
use Rattle.rules.proofs.Reached.{Parts, parts}
use Rattle.book.specs.Book.{book_span, dates_in, ledger_in}
use Rattle.book_sound.specs.Unused.{is_no_window, is_no_instruction, is_no_default, is_zero, no_contract_tests}
use Rattle.book.specs.Sound.{Shaped, empty_tests, table_tests, sound}
use Rattle.book.specs.declared.Book.{Book}

-- ---- the tables, apart from what is in them: so many entries are in use, and the others are zeros

pub record Tables (b : Book) : Type 0 where
  pub windows : b.nwindows ≤ 128
  pub instructions : b.ninstructions ≤ 64
  pub defaults : b.ndefaults ≤ 128
  pub no_windows : T (all is_no_window (drop b.nwindows b.windows))
  pub no_instructions : T (all is_no_instruction (drop b.ninstructions b.instructions))
  pub no_defaults : T (all is_no_default (drop b.ndefaults b.defaults))

pub tables_of : (b : Book) → T (pass (table_tests b)) → Tables b
unfolding table_tests
tables_of b t =
    let p = passes (table_tests b) t in
    record {
      windows = leb→le b.nwindows 128 p.0;
      instructions = leb→le b.ninstructions 64 p.1.0;
      defaults = leb→le b.ndefaults 128 p.1.1.0;
      no_windows = p.1.1.1.0;
      no_instructions = p.1.1.1.1.0;
      no_defaults = p.1.1.1.1.1.0;
    }

tables-pass : (b : Book) → Tables b → T (pass (table_tests b))
unfolding table_tests
tables-pass b t =
    passed (table_tests b) (
      le→leb b.nwindows 128 t.windows,
      (
        le→leb b.ninstructions 64 t.instructions,
        (le→leb b.ndefaults 128 t.defaults, (t.no_windows, (t.no_instructions, (t.no_defaults, tt)))),
      ),
    )

-- one of them, with the length that its array has
pub record Table {A : Type 0} (none : A → Bool) (most : ℕ) (l : List A) (n : ℕ) : Type 0 where
  pub within : n ≤ most
  pub rest : T (all none (drop n l))
  pub size : length l ≡ most

module _ (b : Book) (t : Tables b) (s : Shaped b) where
  pub windows-table : Table is_no_window 128 b.windows b.nwindows
  windows-table = record { within = t.windows; rest = t.no_windows; size = s.windows }

  pub instructions_table : Table is_no_instruction 64 b.instructions b.ninstructions
  instructions_table = record { within = t.instructions; rest = t.no_instructions; size = s.instructions }

  pub defaults_table : Table is_no_default 128 b.defaults b.ndefaults
  defaults_table = record { within = t.defaults; rest = t.no_defaults; size = s.defaults }

-- ---- the whole test

-- the tests of what is in the tables, with a contract or without
abbrev pub contents : Book → Bool → List Bool
contents b c =
    cond c (all (date_sound b.contract) (dates_in b)
    ∷ agreed_tests b.contract (book_span b) (take b.nwindows b.windows) (take b.ninstructions b.instructions)
    (take b.ndefaults b.defaults))
    (empty_tests b)

pub record Sound (b : Book) : Type 0 where
  pub tables : Tables b
  pub contents : T (pass (contents b b.agreed))

pub sound-parts : (b : Book) → sound b ≡ true → Sound b
unfolding sound
sound-parts b e =
    let q = T_and (pass (table_tests b)) (pass (contents b b.agreed)) (to-T e) in
    record { tables = tables_of b q.0; contents = q.1 }

pub is_sound : (b : Book) → Sound b → sound b ≡ true
unfolding sound
is_sound b s = of_T (sound b) (and_T (pass (table_tests b)) (pass (contents b b.agreed)) (tables-pass b s.tables) s.contents)

-- ---- with a contract

-- what is in use could be entered under it
pub sound_used : (b : Book) → sound b ≡ true → b.agreed ≡ true
    → Parts b.contract (book_span b) (take b.nwindows b.windows) (take b.ninstructions b.instructions) (take b.ndefaults b.defaults)
unfolding pass
sound_used b e s =
    let ws = take b.nwindows b.windows in
    let is = take b.ninstructions b.instructions in
    let ds = take b.ndefaults b.defaults in
    parts b.contract (book_span b) ws is ds
    (T_and (all (date_sound b.contract) (dates_in b)) (pass (agreed_tests b.contract (book_span b) ws is ds))
    (subst (λ x. T (pass (contents b x))) s (sound-parts b e).contents)).1

-- what the ledger calls its date
pub date_is : (b : Book) (meter : Memory) → date_of (ledger_in b meter) ≡ b.date
unfolding date_of ledger_in first
date_is b meter =
    either (is_no_date b.date) (λ e. ap (λ x. first no_date (cond x [] (b.date ∷ []))) e ∙ sym (no_date_lem b.date (to-T e)))
    (λ e. ap (λ x. first no_date (cond x [] (b.date ∷ []))) e)

-- what the ledger calls its contract
pub contract_is : (b : Book) (meter : Memory) → b.agreed ≡ true → contract_of (ledger_in b meter) ≡ b.contract
unfolding contract_of ledger_in first
contract_is b meter s = ap (λ x. first no_contract (cond x (b.contract ∷ []) [])) s

-- ---- without one

pub record Empty (b : Book) : Type 0 where
  pub contract : b.contract ≡ no_contract
  pub date : b.date ≡ no_date
  pub not_closed : b.closed ≡ false
  pub windows : b.nwindows ≡ 0
  pub instructions : b.ninstructions ≡ 0
  pub defaults : b.ndefaults ≡ 0

zero_is : (x : ℤ) → T (is_zero x) → x ≡ pos 0
zero_is (pos n) t = ap pos (eqb→eq n 0 t)
zero_is (negsuc n) t = absurd t

no_contract_lem : (k : Contract) → T (pass (no_contract_tests k)) → k ≡ no_contract
unfolding no_contract_tests
no_contract_lem k t i =
    let p = passes (no_contract_tests k) t in
    record {
      days = eqb→eq k.days 0 p.0 i;
      kind = eqb→eq k.kind 0 p.1.0 i;
      service = eqb→eq k.service 0 p.1.1.0 i;
      contracted = record { 0 = zero_is k.contracted.0 p.1.1.1.0 i };
      rampup = eqb→eq k.rampup 0 p.1.1.1.1.0 i;
      rampdown = eqb→eq k.rampdown 0 p.1.1.1.1.1.0 i;
      response = record { 0 = eqb→eq k.response.0 0 p.1.1.1.1.1.1.0 i };
      recovery = record { 0 = eqb→eq k.recovery.0 0 p.1.1.1.1.1.1.1.0 i };
      availability = eqb→eq k.availability 0 p.1.1.1.1.1.1.1.1.0 i;
      utilisation = eqb→eq k.utilisation 0 p.1.1.1.1.1.1.1.1.1.0 i;
      optional = eqb→eq k.optional 0 p.1.1.1.1.1.1.1.1.1.1.0 i;
    }

pub sound_empty : (b : Book) → sound b ≡ true → b.agreed ≡ false → Empty b
unfolding empty_tests
sound_empty b e s =
    let p = passes (empty_tests b) (subst (λ x. T (pass (contents b x))) s (sound-parts b e).contents) in
    record {
      contract = no_contract_lem b.contract p.0;
      date = no_date_lem b.date p.1.0;
      not_closed = not_on b.closed p.1.1.0;
      windows = eqb→eq b.nwindows 0 p.1.1.1.0;
      instructions = eqb→eq b.ninstructions 0 p.1.1.1.1.0;
      defaults = eqb→eq b.ndefaults 0 p.1.1.1.1.1.0;
    }
