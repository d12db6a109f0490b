-- What a command meets at a book, as one number: the numbers of the lists of conditions, joined, are those that the code works out from the
-- few numbers of the book that it needs, 3 to 15 for any command and the others by its kind.
use mathlib.Core.Path.{◌≡◌, refl, sym, ap, ◌∙◌}
use mathlib.Core.Bool.{Bool, true, false, not, ◌&&◌, cond, false≢true}
use lib.IntN.{ℤ}
use mathlib.Core.List.{List, [], ◌∷◌, ◌++◌}
use mathlib.Core.Option.{Option, none, some}
use Prim.Native.Nat.{ℕ, zero, suc, ◌≤◌, zero-le, max}
use native.Mathlib.Omega.{arith}
use lib.Dec.{eqb, ltb}
use lib.ListN.{length, take}
use borrow.Author.Tests.{ne_eqb, le-leb, lt-ltb}
use Rattle.energy.specs.Lists.{any, between, is_empty, is_some}
use Rattle.energy.proofs.Tests.{either}
use Rattle.energy.proofs.Sums.{any_ext}
use Rattle.calendar.specs.Calendar.{is_no_date}
use Rattle.calendar.specs.declared.Date.{Date}
use Rattle.commands.specs.Command.{on_contract, on_date, revised_as, always}
use Rattle.commands.specs.Input.{Condition, input_conditions, input_refusal, is_reading}
use Rattle.commands.specs.declared.contract.Contract.{Contract}
use Rattle.commands.specs.declared.entries.Window.{Window}
use Rattle.commands.specs.declared.entries.Instruction.{Instruction}
use Rattle.commands.specs.declared.entries.Default.{Default}
use Rattle.commands.specs.declared.entries.Reading.{Reading}
use Rattle.commands.specs.declared.entries.Command.{Command}
use Rattle.commands.specs.declared.entries.Command.TheVariants.{Contract as contractᶜ, Date as dateᶜ, Window as windowᶜ, Instruction as instructionᶜ}
use Rattle.commands.specs.declared.entries.Command.TheVariants.{Default as defaultᶜ, Close as closeᶜ}
use Rattle.commands.proofs.Input.{numbers, numbered, first_number, first_numbered, numbers-append}
use Rattle.commands.proofs.ByKind.{contract_or_not}
use Rattle.rules.specs.Ledger.{Metered, is_contract, span_of, full_span, span_in}
use Rattle.rules.specs.Refusal.{cells_for, not_above, book_conditions, kind_conditions, conditions, refusal}
use Rattle.book_memory.specs.Meter.{Memory, room_in, kw_at, revision_at, cell_reading, metered_at}
use Rattle.book_refusal.specs.Refusals.{any_refusal, date_refusal, window_refusal, instruction_refusal, default_refusal, held_refusal}
use Rattle.book_refusal.specs.Refusals.{reading_refusal}
use Rattle.book.specs.Book.{book_span, book_cells, ledger_in}
use Rattle.book.specs.Sound.{sound}
use Rattle.book.specs.declared.Book.{Book}
use Rattle.book.proofs.SoundTests.{contract_is}
use Rattle.book.proofs.Month.{span_is, cells_is}

-- ---- what any command meets

-- 15: the minutes that a command to a book asks for
abbrev pub cells_of : Book → Command → ℕ
cells_of b c = on_contract span_of (on_date (λ d. max (book_cells b) (full_span b.contract d)) (always (book_cells b))) c

-- a reading of any revision asks for what the book needs
pub revised_cells : (b : Book) (n : ℕ) (r : Reading) → cells_of b (revised_as n r) ≡ book_cells b
revised_cells b zero r = refl
revised_cells b (suc n) r = refl

-- the number from 3 to 15, with so much room in lent memory
abbrev pub any_of : Book → ℕ → Command → ℕ
any_of b room c = any_refusal (input_refusal c) (sound b) b.closed b.agreed (is_contract c) (ltb room (cells_of b c))

-- the number of the conditions after 15, those of the command's kind
abbrev pub own_of : Book → Memory → Command → ℕ
own_of b meter c = numbers (kind_conditions (ledger_in b meter) c)

-- the conditions from 11 to 15
from_book : (k : Contract) (s z a f t t' : Bool) (rest : ℕ) → (a ≡ true → t' ≡ t) → (f ≡ true → t' ≡ t)
    → cond (not s) 11 (cond z 12 (cond (is_empty (cond a (k ∷ []) []) && not f) 13 (cond (not (is_empty (cond a (k ∷ []) [])) && f) 14 (cond t' 15 rest))))
    ≡ cond (eqb (any_refusal 0 s z a f t) 0) rest (any_refusal 0 s z a f t)
unfolding any_refusal is_empty
from_book k false z a f t t' rest g h = refl
from_book k true true a f t t' rest g h = refl
from_book k true false false false t t' rest g h = refl
from_book k true false true true t t' rest g h = refl
from_book k true false true false true t' rest g h = rw (g refl)
from_book k true false true false false t' rest g h = rw (g refl)
from_book k true false false true true t' rest g h = rw (h refl)
from_book k true false false true false t' rest g h = rw (h refl)

-- a number from the input comes before them
from_input : (n : ℕ) (s z a f t : Bool) (rest : ℕ)
    → cond (eqb n 0) (cond (eqb (any_refusal 0 s z a f t) 0) rest (any_refusal 0 s z a f t)) n
    ≡ cond (eqb (any_refusal n s z a f t) 0) rest (any_refusal n s z a f t)
unfolding any_refusal
from_input zero s z a f t rest = refl
from_input (suc n) s z a f t rest = rw (ne_eqb (suc n) 0 (λ q. omega arith)) (rw (ne_eqb (suc n) 0 (λ q. omega arith)) refl)

-- a contract is asked for its own cells
own_cells : (b : Book) (meter : Memory) (c : Command) → is_contract c ≡ true → cells_for (ledger_in b meter) c ≡ cells_of b c
own_cells b meter =
    contract_or_not _ (λ k e. refl)
    (λ c o e. absurd (false≢true (sym (o _ (λ k. true) (always false)) ∙ e)))

module _ (b : Book) (meter : Memory) (c : Command) where
  -- the refusal of a command to a book
  abbrev pub asked : Option ℕ
  asked = refusal (not (sound b)) (room_in meter) (ledger_in b meter) c

  -- conditions up to 15 come first
  pub by_any : asked ≡ numbered (cond (eqb (any_of b (room_in meter) c) 0) (own_of b meter c) (any_of b (room_in meter) c))
  unfolding refusal conditions numbers ledger_in input_refusal
  by_any =
      let short : Bool = ltb (room_in meter) (cells_of b c) in
      let book : List Condition = book_conditions (not (sound b)) (room_in meter) (ledger_in b meter) c in
      let own : List Condition = kind_conditions (ledger_in b meter) c in
      first_numbered (conditions (not (sound b)) (room_in meter) (ledger_in b meter) c) tt
      ∙ ap numbered
      (numbers-append (input_conditions c) (book ++ own) tt
      ∙ ap (λ n. cond (eqb n 0) (numbers (book ++ own)) n) (sym (first_number (input_conditions c) tt))
      ∙ ap (λ m. cond (eqb (input_refusal c) 0) m (input_refusal c))
      (from_book b.contract (sound b) b.closed b.agreed (is_contract c) short (ltb (room_in meter) (cells_for (ledger_in b meter) c)) (own_of b meter c)
      (λ e. λ i.
      ltb (room_in meter)
      (on_contract span_of (on_date (λ d. max (cells_is b meter e i) (full_span (contract_is b meter e i) d)) (always (cells_is b meter e i))) c))
      (λ e. ap (ltb (room_in meter)) (own_cells b meter c e)))
      ∙ from_input (input_refusal c) (sound b) b.closed b.agreed (is_contract c) short (own_of b meter c))

-- ---- the conditions of a command's own kind, in a book with a contract

-- a minute of the span has what lent memory holds for it, and one past it nothing
held_inside : (a : Bool) (n : ℕ) (o : Option Metered) → not_above n (cond a o none) ≡ (a && not_above n o)
held_inside true n o = refl
held_inside false n o = refl

-- a minute has a reading where it holds one of revision 0 or above
some_held : (o : Option Metered) → is_some o ≡ not_above 0 o
unfolding is_some
some_held none = refl
some_held (some x) = sym (le-leb 0 x.revision zero-le)

-- a date is none where the book's is zeros
dated_is : (none : Bool) (d : Date) → not (is_empty (cond none [] (d ∷ []))) ≡ not none
unfolding is_empty
dated_is true d = refl
dated_is false d = refl

-- a table is empty where none of its entries is in use
used_is : {A : Type 0} (l : List A) (n : ℕ) → n ≤ length l → not (is_empty (take n l)) ≡ not (eqb n 0)
unfolding is_empty
used_is l zero h = refl
used_is [] (suc n) h = absurd (omega arith)
used_is (x ∷ l) (suc n) h = rw (ne_eqb (suc n) 0 (λ q. omega arith))

-- a cell counts as a reading where it is in its range
counts : (z : ℤ) (n : ℕ) → is_some (cell_reading z n) ≡ is_reading z
unfolding is_some
counts z n = either (is_reading z) (λ e. rw e) (λ e. rw e)

module _ (b : Book) (meter : Memory) (s : b.agreed ≡ true) where
  -- some minute of the span has a reading
  read_is : any (λ m. is_some ((ledger_in b meter).reading m)) (between 0 (span_in (ledger_in b meter)))
      ≡ any (λ m. is_reading (kw_at meter m)) (between 0 (book_span b))
  unfolding ledger_in
  read_is =
      ap (λ n. any (λ m. is_some ((ledger_in b meter).reading m)) (between 0 n)) (span_is b meter s)
      ∙ any_ext (λ m. is_some ((ledger_in b meter).reading m)) (λ m. is_reading (kw_at meter m)) 0 (book_span b)
      (λ m h l. rw (lt-ltb m (book_span b) l) (counts (kw_at meter m) (revision_at meter m)))

  pub date_number : (d : Date) → b.nwindows ≤ length b.windows → b.ninstructions ≤ length b.instructions
      → own_of b meter (dateᶜ d)
      ≡ date_refusal b.date b.nwindows b.ninstructions (any (λ m. is_reading (kw_at meter m)) (between 0 (book_span b))) b.contract d
  unfolding numbers date_refusal
  date_number d h k =
      let g = ledger_in b meter in
      let dated : not (is_empty g.dates) ≡ not (is_no_date b.date) = unfold ledger_in in dated_is (is_no_date b.date) b.date in
      let windowed : not (is_empty g.windows) ≡ not (eqb b.nwindows 0) = unfold ledger_in in used_is b.windows b.nwindows h in
      let called : not (is_empty g.instructions) ≡ not (eqb b.ninstructions 0) = unfold ledger_in in used_is b.instructions b.ninstructions k in
      rw (dated, windowed, called, read_is, contract_is b meter s)

  pub window_number : (w : Window) → own_of b meter (windowᶜ w) ≡ window_refusal b.contract.service (book_span b) (take b.nwindows b.windows) w
  unfolding numbers ledger_in window_refusal
  window_number w = rw (contract_is b meter s, span_is b meter s)

  pub instruction_number : (i : Instruction)
      → own_of b meter (instructionᶜ i) ≡ instruction_refusal b.contract (book_span b) (take b.ninstructions b.instructions) i
  unfolding numbers ledger_in instruction_refusal
  instruction_number i = rw (contract_is b meter s, span_is b meter s)

  pub default_number : (d : Default)
      → own_of b meter (defaultᶜ d) ≡ default_refusal (book_span b) (take b.nwindows b.windows) (take b.ndefaults b.defaults) d
  unfolding numbers ledger_in default_refusal
  default_number d = rw (span_is b meter s)

  pub reading_number : (n : ℕ) (r : Reading) → own_of b meter (revised_as n r) ≡ reading_refusal (book_span b) meter n r
  unfolding numbers ledger_in reading_refusal held_refusal
  reading_number zero r =
      let o = metered_at meter r.minute.0 in
      let inside = ltb r.minute.0 (book_span b) in
      rw (span_is b meter s, some_held (cond inside o none), held_inside inside 0 o)
  reading_number (suc n) r =
      let o = metered_at meter r.minute.0 in
      let inside = ltb r.minute.0 (book_span b) in
      rw (span_is b meter s, held_inside inside (suc n) o, ne_eqb (suc n) 0 (λ q. omega arith))

-- the others have none
pub contract_own : (b : Book) (meter : Memory) (k : Contract) → own_of b meter (contractᶜ k) ≡ 0
unfolding numbers
contract_own b meter k = refl

pub close_own : (b : Book) (meter : Memory) → own_of b meter closeᶜ ≡ 0
unfolding numbers
close_own b meter = refl
