-- What a command is answered at a book, from what the code asks one after the other: its own operands, the book, and what is beside it; and the
-- entry that comes of the answer.
use mathlib.Core.Path.{◌≡◌, refl, sym, ap, ◌∙◌}
use mathlib.Core.Bool.{Bool, true, false, not, cond}
use mathlib.Core.Option.{Option, none, some}
use Prim.Native.Nat.{ℕ, zero, suc, ◌<◌}
use native.Mathlib.Omega.{arith}
use lib.Dec.{eqb, ltb}
use lib.ListN.{length}
use borrow.Author.Tests.{ne_eqb}
use Rattle.std.specs.Prelude.{Ok, Err}
use Rattle.std.specs.Result.{IsErrAnd}
use Rattle.commands.specs.Input.{input_refusal}
use Rattle.commands.specs.Refusals.{outcome, refusal_of}
use Rattle.commands.specs.declared.refusal.Refusal.{Refusal}
use Rattle.commands.specs.declared.entries.Command.{Command}
use Rattle.commands.proofs.Input.{numbered}
use Rattle.commands.proofs.Outcomes.{outcome_none}
use Rattle.rules.specs.Answer.{Answer}
use Rattle.rules.specs.Ledger.{is_contract}
use Rattle.rules.specs.Refusal.{answer_of, refusal}
use Rattle.rules.proofs.Taken.{Allowed, allowed}
use Rattle.book_memory.specs.Meter.{put_meter, Memory, room_in}
use Rattle.book_refusal.specs.Refusals.{any_refusal}
use Rattle.book.specs.Book.{ledger_in, put_book}
use Rattle.book_memory.proofs.Lengths.{unmarked, unmarked_room}
use Rattle.book_sound.proofs.Tables.{has_room}
use Rattle.commands.specs.declared.entries.Window.{Window}
use Rattle.commands.specs.declared.entries.Instruction.{Instruction}
use Rattle.commands.specs.declared.entries.Default.{Default}
use Rattle.commands.specs.declared.entries.Command.TheVariants.{Window as windowᶜ, Instruction as instructionᶜ, Default as defaultᶜ}
use Rattle.book.specs.Enter.{AnswersTo, AnswersAt, Enters, EntersAt, enter_book, entry_of, taken_as}
use Rattle.book.specs.Sound.{sound}
use Rattle.book.specs.declared.Book.{Book}
use Rattle.book.proofs.SoundTests.{Tables, sound-parts}
use Rattle.book.proofs.Refusals.{cells_of, any_of, own_of, asked, by_any}

-- the answer for a number, 0 for none
answer_numbered : (n : ℕ) → answer_of (numbered n) ≡ outcome n
unfolding outcome
answer_numbered zero = refl
answer_numbered (suc n) = refl

-- a refusal as it is; where there is none, what is asked next decides
abbrev pub next_asked : Answer → Answer → Answer
next_asked (Err e) next = Err e
next_asked (Ok u) next = next

next_number : (n m : ℕ) → outcome (cond (eqb n 0) m n) ≡ next_asked (outcome n) (outcome m)
unfolding outcome
next_number zero m = refl
next_number (suc n) m = rw (ne_eqb (suc n) 0 (λ q. omega arith)) refl

next_any : (i : ℕ) (s z a f t : Bool) (m : ℕ)
    → outcome (cond (eqb (any_refusal i s z a f t) 0) m (any_refusal i s z a f t))
    ≡ next_asked (outcome i) (next_asked (outcome (any_refusal 0 s z a f t)) (outcome m))
unfolding any_refusal outcome
next_any zero s z a f t m = next_number (any_refusal 0 s z a f t) m
next_any (suc i) s z a f t m = let h = ne_eqb (suc i) 0 (λ q. omega arith) in rw (h, h) refl

-- what a command is answered: its own operands are asked first, then the book, then what is beside it
pub answered : (b : Book) (meter : Memory) (c : Command)
    → answer_of (refusal (not (sound b)) (room_in meter) (ledger_in b meter) c)
    ≡ next_asked (outcome (input_refusal c))
    (next_asked (outcome (any_refusal 0 (sound b) b.closed b.agreed (is_contract c) (ltb (room_in meter) (cells_of b c)))) (outcome (own_of b meter c)))
answered b meter c =
    ap answer_of (by_any b meter c) ∙ answer_numbered _
    ∙ next_any (input_refusal c) (sound b) b.closed b.agreed (is_contract c) (ltb (room_in meter) (cells_of b c)) (own_of b meter c)

-- what is known of a command to a book where neither its operands nor the book refuse it
pub record Past (b : Book) (room : ℕ) (c : Command) : Type 0 where
  pub none : any_of b room c ≡ 0
  pub sound : sound b ≡ true
  pub agreed : b.agreed ≡ not (is_contract c)
  pub enough : ltb room (cells_of b c) ≡ false
  pub tables : Tables b

zero-any : (input : ℕ) (sound closed agreed contract short : Bool) → any_refusal input sound closed agreed contract short ≡ 0
    → (sound ≡ true) × (agreed ≡ not contract) × (short ≡ false)
unfolding any_refusal
zero-any zero true false true false false e = (refl, refl, refl)
zero-any zero true false false true false e = (refl, refl, refl)
zero-any zero true false true false true e = absurd (omega arith)
zero-any zero true false false true true e = absurd (omega arith)
zero-any zero true false true true s e = absurd (omega arith)
zero-any zero true false false false s e = absurd (omega arith)
zero-any zero true true a f s e = absurd (omega arith)
zero-any zero false c a f s e = absurd (omega arith)
zero-any (suc n) l c a f s e = let q : suc n ≡ 0 = rw (ne_eqb (suc n) 0 (λ h. omega arith)) at e in absurd (omega arith)

pub past_any : (b : Book) (room : ℕ) (c : Command) → any_of b room c ≡ 0 → Past b room c
past_any b room c z =
    let p = zero-any (input_refusal c) (sound b) b.closed b.agreed (is_contract c) (ltb room (cells_of b c)) z in
    record { none = z; sound = p.0; agreed = p.1; enough = p.2; tables = (sound-parts b p.0).tables }

module _ (b : Book) (room : ℕ) (c : Command) where
  -- ---- asking

  -- the operands are refused
  pub by_input : {e : Refusal} → ◌≡◌ {A = Answer} (Err e) (outcome (input_refusal c)) → (meter : Memory) → room_in meter ≡ room → AnswersTo b meter c (Err e)
  by_input e meter q = sym (answered b meter c ∙ rw (← e) refl)

  -- the book refuses it, its operands being in their ranges
  module _ {u : Unit {0}} {s : Bool} (i : ◌≡◌ {A = Answer} (Ok u) (outcome (input_refusal c))) (k : s ≡ sound b) where
    pub by_book : {e : Refusal} → ◌≡◌ {A = Answer} (Err e) (outcome (any_refusal 0 s b.closed b.agreed (is_contract c) (ltb room (cells_of b c))))
        → (meter : Memory) → room_in meter ≡ room → AnswersTo b meter c (Err e)
    by_book e meter q = sym (answered b meter c ∙ rw (← i, q, ← k, ← e) refl)

    pub past_book : {v : Unit {0}} → ◌≡◌ {A = Answer} (Ok v) (outcome (any_refusal 0 s b.closed b.agreed (is_contract c) (ltb room (cells_of b c)))) → Past b room c
    past_book e = past_any b room c (sym (rw (k, outcome_none (sym i)) refl) ∙ outcome_none (sym e))

  -- then the conditions of its kind decide
  pub by_own : Past b room c → {x : Answer} (meter : Memory) → room_in meter ≡ room → x ≡ outcome (own_of b meter c) → AnswersTo b meter c x
  by_own p meter q e = e ∙ sym (ap answer_of (by_any b meter c) ∙ answer_numbered _ ∙ rw (q, p.none) refl)

-- ---- the entry that comes of the answer

module _ (b : Book) (meter : Memory) (c : Command) {a : Answer} (e : AnswersTo b meter c a) where
  -- a refusal changes nothing
  refused_to : {r : Refusal} → a ≡ Err r → Enters b meter c (record { answer = Err r; book = b }) meter
  unfolding enter_book
  refused_to {r} f = go (asked b meter c) refl (sym f ∙ e)
    where
      go : (o : Option ℕ) → asked b meter c ≡ o → ◌≡◌ {A = Answer} (Err r) (answer_of o) → Enters b meter c (record { answer = Err r; book = b }) meter
      go none g h = cc
      go (some n) g h = let same : r ≡ refusal_of n = cc in record { entry = rw (g, same) refl; meter = rw g refl }

  -- the same where `?` hands the refusal on
  pub handed_to : {r : Refusal} {x : Answer} → a ≡ Err r → IsErrAnd x (λ y. y ≡ r) → Enters b meter c (entry_of x b) meter
  handed_to {x = Ok u} f h = absurd h
  handed_to {x = Err d} f h = refused_to (f ∙ ap Err (sym h))

  module _ {u : Unit {0}} (f : a ≡ Ok u) where
    -- what is not refused is put into both
    none_asked : asked b meter c ≡ none
    none_asked = go (asked b meter c) (sym f ∙ e)
      where
        go : (o : Option ℕ) → ◌≡◌ {A = Answer} (Ok u) (answer_of o) → o ≡ none
        go none h = refl
        go (some n) h = cc

    pub taken_to : Enters b meter c (taken_as (put_book b c)) (put_meter meter c)
    unfolding enter_book
    taken_to = record { entry = rw none_asked refl; meter = rw none_asked refl }

    -- and no condition of the rules holds of it
    pub past_to : Past b (room_in meter) c
    past_to = past_any b (room_in meter) c (first_zero (any_of b (room_in meter) c) (own_of b meter c) (sym (by_any b meter c) ∙ none_asked))
      where
        first_zero : (n m : ℕ) → numbered (cond (eqb n 0) m n) ≡ none → n ≡ 0
        first_zero zero m h = refl
        first_zero (suc n) m h = let g : numbered (suc n) ≡ none = rw (ne_eqb (suc n) 0 (λ q. omega arith)) at h in cc

    pub allowed_to : Allowed (room_in meter) (ledger_in b meter) c
    allowed_to = allowed (room_in meter) (ledger_in b meter) c (rw past_to.sound at none_asked)

-- the same of an entry that leaves lent memory as it is
module _ (b : Book) (room : ℕ) (c : Command) {a : Answer} (e : AnswersAt b room c a) where
  pub handed_at : {r : Refusal} {x : Answer} → a ≡ Err r → IsErrAnd x (λ y. y ≡ r) → EntersAt b room c (entry_of x b)
  handed_at f h meter q = handed_to b meter c (e meter q) f h

  module _ {u : Unit {0}} (f : a ≡ Ok u) where
    pub taken_at : ((meter : Memory) → put_meter meter c ≡ meter) → EntersAt b room c (taken_as (put_book b c))
    taken_at same meter q = let t = taken_to b meter c (e meter q) f in record { entry = t.entry; meter = sym (same meter) ∙ t.meter }

    -- some memory of that room
    lending : AnswersTo b (unmarked room) c a
    lending = e (unmarked room) (unmarked_room room)

    pub past_at : Past b room c
    past_at = rw (unmarked_room room) at (past_to b (unmarked room) c lending f)

    pub allowed_at : Allowed room (ledger_in b (unmarked room)) c
    allowed_at = rw (unmarked_room room) at (allowed_to b (unmarked room) c lending f)

-- ---- an entry that is taken has a place in its table

pub window_place : (b : Book) (room : ℕ) (w : Window) {a : Answer} {u : Unit {0}} → AnswersAt b room (windowᶜ w) a → a ≡ Ok u → length b.windows ≡ 128 → b.nwindows < 128
unfolding ledger_in
window_place b room w e f l = has_room b.windows b.nwindows 128 l (past_at b room (windowᶜ w) e f).tables.windows (allowed_at b room (windowᶜ w) e f).kind.room

pub instruction_place : (b : Book) (room : ℕ) (i : Instruction) {a : Answer} {u : Unit {0}} → AnswersAt b room (instructionᶜ i) a → a ≡ Ok u
    → length b.instructions ≡ 64 → b.ninstructions < 64
unfolding ledger_in
instruction_place b room i e f l = has_room b.instructions b.ninstructions 64 l (past_at b room (instructionᶜ i) e f).tables.instructions (allowed_at b room (instructionᶜ i) e f).kind.room

pub default_place : (b : Book) (room : ℕ) (d : Default) {a : Answer} {u : Unit {0}} → AnswersAt b room (defaultᶜ d) a → a ≡ Ok u → length b.defaults ≡ 128 → b.ndefaults < 128
unfolding ledger_in
default_place b room d e f l = has_room b.defaults b.ndefaults 128 l (past_at b room (defaultᶜ d) e f).tables.defaults (allowed_at b room (defaultᶜ d) e f).kind.room
