-- 11 in both directions: the books that a list of commands leaves are the sound ones. A sound book is left by the commands that it is written as.
use mathlib.Core.Path.{◌≡◌, refl, sym, ap, ◌∙◌, subst, subst⁻¹}
use mathlib.Core.Bool.{Bool, true, false, cond}
use mathlib.Core.List.{List, [], ◌∷◌, ◌++◌}
use mathlib.Core.Option.{some, none-ne-some, some-injective}
use Prim.Native.Nat.{ℕ, ◌≤◌, ◌<◌}
use native.Mathlib.Nat.{le_refl}
use native.Mathlib.Omega.{arith}
use lib.Dec.{T, ltb}
use borrow.Author.Tests.{ltb-true}
use lib.ListN.{length, take, length-take}
use Rattle.energy.proofs.Tests.{to-T, of_T}
use Rattle.calendar.specs.Calendar.{is_no_date}
use Rattle.calendar.specs.declared.Date.{Date}
use Rattle.commands.specs.Input.{is_reading}
use Rattle.commands.proofs.Chain.{true_or_false}
use Rattle.rules.specs.Ledger.{Ledger, Metered, ledger_of}
use Rattle.rules.specs.Refusal.{taken}
use Rattle.rules.specs.Reached.{Reached, untouched, agreed, Untouched, Agreed}
use Rattle.rules.specs.File.{written}
use Rattle.rules.specs.Rewritten.{Rewritten}
use Rattle.commands.specs.declared.entries.Command.{Command}
use Rattle.rules.proofs.Rewritten.{rewritten}
use Rattle.rules.proofs.Taken.{taken_ind}
use Rattle.book_memory.specs.Meter.{put_meter, metered_at, Memory, kw_at, revision_at, lent}
use Rattle.book_memory.proofs.Lengths.{unmarked, unmarked_room}
use Rattle.book.specs.Book.{empty_book, book_span, book_cells, ledger_in, put_book, put_all}
use Rattle.book.specs.Sound.{sound, Shaped, FromCommands, Sound·theorem}
use Rattle.book.specs.declared.Book.{Book}
use Rattle.book.proofs.Holds.{none_below}
use Rattle.book.proofs.SoundTests.{Tables, sound-parts, contract_is, Empty, sound_empty}
use Rattle.book.proofs.Month.{span_is, cells_is, contents_passed, span_empty}
use Rattle.book.proofs.Follow.{Follows, starts, put_follows}
pub use Rattle.book.proofs.SameBook.{same_book_lem}

-- ---- what commands leave is sound

put_all-snoc : (b : Book) (t : List Command) (c : Command) → put_all b (t ++ (c ∷ [])) ≡ put_book (put_all b t) c
unfolding put_all
put_all-snoc b [] c = refl
put_all-snoc b (x ∷ t) c = put_all-snoc (put_book b x) t c

-- commands taken, put into the empty book, with some lent memory that follows them
pub record Leads (size : ℕ) (t : List Command) : Type 0 where
  pub meter : Memory
  pub follows : Follows size t (put_all empty_book t) meter

pub leads : (size : ℕ) (cs : List Command) → Leads size (taken size cs)
unfolding taken put_all
leads size cs =
    taken_ind size (Leads size)
    (λ t c l e. record {
      meter = put_meter l.meter c;
      follows = subst⁻¹ (λ b. Follows size (t ++ (c ∷ [])) b (put_meter l.meter c)) (put_all-snoc empty_book t c) (put_follows l.follows c e);
    })
    [] cs
    (record {
      meter = unmarked size;
      follows = subst (λ n. Follows n [] empty_book (unmarked size)) (unmarked_room size) (starts (unmarked size));
    })

from_sound : (b : Book) → FromCommands b → T (sound b)
from_sound b l = subst⁻¹ (λ x. T (sound x)) l.leaves (to-T (leads l.size l.commands).follows.stands.sound)

-- ---- the ledger of a sound book is reached

short : {A : Type 0} (n : ℕ) (l : List A) {most : ℕ} → n ≤ most → length (take n l) ≤ most
short n l {most} h = subst⁻¹ (λ x. x ≤ most) (length-take n l) (omega arith)

-- a reading is in the span and in range
pub record Given (b : Book) (meter : Memory) (m : ℕ) (x : Metered) : Type 0 where
  pub inside : m < book_span b
  pub range : T (is_reading x.kw)
  pub byte : x.revision ≡ revision_at meter m

pub given : (b : Book) (meter : Memory) (m : ℕ) (x : Metered) → (ledger_in b meter).reading m ≡ some x → Given b meter m x
unfolding ledger_in
given b meter m x e =
    let z = kw_at meter m in
    let held : Metered = record { kw = z; revision = revision_at meter m } in
    true_or_false (ltb m (book_span b))
    (λ l.
    let h : metered_at meter m ≡ some x = rw l at e in
    true_or_false (is_reading z)
    (λ i.
    let same : held ≡ x = some-injective held x (rw i at h) in
    record { inside = ltb-true m (book_span b) l; range = subst (λ y. T (is_reading y.kw)) same (to-T i); byte = ap (λ y. y.revision) (sym same) })
    (λ i. absurd (none-ne-some x (rw i at h))))
    (λ l. absurd (none-ne-some x (rw l at e)))

-- a date at most
few : (none : Bool) (d : Date) → length (cond none [] (d ∷ [])) ≤ 1
few true d = omega arith
few false d = omega arith

with_contract : (b : Book) (meter : Memory) (size : ℕ) → sound b ≡ true → b.agreed ≡ true → book_cells b ≤ size → Agreed size (ledger_in b meter)
unfolding ledger_in
with_contract b meter size e s h =
    let t : Tables b = (sound-parts b e).tables in
    let both = contents_passed b meter s (sound-parts b e).contents in
    record {
      contract = rw (contract_is b meter s, s);
      tests = both.1;
      dates = few (is_no_date b.date) b.date;
      dated = both.0;
      windows = short b.nwindows b.windows t.windows;
      instructions = short b.ninstructions b.instructions t.instructions;
      defaults = short b.ndefaults b.defaults t.defaults;
      cells = rw (cells_is b meter s) h;
      readings = λ m x r. let h = given b meter m x r in (rw (span_is b meter s) h.inside, h.range);
    }

without : (b : Book) (meter : Memory) → sound b ≡ true → b.agreed ≡ false → Untouched (ledger_in b meter)
unfolding ledger_in
without b meter e s =
    let n : Empty b = sound_empty b e s in
    record {
      contracts = ap (λ x. cond x (b.contract ∷ []) []) s;
      dates = ap (λ d. cond (is_no_date d) [] (d ∷ [])) n.date;
      windows = ap (λ x. take x b.windows) n.windows;
      instructions = ap (λ x. take x b.instructions) n.instructions;
      defaults = ap (λ x. take x b.defaults) n.defaults;
      not_closed = n.not_closed;
      readings = λ m. none_below b meter m (span_empty b e s);
    }

pub book_reached : (b : Book) (meter : Memory) (size : ℕ) → sound b ≡ true → book_cells b ≤ size → Reached size (ledger_in b meter)
book_reached b meter size e h =
    true_or_false b.agreed (λ s. agreed (with_contract b meter size e s h)) (λ s. untouched (without b meter e s))

-- ---- a sound book is left by its own commands

sound_from : (b : Book) → Shaped b → T (sound b) → FromCommands b
sound_from b s t =
    let size : ℕ = book_cells b in
    let e : sound b ≡ true = of_T (sound b) t in
    let none : Memory = lent [] [] in
    let g : Ledger = ledger_in b none in
    let w : Rewritten size g = rewritten size g (book_reached b none size e (le_refl size)) (λ m x h. omega (arith, (given b none m x h).byte)) in
    let l : Leads size (taken size (written g)) = leads size (written g) in
    let after : Book = put_all empty_book (taken size (written g)) in
    let same : ledger_in after l.meter ≡ g = l.follows.ledger ∙ ap ledger_of w.all_taken ∙ w.same in
    record {
      size = size;
      commands = written g;
      leaves = same_book_lem b after none l.meter s l.follows.stands.shaped e l.follows.stands.sound (sym same);
    }

pub commands_leave : Sound·theorem
unfolding Sound·theorem
commands_leave b s = (λ t. sound_from b s t, λ l. from_sound b l)
