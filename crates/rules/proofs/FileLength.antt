-- What a command that is taken costs in bytes it takes off the room that the ledger has left: for a contract, in its tables, in its minutes, and for a close.
use mathlib.Core.Path.{◌≡◌, refl, sym, ap, ◌∙◌, subst}
use mathlib.Core.Bool.{Bool, true, false, not, ◌&&◌, cond, or-false, false≢true}
use mathlib.Core.List.{List, [], ◌∷◌, ◌++◌, map, append-nil}
use mathlib.Core.Option.{Option, none, some}
use Prim.Native.Nat.{ℕ, zero, suc, ◌+◌, ◌-◌, ◌*◌, ◌≤◌, ◌<◌, zero-le}
use native.Mathlib.Nat.{le_refl, le_of_lt}
use native.Mathlib.Omega.{arith}
use borrow.Author.Tests.{eq-eqb, ne_eqb, leb-false}
use lib.Dec.{eqb}
use lib.ListN.{length, length-append}
use Rattle.energy.specs.Lists.{concat_map, sum_ℕ, is_empty, is_some, later, between, any}
use Rattle.energy.proofs.Sums.{between_split, between_cons, length-between}
use Rattle.energy.proofs.Tests.{T_and, either-eq}
use Rattle.rules.specs.Ledger.{Ledger, Metered, ledger_of, span_in, cells_in, reading_of}
use Rattle.commands.specs.Command.{revised_as}
use Rattle.commands.specs.Input.{from_to, meterable}
use Rattle.commands.proofs.Terms.{bounds}
use Rattle.rules.specs.Refusal.{not_above, refusal, taken}
use Rattle.rules.specs.File.{total, table, widths_of, write, reading_at, written, file_of}
use Rattle.rules.specs.Reached.{Reached, untouched, agreed}
use Rattle.rules.specs.FileLength.{FileLength·theorem, most_taken, most_written}
use Rattle.commands.specs.declared.entries.Reading.{Reading}
use Rattle.commands.specs.declared.entries.Command.{Command}
use Rattle.commands.specs.declared.entries.Command.TheVariants.{Contract as contractᶜ, Date as dateᶜ, Window as windowᶜ, Instruction as instructionᶜ}
use Rattle.commands.specs.declared.entries.Command.TheVariants.{Default as defaultᶜ, Reading as readingᶜ, Revision as revisionᶜ}
use Rattle.commands.specs.declared.entries.Command.TheVariants.{Close as closeᶜ}
use Rattle.rules.proofs.AboveHeld.{above_held}
use Rattle.rules.proofs.Reached.{step as keeps, start, bare}
use Rattle.rules.proofs.Operands.{write_long}
use Rattle.rules.proofs.Span.{span_cells, cells_none}
use Rattle.rules.proofs.Taken.{grown, ledger_of-snoc, concat_map_append, concat_map_snoc, Allowed, allowed, taken_ind}

-- ---- a sum over minutes, of which one falls

sum-append : (f : ℕ → ℕ) (xs ys : List ℕ) → sum_ℕ f (xs ++ ys) ≡ sum_ℕ f xs + sum_ℕ f ys
unfolding sum_ℕ
sum-append f [] ys = omega arith
sum-append f (x ∷ xs) ys = omega (arith, sum-append f xs ys)

module _ (f h : ℕ → ℕ) (less : (m : ℕ) → h m ≤ f m) where
  sum_less : (xs : List ℕ) → sum_ℕ h xs ≤ sum_ℕ f xs
  unfolding sum_ℕ
  sum_less [] = le_refl 0
  sum_less (x ∷ xs) = omega (arith, less x, sum_less xs)

  -- and one of them by d
  one_less : (n m d : ℕ) → m < n → d + h m ≤ f m → d + sum_ℕ h (between 0 n) ≤ sum_ℕ f (between 0 n)
  unfolding sum_ℕ
  one_less n m d l p =
      let before = between 0 m in
      let after = between (suc m) n in
      rw (between_split 0 m n zero-le (le_of_lt l), between_cons m n l)
      (omega (arith, p, sum-append h before (m ∷ after), sum-append f before (m ∷ after), sum_less before, sum_less after))

-- ---- the room that a ledger has left, in bytes

-- what a minute can still take: a plain reading and 255 revisions, or the revisions above the one that it holds
abbrev left : Option Metered → ℕ
left none = 7 + 8 * 255
left (some x) = 8 * (255 - x.revision)

-- the bytes of a close that is still to come
abbrev to_close : Bool → ℕ
to_close true = 0
to_close false = 1

unfoldable room : ℕ → Ledger → ℕ
room size g =
    32 * (1 - length g.contracts) + 5 * (1 - length g.dates) + 6 * (128 - length g.windows) + 5 * (64 - length g.instructions) + 5 * (128 - length g.defaults)
    + sum_ℕ (λ m. left (g.reading m)) (between 0 size)
    + to_close g.closed

-- no contract is there yet
none_yet : {A : Type 0} (xs : List A) → (not (is_empty xs) && true) ≡ false → length xs ≡ 0
unfolding is_empty
none_yet [] e = refl
none_yet (x ∷ xs) e = absurd (false≢true (sym e))

-- a reading more, of revision n: what its minute can still take falls by d, and every other minute is as it was
module _ (g : Ledger) (n d : ℕ) (r : Reading) (falls : d + 8 * (255 - n) ≤ left (g.reading r.minute.0)) where
  abbrev new : Metered
  new = record { kw = r.kw.0; revision = n }

  abbrev more : ℕ → Option Metered
  more m = later (g.reading m) (cond (eqb r.minute.0 m) (some new) none)

  now : d + left (more r.minute.0) ≤ left (g.reading r.minute.0)
  unfolding later
  now = rw (eq-eqb r.minute.0 r.minute.0 refl) falls

  no_more : (m : ℕ) → left (more m) ≤ left (g.reading m)
  unfolding later
  no_more m =
      either-eq r.minute.0 m (λ e. subst (λ x. left (more x) ≤ left (g.reading x)) e (omega (arith, now)))
      (λ e. rw (ne_eqb r.minute.0 m e) (le_refl (left (g.reading m))))

  takes : (size : ℕ) → r.minute.0 < size
      → d + sum_ℕ (λ m. left (more m)) (between 0 size) ≤ sum_ℕ (λ m. left (g.reading m)) (between 0 size)
  takes size l = one_less (λ m. left (g.reading m)) (λ m. left (more m)) no_more size r.minute.0 d l now

-- a plain reading where there is none, and a revision above the one held
plain_falls : (o : Option Metered) → is_some o ≡ false → 7 + 8 * (255 - 0) ≤ left o
unfolding is_some
plain_falls none e = omega arith
plain_falls (some x) e = absurd (false≢true (sym e))

revision_falls : (n : ℕ) (o : Option Metered) → 1 ≤ n → n ≤ 255 → not_above n o ≡ false → 8 + 8 * (255 - n) ≤ left o
revision_falls n none l m e = omega arith
revision_falls n (some x) l m e = omega (arith, above_held n x e)

step : (size : ℕ) (g : Ledger) (c : Command) → span_in g ≤ size → Allowed size g c → length (write c) + room size (grown g c) ≤ room size g
unfolding room later table widths_of total
step size g (contractᶜ k) s a =
    simp (append-nil, length-append, or-false) (omega (arith, write_long (contractᶜ k), none_yet g.contracts a.book.only))
step size g (dateᶜ d) s a =
    simp (append-nil, length-append, or-false) (omega (arith, write_long (dateᶜ d), ap length (bare g d a.kind.early).dates))
step size g (windowᶜ w) s a =
    simp (append-nil, length-append, or-false) (omega (arith, write_long (windowᶜ w), leb-false 128 (length g.windows) a.kind.room))
step size g (instructionᶜ i) s a =
    simp (append-nil, length-append, or-false) (omega (arith, write_long (instructionᶜ i), leb-false 64 (length g.instructions) a.kind.room))
step size g (defaultᶜ d) s a =
    simp (append-nil, length-append, or-false) (omega (arith, write_long (defaultᶜ d), leb-false 128 (length g.defaults) a.kind.room))
step size g (readingᶜ r) s a =
    let inside : r.minute.0 < size = omega (arith, leb-false (span_in g) r.minute.0 a.kind.inside) in
    simp (append-nil, or-false)
    (omega (arith, write_long (readingᶜ r), takes g 0 7 r (plain_falls (g.reading r.minute.0) a.kind.unread) size inside))
step size g (revisionᶜ v) s a =
    let m : ℕ = v.reading.minute.0 in
    let inside : m < size = omega (arith, leb-false (span_in g) m a.kind.inside) in
    let range = bounds 1 255 v.number (T_and (from_to 1 255 v.number) (meterable v.reading) a.input.operands).0 in
    let falls = revision_falls v.number (g.reading m) range.0 range.1 a.kind.above in
    simp (append-nil, or-false) (omega (arith, write_long (revisionᶜ v), takes g v.number 8 v.reading falls size inside))
step size g closeᶜ s a = simp append-nil (rw a.book.not_closed (omega (arith, write_long closeᶜ)))

-- ---- a list

-- lent memory has room for the span
pub cells_fit : {size : ℕ} {g : Ledger} → Reached size g → cells_in g ≤ size
cells_fit {g = g} (untouched u) = omega (arith, cells_none g u.contracts u.dates)
cells_fit (agreed a) = a.cells

-- and so holds it
pub span_fits : {size : ℕ} {g : Ledger} → Reached size g → span_in g ≤ size
span_fits {g = g} r = omega (arith, cells_fit r, span_cells g)

-- the room before the first command
full : (xs : List ℕ) → sum_ℕ (λ m. 2047) xs ≡ 2047 * length xs
unfolding sum_ℕ
full [] = refl
full (x ∷ xs) = omega (arith, full xs)

all_room : (size : ℕ) → room size (ledger_of []) ≤ most_taken size
unfolding most_taken room ledger_of concat_map any reading_of
all_room size = omega (arith, full (between 0 size), length-between 0 size)

-- a command more, in bytes
pub written_longer : (cs : List Command) (c : Command) → length (concat_map write (cs ++ (c ∷ []))) ≡ length (concat_map write cs) + length (write c)
written_longer cs c = ap length (concat_map_snoc write cs c) ∙ length-append (concat_map write cs) (write c)

-- what the commands taken are written as, and the room that they leave
Spent : ℕ → List Command → Type 0
Spent size t = Reached size (ledger_of t) × (length (concat_map write t) + room size (ledger_of t) ≤ most_taken size)

spends : (size : ℕ) (t : List Command) (c : Command) → Spent size t → refusal false size (ledger_of t) c ≡ none → Spent size (t ++ (c ∷ []))
unfolding Spent
spends size t c s e =
    let less = step size (ledger_of t) c (span_fits s.0) (allowed size (ledger_of t) c e) in
    rw ledger_of-snoc (keeps size (ledger_of t) c s.0 e, omega (arith, s.1, written_longer t c))

within : (size : ℕ) (cs : List Command) → length (concat_map write (taken size cs)) ≤ most_taken size
unfolding taken concat_map Spent
within size cs = let all = taken_ind size (Spent size) (spends size) [] cs (start size, omega (arith, all_room size)) in omega (arith, all.1)

-- ---- what a book is written as

-- entries of one kind, each as long as the other
lengths : {A : Type 0} (n : ℕ) (f : A → Command) → ((x : A) → length (write (f x)) ≡ n) → (xs : List A)
    → length (concat_map write (map f xs)) ≡ n * length xs
unfolding concat_map
lengths n f h [] = omega arith
lengths n f h (x ∷ xs) = omega (arith, h x, length-append (write (f x)) (concat_map write (map f xs)), lengths n f h xs)

-- a minute's reading, and those of minutes in a row
reading_long : (o : Option Metered) (m : ℕ) → length (concat_map write (reading_at o m)) ≤ 8
unfolding concat_map table widths_of total
reading_long none m = omega arith
reading_long (some x) m = go x.revision (record { minute = record { 0 = m }; kw = record { 0 = x.kw } })
  where
    go : (n : ℕ) (r : Reading) → length (concat_map write (revised_as n r ∷ [])) ≤ 8
    go zero r = simp append-nil (omega (arith, write_long (readingᶜ r)))
    go (suc n) r = simp append-nil (omega (arith, write_long (revisionᶜ (record { number = suc n; reading = r }))))

readings_long : (f : ℕ → Option Metered) (ms : List ℕ) → length (concat_map write (concat_map (λ m. reading_at (f m) m) ms)) ≤ 8 * length ms
unfolding concat_map
readings_long f [] = omega arith
readings_long f (m ∷ ms) =
    let rest : List Command = concat_map (λ m. reading_at (f m) m) ms in
    rw (concat_map_append write (reading_at (f m) m) rest)
    (omega (arith, length-append (concat_map write (reading_at (f m) m)) (concat_map write rest), reading_long (f m) m, readings_long f ms))

-- a close, if there is one
close_long : (b : Bool) → length (concat_map write (cond b (closeᶜ ∷ []) [])) ≤ 1
unfolding concat_map table widths_of total
close_long true = simp append-nil (omega (arith, write_long closeᶜ))
close_long false = omega arith

-- tables with no more entries than they have room for
record Few (g : Ledger) : Type 0 where
  contracts : length g.contracts ≤ 1
  dates : length g.dates ≤ 1
  windows : length g.windows ≤ 128
  instructions : length g.instructions ≤ 64
  defaults : length g.defaults ≤ 128

few : {size : ℕ} {g : Ledger} → Reached size g → Few g
few (untouched u) =
    record {
      contracts = omega (arith, ap length u.contracts);
      dates = omega (arith, ap length u.dates);
      windows = omega (arith, ap length u.windows);
      instructions = omega (arith, ap length u.instructions);
      defaults = omega (arith, ap length u.defaults);
    }
few (agreed a) =
    record {
      contracts = omega (arith, ap length a.contract);
      dates = a.dates;
      windows = a.windows;
      instructions = a.instructions;
      defaults = a.defaults;
    }

written_most : (size : ℕ) (g : Ledger) → Reached size g → length (file_of g) ≤ most_written size
unfolding most_written file_of written table widths_of total
written_most size g r =
    let f = few r in
    simp (concat_map_append, length-append)
    (omega (
      arith,
      f.contracts,
      f.dates,
      f.windows,
      f.instructions,
      f.defaults,
      span_fits r,
      lengths 32 contractᶜ (λ k. write_long (contractᶜ k)) g.contracts,
      lengths 5 dateᶜ (λ d. write_long (dateᶜ d)) g.dates,
      lengths 6 windowᶜ (λ w. write_long (windowᶜ w)) g.windows,
      lengths 5 instructionᶜ (λ i. write_long (instructionᶜ i)) g.instructions,
      lengths 5 defaultᶜ (λ d. write_long (defaultᶜ d)) g.defaults,
      readings_long g.reading (between 0 (span_in g)),
      length-between 0 (span_in g),
      close_long g.closed,
    ))

pub file_length : FileLength·theorem
unfolding most_taken
file_length = record { most = within; counted = λ size h. omega arith; written = written_most }
