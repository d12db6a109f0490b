-- Laws of the parts of a book's file: entries and readings one after the other, and how long they are.
use mathlib.Core.Path.{◌≡◌, refl, sym, ap, ap₂, ◌∙◌}
use mathlib.Core.Bool.{Bool, true, false, cond, not}
use mathlib.Core.List.{List, [], ◌∷◌, ◌++◌, map, append-nil}
use mathlib.Core.Logic.{◌⊎◌}
use mathlib.Core.Option.{none, some}
use Prim.Native.Nat.{ℕ, zero, suc, ◌+◌, ◌-◌, ◌*◌, ◌≤◌, ◌<◌}
use native.Mathlib.Nat.{le_refl}
use native.Mathlib.Numerals.{add-one}
use native.Mathlib.Omega.{arith}
use lib.IntN.{ℤ}
use lib.ListN.{length, get_or, take, drop, length-append, length-map, length-take, length-drop}
use lib.Seq.{drop-cons, length-take-le, get_or-take}
use Rattle.energy.specs.Lists.{concat_map, run, between}
use Rattle.energy.proofs.Sums.{between-snoc}
use Rattle.calendar.specs.Calendar.{is_no_date}
use Rattle.book.specs.Book.{book_span}
use Rattle.commands.specs.Command.{revised_as}
use Rattle.commands.specs.Input.{is_reading, most_minute}
use Rattle.rules.specs.File.{table, widths_of, total, write, reading_at}
use Rattle.commands.specs.declared.entries.Command.{Command}
use Rattle.commands.specs.declared.entries.Command.TheVariants.{Contract as contractᶜ, Date as dateᶜ, Window as windowᶜ, Instruction as instructionᶜ}
use Rattle.commands.specs.declared.entries.Command.TheVariants.{Default as defaultᶜ, Reading as readingᶜ, Revision as revisionᶜ}
use Rattle.commands.specs.declared.entries.Command.TheVariants.{Close as closeᶜ}
use Rattle.rules.proofs.Operands.{write_long}
use Rattle.rules.proofs.Taken.{concat_map_append}
use Rattle.book_memory.specs.Meter.{Memory, lent, missing, room_in, cell_reading, kw_at, revision_at, metered_at}
use Rattle.book.specs.declared.Book.{Book}
use Rattle.file_write.specs.Laid.{file_bytes, readings, parts, Kept}
use Rattle.file_write.proofs.WrittenLaid.{bytes_one, length_both, Turns}

-- ---- how long a command is

pub write_short : (c : Command) → length (write c) ≤ 32
unfolding table widths_of total
write_short (contractᶜ k) = omega (arith, write_long (contractᶜ k))
write_short (dateᶜ d) = omega (arith, write_long (dateᶜ d))
write_short (windowᶜ w) = omega (arith, write_long (windowᶜ w))
write_short (instructionᶜ i) = omega (arith, write_long (instructionᶜ i))
write_short (defaultᶜ d) = omega (arith, write_long (defaultᶜ d))
write_short (readingᶜ r) = omega (arith, write_long (readingᶜ r))
write_short (revisionᶜ v) = omega (arith, write_long (revisionᶜ v))
write_short closeᶜ = omega (arith, write_long closeᶜ)

pub bytes_short : (cs : List Command) → length (file_bytes cs) ≤ 32 * length cs
unfolding concat_map
bytes_short [] = le_refl 0
bytes_short (c ∷ cs) = omega (arith, length-append (write c) (file_bytes cs), write_short c, bytes_short cs)

-- ---- a table

module _ {A : Type 0} (f : A → Command) where
  -- one entry after the other
  entry_more : (i : ℕ) (es : List A) → map f (take (suc i) es) ≡ map f (take i es) ++ map f (take 1 (drop i es))
  entry_more zero [] = refl
  entry_more zero (e ∷ es) = refl
  entry_more (suc i) [] = refl
  entry_more (suc i) (e ∷ es) = ap (λ cs. f e ∷ cs) (entry_more i es)

  pub entries_turns : (es : List A) (n : ℕ) → Turns (λ i. map f (take i es)) (λ i. map f (take 1 (drop i es))) n
  entries_turns es n = record { more = λ i h. rw (add-one i) (entry_more i es) }

  pub entry_here : (es : List A) (i : ℕ) (e : A) → i < length es → e ≡ get_or es i e → map f (take 1 (drop i es)) ≡ f e ∷ []
  entry_here es i e h is = rw (drop-cons es i e h, ← is)

  -- in bytes
  pub entry_longer : (es : List A) (i : ℕ) (e : A) → i < length es → e ≡ get_or es i e
      → length (file_bytes (map f (take (i + 1) es))) ≡ length (file_bytes (map f (take i es))) + length (write (f e))
  entry_longer es i e h is =
      let one = entry_here es i e h is in
      ap (λ cs. length (file_bytes cs)) ((entries_turns es (length es)).more i h) ∙ length_both (map f (take i es)) (map f (take 1 (drop i es)))
      ∙ rw (one, bytes_one)

  pub entries_short : (es : List A) (i : ℕ) → i ≤ 128 → length (file_bytes (map f (take i es))) ≤ 4096
  entries_short es i h = omega (arith, bytes_short (map f (take i es)), length-map (take i es) f, length-take i es)

-- ---- the readings

pub concat_map_ext : {B : Type 0} (f g : ℕ → List B) (n a : ℕ) → ((m : ℕ) → m < a + n → f m ≡ g m) → concat_map f (run a n) ≡ concat_map g (run a n)
unfolding concat_map run
concat_map_ext f g zero a same = refl
concat_map_ext f g (suc n) a same = ap₂ ◌++◌ (same a (omega arith)) (concat_map_ext f g n (suc a) (λ m h. same m (omega arith)))

-- a command that may be left out
once_short : (holds : Bool) (c : Command) → length (file_bytes (cond holds (c ∷ []) [])) ≤ 32
once_short true c = bytes_short (c ∷ [])
once_short false c = omega (arith, bytes_short [])

-- a cell's kW and its byte as a command, and whether the cell holds it
abbrev reading : ℤ → ℕ → ℕ → Command
reading z n m = revised_as n (record { minute = record { 0 = m }; kw = record { 0 = z } })

pub cell_command : (z : ℤ) (n m : ℕ) → reading_at (cell_reading z n) m ≡ cond (is_reading z) (reading z n m ∷ []) []
cell_command z n m = go (is_reading z)
  where
    go : (b : Bool) → reading_at (cond b (some (record { kw = z; revision = n })) none) m ≡ cond b (reading z n m ∷ []) []
    go true = refl
    go false = refl

pub cell_short : (z : ℤ) (n m : ℕ) → length (file_bytes (reading_at (cell_reading z n) m)) ≤ 32
cell_short z n m = rw (cell_command z n m) (once_short (is_reading z) (reading z n m))

module _ (meter : Memory) where
  abbrev turn : ℕ → List Command
  turn m = reading_at (metered_at meter m) m

  pub readings_turns : (n : ℕ) → Turns (readings meter) turn n
  unfolding readings concat_map
  readings_turns n =
      record { more = λ i h. rw (between-snoc 0 i (omega arith), concat_map_append turn (between 0 i) (i ∷ []), append-nil (turn i)) }

  pub readings-none : readings meter 0 ≡ []
  unfolding readings concat_map between run
  readings-none = refl

  -- a minute more, in bytes
  pub readings_longer : (m : ℕ) → length (file_bytes (readings meter (m + 1))) ≡ length (file_bytes (readings meter m)) + length (file_bytes (turn m))
  readings_longer m =
      ap (λ cs. length (file_bytes cs)) ((readings_turns (m + 1)).more m (omega arith)) ∙ length_both (readings meter m) (turn m)

  pub readings_short : (n : ℕ) → length (file_bytes (readings meter n)) ≤ 32 * n
  unfolding concat_map
  readings_short zero = rw readings-none (le_refl 0)
  readings_short (suc n) =
      rw (← add-one n) (omega (arith, readings_short n, readings_longer n, cell_short (kw_at meter n) (revision_at meter n) n))

-- ---- all of them

module _ (b : Book) (meter : Memory) where
  -- the length of the whole is that of the parts
  pub parts_length :
      length (file_bytes (parts b meter))
      ≡ length (file_bytes (cond b.agreed (contractᶜ b.contract ∷ []) []))
      + length (file_bytes (cond (not (is_no_date b.date)) (dateᶜ b.date ∷ []) []))
      + length (file_bytes (map windowᶜ (take b.nwindows b.windows))) + length (file_bytes (map instructionᶜ (take b.ninstructions b.instructions)))
      + length (file_bytes (map defaultᶜ (take b.ndefaults b.defaults)))
      + length (file_bytes (readings meter (book_span b)))
      + length (file_bytes (cond b.closed (closeᶜ ∷ []) []))
  unfolding parts
  parts_length = simp length_both

  -- and a small number
  pub parts_short : {size : ℕ} → Kept b size → length (file_bytes (parts b meter)) ≤ 2000000
  parts_short kept =
      omega (
        arith,
        parts_length,
        once_short b.agreed (contractᶜ b.contract),
        once_short (not (is_no_date b.date)) (dateᶜ b.date),
        entries_short windowᶜ b.windows b.nwindows kept.windows,
        entries_short instructionᶜ b.instructions b.ninstructions (omega (arith, kept.instructions)),
        entries_short defaultᶜ b.defaults b.ndefaults kept.defaults,
        readings_short meter (book_span b),
        kept.month,
        once_short b.closed closeᶜ,
      )

-- ---- the minutes of the span alone

-- the span is within lent memory
pub within : (b : Book) (size span : ℕ) → Kept b size → span ≡ book_span b → span ≤ size
within b size span kept e = omega (arith, kept.memory)

module _ (meter : Memory) (span : ℕ) (h : span ≤ room_in meter) where
  abbrev pub cut : Memory
  cut = lent (take span meter.cells) (take span meter.revisions)

  cut_long : (span ≡ length cut.cells) × (span ≡ length cut.revisions)
  unfolding room_in
  cut_long = (sym (length-take-le span meter.cells (omega arith)), sym (length-take-le span meter.revisions (omega arith)))

  cut_room : room_in cut ≡ span
  unfolding room_in
  cut_room = omega (arith, cut_long)

  -- the readings of all of them are those of the span
  pub cut_readings : readings cut (room_in cut) ≡ readings meter span
  unfolding readings between
  cut_readings =
      rw cut_room
      (concat_map_ext (turn cut) (turn meter) (span - 0) 0
      (λ m less. ap₂ (λ kw n. reading_at (cell_reading kw n) m) (get_or-take span meter.cells m missing (omega arith))
      (get_or-take span meter.revisions m 0 (omega arith))))

  pub cut_most : span ≤ most_minute → room_in cut ≤ most_minute
  cut_most most = rw cut_room most

-- ---- a loop over the cells and bytes of minutes: those from a minute on are left

drop_here : {A : Type 0} (xs : List A) (m : ℕ) (d : A) {x : A} {ys : List A} → drop m xs ≡ x ∷ ys → (m < length xs) × (get_or xs m d ≡ x) × (drop (suc m) xs ≡ ys)
drop_here [] zero d e = cc
drop_here [] (suc m) d e = cc
drop_here (x ∷ xs) zero d e = (omega arith, cc, cc)
drop_here (x ∷ xs) (suc m) d e = let more = drop_here xs m d e in (omega arith, more.1, more.2)

pub record Rest (meter : Memory) (left : List ℤ) (others : List ℕ) (m : ℕ) : Type 0 where
  pub cells : left ≡ drop m meter.cells
  pub bytes : others ≡ drop m meter.revisions
  pub inside : m ≤ room_in meter

module _ (meter : Memory) {left : List ℤ} {others : List ℕ} {m : ℕ} (r : Rest meter left others m) where
  module _ {cell : ℤ} {byte : ℕ} {left' : List ℤ} {others' : List ℕ} (e : left ≡ cell ∷ left') (f : others ≡ byte ∷ others') where
    first : (m < length meter.cells) × (kw_at meter m ≡ cell) × (drop (suc m) meter.cells ≡ left')
    first = drop_here meter.cells m missing (sym r.cells ∙ e)

    second : (m < length meter.revisions) × (revision_at meter m ≡ byte) × (drop (suc m) meter.revisions ≡ others')
    second = drop_here meter.revisions m 0 (sym r.bytes ∙ f)

    pub minute_inside : m < room_in meter
    unfolding room_in
    minute_inside = omega (arith, first.0, second.0)

    pub rest_more : Rest meter left' others' (m + 1)
    rest_more = record { cells = rw add-one (sym first.2); bytes = rw add-one (sym second.2); inside = omega (arith, minute_inside) }

    pub turn_here : turn meter m ≡ reading_at (cell_reading cell byte) m
    turn_here = rw (first.1, second.1)

  -- with none left those before are all
  pub rest_none : (length left ≡ 0) ⊎ (length others ≡ 0) → room_in meter ≡ m
  unfolding room_in
  rest_none h =
      let cells = ap length r.cells in
      let bytes = ap length r.bytes in
      omega (arith, h, r.inside, length-drop m meter.cells, length-drop m meter.revisions)

  -- and its bytes are counted
  pub longer_here : {cell : ℤ} {byte n k : ℕ} {left' : List ℤ} {others' : List ℕ} → left ≡ cell ∷ left' → others ≡ byte ∷ others'
      → n ≡ length (file_bytes (readings meter m)) → k ≡ length (file_bytes (reading_at (cell_reading cell byte) m))
      → n + k ≡ length (file_bytes (readings meter (m + 1)))
  longer_here e f g h = rw (g, h, ← turn_here e f) (sym (readings_longer meter m))
