-- Laws of a whole book's file: what is known of a book that commands leave, and that the rules write it as its parts.
use mathlib.Core.Path.{◌≡◌, refl, sym, ap, ◌∙◌}
use mathlib.Core.Bool.{Bool, true, false, cond, not}
use mathlib.Core.List.{List, [], ◌∷◌, map}
use mathlib.Core.Option.{none}
use Prim.Native.Nat.{ℕ, ◌-◌, ◌≤◌, ◌<◌}
use native.Mathlib.Nat.{zero-add}
use native.Mathlib.Omega.{arith}
use borrow.Author.Tests.{lt-ltb, le-ltb}
use lib.ListN.{length}
use Rattle.energy.specs.Lists.{concat_map, between, put_at}
use Rattle.calendar.specs.Calendar.{is_no_date}
use Rattle.calendar.specs.declared.Date.{Date}
use Rattle.commands.specs.Input.{first_met, most_minute}
use Rattle.rules.specs.File.{reading_at, written, file_of}
use Rattle.commands.specs.declared.contract.Contract.{Contract}
use Rattle.commands.specs.declared.entries.Command.TheVariants.{Contract as contractᶜ, Date as dateᶜ}
use Rattle.book_memory.specs.Meter.{Memory, room_in, metered_at}
use Rattle.book.specs.Book.{book_span, book_cells, ledger_in}
use Rattle.book.specs.Sound.{sound}
use Rattle.book.specs.declared.Book.{Book}
use Rattle.book.proofs.SoundTests.{sound-parts}
use Rattle.book.proofs.Month.{span_cells, span_sound, cells_sound, cells_most}
use Rattle.file_write.proofs.WrittenParts.{concat_map_ext}
use Rattle.file_write.specs.Laid.{file_bytes, Laid, readings, parts, Kept}
use Rattle.file_write.specs.Write.{write_conditions, write_book}
use Rattle.std.specs.Prelude.{Result, Ok, Err}
use Rattle.commands.specs.Refusals.{refusal_of}
use Rattle.commands.specs.declared.refusal.Refusal.{Refusal}
use Rattle.commands.specs.declared.refusal.Refusal.TheVariants.{NotReached, ShortMemory, NoRoom}

-- ---- a book that commands leave

-- its span is at most a month of 31 days
month : (b : Book) → sound b ≡ true → book_span b ≤ most_minute
month b e = omega (arith, span_cells b, cells_most b e)

pub kept : (b : Book) (meter : Memory) → sound b ≡ true → book_cells b ≤ room_in meter → Kept b (room_in meter)
kept b meter e h =
    let t = (sound-parts b e).tables in
    record { windows = t.windows; instructions = t.instructions; defaults = t.defaults; month = month b e; memory = omega (arith, span_cells b) }

-- ---- its parts

-- a contract that may be missing
contract_part : (agreed : Bool) (k : Contract) → map contractᶜ (cond agreed (k ∷ []) []) ≡ cond agreed (contractᶜ k ∷ []) []
contract_part true k = refl
contract_part false k = refl

-- and a date
date_part : (none : Bool) (d : Date) → map dateᶜ (cond none [] (d ∷ [])) ≡ cond (not none) (dateᶜ d ∷ []) []
date_part true d = refl
date_part false d = refl

-- the readings, of which the ledger has none past the span
readings_part : (b : Book) (meter : Memory) → concat_map (λ m. reading_at ((ledger_in b meter).reading m) m) (between 0 (book_span b)) ≡ readings meter (book_span b)
unfolding between ledger_in readings
readings_part b meter =
    concat_map_ext _ _ (book_span b - 0) 0
    (λ m h. ap (λ (inside : Bool). reading_at (cond inside (metered_at meter m) none) m) (lt-ltb m (book_span b) (omega arith)))

file_is : (b : Book) (meter : Memory) → sound b ≡ true → file_of (ledger_in b meter) ≡ file_bytes (parts b meter)
unfolding file_of written parts
file_is b meter e =
    ap file_bytes (unfold ledger_in in rw (
      contract_part b.agreed b.contract,
      date_part (is_no_date b.date) b.date,
      span_sound b meter e,
      readings_part b meter,
    ))

-- ---- the answer, and the bytes after it

-- what writing gives
abbrev Gives : Book → Memory → List ℕ → Result ℕ Refusal → List ℕ → Type 0
Gives b meter memory r after = (r ≡ (write_book b meter memory).answer) × (after ≡ (write_book b meter memory).memory)

pub refused_11 : (b : Book) (meter : Memory) (memory : List ℕ) → sound b ≡ false → Gives b meter memory (Err NotReached) memory
unfolding write_book write_conditions first_met refusal_of
refused_11 b meter memory e = rw e (refl, refl)

module _ (b : Book) (meter : Memory) (memory : List ℕ) (e : sound b ≡ true) where
  pub refused_15 : room_in meter < book_cells b → Gives b meter memory (Err ShortMemory) memory
  unfolding write_book write_conditions first_met refusal_of
  refused_15 h = rw (e, cells_sound b meter e, lt-ltb (room_in meter) (book_cells b) h) (refl, refl)

  module _ (h : book_cells b ≤ room_in meter) where
    pub refused_26 : length memory < length (file_bytes (parts b meter)) → Gives b meter memory (Err NoRoom) memory
    unfolding write_book write_conditions first_met refusal_of
    refused_26 short =
        rw (
          e,
          cells_sound b meter e,
          le-ltb (room_in meter) (book_cells b) h,
          file_is b meter e,
          lt-ltb (length memory) (length (file_bytes (parts b meter))) short,
        ) (refl, refl)

    pub written-whole : length (file_bytes (parts b meter)) ≤ length memory → {after : List ℕ} {next : ℕ} → Laid (parts b meter) memory 0 after next
        → Gives b meter memory (Ok next) after
    unfolding write_book write_conditions first_met put_at
    written-whole long {after} {next} l =
        let file : file_bytes (parts b meter) ≡ file_of (ledger_in b meter) = sym (file_is b meter e) in
        rw (
          e,
          cells_sound b meter e,
          le-ltb (room_in meter) (book_cells b) h,
          file_is b meter e,
          le-ltb (length memory) (length (file_bytes (parts b meter))) long,
        ) (
          ap Ok (l.ends ∙ zero-add (length (file_bytes (parts b meter))) ∙ ap length file),
          l.holds ∙ rw (zero-add, file),
        )
