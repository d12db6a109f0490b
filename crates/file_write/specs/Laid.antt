-- Inner, and proved equal to the rules: commands laid out one after another in lent bytes: what the parts of the writer promise each other. Nothing
-- here is a rule of its own.
use Rattle.std.specs.Prelude.{cond, not, List, [], ◌∷◌, ◌++◌, map, ℕ, ◌+◌, ◌≤◌, length, take}
use Rattle.commands.specs.Input.{most_minute}
use Rattle.energy.specs.Lists.{concat_map, between, Laid as LaidBytes}
use Rattle.calendar.specs.Calendar.{is_no_date}
use Rattle.rules.specs.File.{write, reading_at}
use Rattle.commands.specs.declared.entries.Command.{Command}
use Rattle.commands.specs.declared.entries.Command.TheVariants.{Contract as contractᶜ, Date as dateᶜ, Window as windowᶜ, Instruction as instructionᶜ}
use Rattle.commands.specs.declared.entries.Command.TheVariants.{Default as defaultᶜ, Close as closeᶜ}
use Rattle.book_memory.specs.Meter.{Memory, metered_at}
use Rattle.book.specs.Book.{book_span}
use Rattle.book.specs.declared.Book.{Book}

-- the bytes of commands, one after the other
abbrev pub file_bytes : List Command → List ℕ
file_bytes cs = concat_map write cs

-- memory has room for them from a position on
pub record Room (cs : List Command) (memory : List ℕ) (at : ℕ) : Type 0 where
  pub fits : at + length (file_bytes cs) ≤ length memory

-- put there, they leave the memory `after`, and end before the position `next`
abbrev pub Laid : List Command → List ℕ → ℕ → List ℕ → ℕ → Type 0
Laid cs memory at after next = LaidBytes (file_bytes cs) memory at after next

-- ---- a book's entries as commands

-- the readings of the first minutes, by rising minute
unfoldable pub readings : Memory → ℕ → List Command
readings meter span = concat_map (λ m. reading_at (metered_at meter m) m) (between 0 span)

-- what a book that commands leave is written as, table by table
unfoldable pub parts : Book → Memory → List Command
parts b meter =
    cond b.agreed (contractᶜ b.contract ∷ []) [] ++ cond (not (is_no_date b.date)) (dateᶜ b.date ∷ []) []
    ++ map windowᶜ (take b.nwindows b.windows) ++ map instructionᶜ (take b.ninstructions b.instructions) ++ map defaultᶜ (take b.ndefaults b.defaults)
    ++ readings meter (book_span b)
    ++ cond b.closed (closeᶜ ∷ []) []

-- ---- what the writer's parts ask

-- a book's counts are within its tables, and its span within a month and within lent memory with so much room
pub record Kept (b : Book) (size : ℕ) : Type 0 where
  pub windows : b.nwindows ≤ 128
  pub instructions : b.ninstructions ≤ 64
  pub defaults : b.ndefaults ≤ 128
  pub month : book_span b ≤ most_minute
  pub memory : book_span b ≤ size
