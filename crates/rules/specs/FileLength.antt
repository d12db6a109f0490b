-- Proved of the rules: how long a file can be whose commands are all taken: the contract, the date, full tables, all the readings that a minute takes, in each
-- minute that lent memory has room for, and the close.
use Rattle.std.specs.Prelude.{List, ℕ, ◌+◌, ◌*◌, ◌^◌, ◌≤◌, ◌<◌, length}
use Rattle.energy.specs.Lists.{concat_map}
use Rattle.commands.specs.Input.{most_minute}
use Rattle.rules.specs.Refusal.{taken}
use Rattle.rules.specs.Ledger.{Ledger}
use Rattle.rules.specs.Reached.{Reached}
use Rattle.rules.specs.File.{write, file_of}
use Rattle.commands.specs.declared.entries.Command.{Command}

-- the most bytes of commands that are all taken: 32 + 5 + 6 × 128 + 5 × 64 + 5 × 128 + 1, and for each minute of lent memory 7 + 255 × 8, since a minute
-- takes one plain reading and then each revision once; 32,426,246 for the 15,840 minutes of 11 days. Nobody but the theorem below and its bound opens
-- this number
unfoldable pub most_taken : ℕ → ℕ
most_taken size = 1766 + 2047 * size

-- the most bytes that a book is written as: the same, and 8 for each minute, which is written with one reading; 359,366 for a month of 31 days that gains an hour
unfoldable pub most_written : ℕ → ℕ
most_written size = 1766 + 8 * size

-- what is asked of them: commands that are all taken have no more bytes, those of a month can be counted in 32 bits, and so with what is written
pub record FileLength : Type 0 where
  pub most : (size : ℕ) (cs : List Command) → length (concat_map write (taken size cs)) ≤ most_taken size
  pub counted : (size : ℕ) → size ≤ most_minute → most_taken size < 2 ^ 32
  pub written : (size : ℕ) (g : Ledger) → Reached size g → length (file_of g) ≤ most_written size

-- the length of what is taken is bounded
abbrev pub FileLength·theorem : Type 0
FileLength·theorem = FileLength
