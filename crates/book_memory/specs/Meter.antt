-- Lent memory: a cell and a byte for each minute, what a taken command puts into them, and the readings that they take.
use Rattle.std.specs.Prelude.{Bool, false, not, ◌&&◌, cond, List, ◌++◌, ℕ, ◌*◌, min, ℤ, negsuc, eqb, ltb, length, get_or, drop, set, replicate}
use Rattle.std.proofs.Math.Option.{Option, none, some}
use Rattle.commands.specs.Input.{is_reading, input_refusal}
use Rattle.energy.specs.Lists.{put_at}
use Rattle.calendar.specs.Calendar.{days_of, gained_in}
use Rattle.commands.specs.Command.{on_contract, on_date, on_metered, always}
use Rattle.rules.specs.Ledger.{Metered, span_of}
use Rattle.rules.specs.Refusal.{not_above}
use Rattle.commands.specs.declared.entries.Command.{Command}

-- the mark of a minute without a reading
abbrev pub missing : ℤ
missing = negsuc 2147483647

-- what a cell and its byte hold: nothing where the cell is outside the range, whatever the byte
abbrev pub cell_reading : ℤ → ℕ → Option Metered
cell_reading z n = cond (is_reading z) (some (record { kw = z; revision = n })) none

-- ---- lent memory

-- what is lent for the readings of a book: meter memory, a cell for each minute, and revision memory, a byte for each
pub record Memory : Type 0 where
  pub cells : List ℤ
  pub revisions : List ℕ

-- lent cells and bytes as such
abbrev pub lent : List ℤ → List ℕ → Memory
lent cells revisions = record { cells = cells; revisions = revisions }

-- the minutes that it has room for: the lesser of both lengths
unfoldable pub room_in : Memory → ℕ
room_in m = min (length m.cells) (length m.revisions)

-- the kW in a minute's cell, which past the end counts as marked
abbrev pub kw_at : Memory → ℕ → ℤ
kw_at m i = get_or m.cells i missing

-- the revision in a minute's byte, 0 past the end
abbrev pub revision_at : Memory → ℕ → ℕ
revision_at m i = get_or m.revisions i 0

-- what a minute holds
abbrev pub metered_at : Memory → ℕ → Option Metered
metered_at m i = cell_reading (kw_at m i) (revision_at m i)

-- ---- what commands do to it

-- the first cells marked and the first bytes cleared
abbrev pub marked_to : ℕ → Memory → Memory
marked_to span m = lent (replicate span missing ++ drop span m.cells) (replicate span 0 ++ drop span m.revisions)

-- n cells from a minute on marked and their bytes cleared
abbrev pub marked_from : ℕ → ℕ → Memory → Memory
marked_from at n m = lent (put_at (replicate n missing) m.cells at) (put_at (replicate n 0) m.revisions at)

-- a minute's cell and byte written
abbrev pub written_at : ℕ → ℤ → ℕ → Memory → Memory
written_at i kw n m = lent (set m.cells i kw) (set m.revisions i n)

-- memory with a command's reading and its revision, with a contract's span marked, or with the hour that a date's month gains after its days
abbrev pub put_meter : Memory → Command → Memory
put_meter m c =
    on_contract (λ k. marked_to (span_of k) m)
    (on_date (λ d. marked_from (1440 * days_of d.year d.month) (gained_in d.month) m)
    (on_metered (λ n r. written_at r.minute.0 r.kw.0 n m)
    (always m)))
    c

-- a reading of either kind with its operands in range, for a minute of the span that there is room for and that holds no reading of its revision or above
unfoldable pub takes_reading : ℕ → Memory → Command → Bool
takes_reading span m c =
    on_metered
    (λ n r. eqb (input_refusal c) 0
    && ltb r.minute.0 span
    && ltb r.minute.0 (room_in m)
    && not (not_above n (metered_at m r.minute.0)))
    (always false)
    c
