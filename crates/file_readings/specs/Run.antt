-- Inner, and proved equal to the rules: readings taken one after the other from a position of a unit file into lent memory, without the book.
use Rattle.std.specs.Prelude.{◌≡◌, Bool, cond, ◌&&◌, List, ℕ, zero, suc, ◌-◌, ◌≤◌, ◌<◌, ℤ, eqb, leb, ltb, length, get_or}
use Rattle.std.proofs.Math.Option.{Option, none, some}
use Rattle.commands.specs.Input.{is_reading}
use Rattle.rules.specs.File.{read_at}
use Rattle.book_memory.specs.Meter.{put_meter, takes_reading, Memory}
use Rattle.rules.specs.Answer.{Read, Got, End}
use Rattle.std.specs.Prelude.{Err}

-- a kW, where it is in a reading's range
abbrev pub ranged : ℤ → Option ℤ
ranged z = cond (is_reading z) (some z) none

-- where reading stands in a file, and lent memory then
pub record Stand : Type 0 where
  pub at : ℕ
  pub meter : Memory

-- a reading that is taken in the span goes into lent memory; whatever else was read is left for the book
abbrev pub stand_by : ℕ → ℕ → Memory → Read → Stand
stand_by span at meter (Got c next) = cond (takes_reading span meter c) (record { at = next; meter = put_meter meter c }) (record { at = at; meter = meter })
stand_by span at meter (Err n) = record { at = at; meter = meter }
stand_by span at meter End = record { at = at; meter = meter }

-- after the reading at a position
unfoldable pub stand_at : ℕ → List ℕ → ℕ → Memory → Stand
stand_at span s at meter = stand_by span at meter (read_at s at)

-- after a turn at a position reading stands at x, and lent memory is as it is then
abbrev pub Turned : ℕ → List ℕ → ℕ → Memory → ℕ → Memory → Type 0
Turned span s at meter x after = (x ≡ (stand_at span s at meter).at) × (after ≡ (stand_at span s at meter).meter)

-- nothing is taken at a position
abbrev pub Still : ℕ → List ℕ → ℕ → Memory → Type 0
Still span s at meter = stand_at span s at meter ≡ record { at = at; meter = meter }

-- ---- many of them

-- a command with this byte stands at a position with all of its bytes
unfoldable pub stands_whole : List ℕ → ℕ → ℕ → ℕ → Bool
stands_whole s at byte n = ltb at (length s) && eqb (get_or s at 0) byte && leb n (length s - at)

-- so many positions on
unfoldable pub stands : ℕ → ℕ → List ℕ → Stand → Stand
stands zero span s x = x
stands (suc n) span s x = stand_at span s (stands n span s x).at (stands n span s x).meter

-- from a position and lent memory to others, reading by reading
pub record Run (span : ℕ) (s : List ℕ) (at : ℕ) (meter : Memory) (next : ℕ) (after : Memory) : Type 0 where
  pub turns : ℕ
  pub reached : stands turns span s (record { at = at; meter = meter }) ≡ record { at = next; meter = after }
  pub forward : at ≤ next
  pub inside : at < next → next ≤ length s
