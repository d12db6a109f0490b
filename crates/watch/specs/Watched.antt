-- The claim about live totals: the steps, one after the other from zeros, give what the rules give for the minutes so far. Over what the calls promise: the
-- month that is worked out from the book (`month_book`), the step (`step_of`), and the step over a host's numbers (`step_numbers`).
use Rattle.std.specs.Prelude.{◌≡◌, true, cond, List, [], ◌∷◌, ◌++◌, map, ℕ, ◌≤◌, eqb, ℤ, length, take, Result}
use Rattle.std.proofs.Math.Option.{some}
use Rattle.std.proofs.Math.ListN.{get_elem?}
use Rattle.commands.specs.declared.entries.Command.{Command}
use Rattle.commands.specs.declared.entries.Reading.{Reading}
use Rattle.rules.specs.Ledger.{Ledger, contract_of, ledger_of, ramp_start}
use Rattle.rules.specs.Refusal.{taken}
use Rattle.rules.specs.Segment.{base_minutes, complete}
use Rattle.rules.specs.Statement.{reads, statement_of}
use Rattle.book.specs.Book.{empty_book, put_all}
use Rattle.watch_step.specs.Month.{month_numbers}
use Rattle.watch_step.specs.Step.{no_totals, step_number, step_of, totals_after}
use Rattle.watch_step.specs.declared.totals.Totals.{Totals}
use Rattle.watch_step.specs.declared.step.NotStepped.{NotStepped}
use Rattle.watch_month.specs.MonthOf.{MonthLaid, month_book}
use Rattle.host_watch.specs.StepNumbers.{SteppedNumbers, numbers_of, step_numbers}
use Rattle.watch.specs.Running.{ActiveMinute, active_minutes, running_of}
use Rattle.rules.specs.Answer.{Taken as takenᵃ}

-- what is handed in for an active minute: of its instruction's first the four base readings, and none of another
unfoldable pub base_for : Ledger → ActiveMinute → List ℤ
base_for g a = cond (eqb a.minute (ramp_start (contract_of g) a.instruction)) (map (reads g) (base_minutes a.instruction)) []

-- its reading
abbrev pub reading_for : Ledger → ActiveMinute → Reading
reading_for g a = record { minute = record { 0 = a.minute }; kw = record { 0 = reads g a.minute } }

-- the step of an active minute, with a ledger's readings
unfoldable pub step_at : List ℕ → Ledger → Totals → ActiveMinute → Result Totals NotStepped
step_at month g s a = step_of month s a.number (reading_for g a) (base_for g a)

-- the totals after the steps of several active minutes, one after the other
unfoldable pub step_all : List ℕ → Ledger → Totals → List ActiveMinute → Totals
step_all month g s [] = s
step_all month g s (a ∷ rest) = step_all month g (totals_after s (step_at month g s a)) rest

-- the same over a host's numbers, of which the first seven are the totals
unfoldable pub step_numbers_at : List ℕ → Ledger → List ℤ → ActiveMinute → SteppedNumbers
step_numbers_at month g xs a = step_numbers month xs a.number (reading_for g a) (base_for g a)

-- what they hold after the steps of several active minutes
unfoldable pub step_numbers_all : List ℕ → Ledger → List ℤ → List ActiveMinute → List ℤ
step_numbers_all month g xs [] = xs
step_numbers_all month g xs (a ∷ rest) = step_numbers_all month g (step_numbers_at month g xs a).memory rest

-- of a ledger and a month's numbers
pub record Watched (g : Ledger) (month : List ℕ) : Type 0 where
  -- the steps of the first n active minutes, in order from zeros, give what the rules give for them
  pub totals : (n : ℕ) → step_all month g no_totals (take n (active_minutes g)) ≡ running_of g n
  -- and the next one is taken
  pub taken : (n : ℕ) (a : ActiveMinute) → get_elem? (active_minutes g) n ≡ some a → step_number (step_at month g (running_of g n) a) ≡ 0
  -- so it is over a host's numbers: seven zeros at first, with anything behind them, which stays
  pub numbers : (n : ℕ) (more : List ℤ) → step_numbers_all month g (numbers_of no_totals ++ more) (take n (active_minutes g)) ≡ numbers_of (running_of g n) ++ more
  -- after the last one capped kWh are the statement's, and so are the pence
  pub capped : (running_of g (length (active_minutes g))).capped ≡ (statement_of g).capped
  pub pence : (running_of g (length (active_minutes g))).pence ≡ (statement_of g).utilisation

-- commands of any number and kind, whatever the room of lent memory: where they gave every needed minute a reading, the month of the book that they leave is
-- worked out into any memory with room for it, and the claim holds of both
unfoldable pub Watched·theorem : Type 0
Watched·theorem =
    (size : ℕ) (cs : List Command)
    → complete (ledger_of (taken size cs)) ≡ true
    → (memory : List ℕ)
    → month_numbers ≤ length memory
    → let laid : MonthLaid = month_book (put_all empty_book (taken size cs)) memory in
    (laid.answer ≡ takenᵃ) × Watched (ledger_of (taken size cs)) laid.month
