-- Inner, and for hosts: what watching needs of a month, worked out from a book, as the table of numbers that a step reads: by one equation over the rules,
-- refusals included.
use Rattle.std.specs.Prelude.{Bool, cond, not, List, [], ◌∷◌, ◌++◌, map, ℕ, ◌-◌, ◌*◌, ltb, length, drop, replicate}
use Rattle.std.proofs.Math.Option.{Option, none, some}
use Rattle.energy.specs.Lists.{between}
use Rattle.commands.specs.Input.{kw_of, ◌when◌, first_met}
use Rattle.commands.specs.declared.contract.Contract.{Contract}
use Rattle.commands.specs.declared.entries.Instruction.{Instruction}
use Rattle.rules.specs.Ledger.{Ledger, contract_of, expiry, ramp_start, end_of}
use Rattle.rules.specs.Refusal.{answer_of}
use Rattle.rules.specs.Segment.{in_live}
use Rattle.book_memory.specs.Meter.{lent}
use Rattle.book.specs.Book.{ledger_in}
use Rattle.book.specs.Sound.{sound}
use Rattle.book.specs.declared.Book.{Book}
use Rattle.watch_step.specs.Month.{month_numbers, month_periods}
use Rattle.rules.specs.Answer.{Answer}

-- a time of each instruction, in a column of 64 places
unfoldable pub column : (Instruction → ℕ) → List Instruction → List ℕ
column f is = map f is ++ replicate (64 - length is) 0

-- the month of a ledger: five figures, issue, e − U, e, cease and f of each instruction, and for each period whether it is in a live window. Readings, defaults
-- and whether the book is closed have no part in it
unfoldable pub month_of : Ledger → List ℕ
month_of g =
    let k : Contract = contract_of g in
    (kw_of k ∷ k.kind ∷ k.utilisation ∷ k.optional ∷ length g.instructions ∷ [])
    ++ column (λ i. i.issue.0) g.instructions
    ++ column (ramp_start k) g.instructions
    ++ column (expiry k) g.instructions
    ++ column (λ i. i.cease.0) g.instructions
    ++ column (end_of k) g.instructions
    ++ map (λ p. cond (in_live g (30 * p)) 1 0) (between 0 month_periods)

-- ---- the call

-- what it meets: a book that no list of commands leaves, and memory for fewer numbers than a month has
unfoldable pub month_refusal : Bool → ℕ → Option ℕ
month_refusal unsound room = first_met ((11 when unsound) ∷ (26 when ltb room month_numbers) ∷ [])

-- the answer, and the memory for the month after it
pub record MonthLaid : Type 0 where
  pub answer : Answer
  pub month : List ℕ

-- what a call answers and leaves, as one
abbrev pub month_laid : Answer → List ℕ → MonthLaid
month_laid answer month = record { answer = answer; month = month }

-- a refusal alters no number; else the month's stand first, and those after them are as they were
abbrev pub laid_by : Option ℕ → Ledger → List ℕ → List ℕ
laid_by (some n) g memory = memory
laid_by none g memory = month_of g ++ drop month_numbers memory

-- the ledger of a book alone, without readings
abbrev pub unread : Book → Ledger
unread b = ledger_in b (lent [] [])

-- the month of a book: what `month_of` promises
unfoldable pub month_book : Book → List ℕ → MonthLaid
month_book b memory =
    let r : Option ℕ = month_refusal (not (sound b)) (length memory) in
    month_laid (answer_of r) (laid_by r (unread b) memory)
