-- Inner, and for hosts: the statement's lines for a host that cannot hold records of enums: each line as the eight numbers of its row, in memory the
-- caller lends, and what settling answers: both by one equation over the rules, refusals included.
use Rattle.std.specs.Prelude.{List, [], ◌∷◌, ◌++◌, ℕ, ◌*◌, ◌/◌, ℤ, pos, length, drop, Result, Ok, Err}
use Rattle.std.proofs.Math.Option.{Option, none, some}
use Rattle.book_memory.specs.Meter.{Memory}
use Rattle.energy.specs.Lists.{concat_map}
use Rattle.commands.specs.Refusals.{refusal_of}
use Rattle.commands.specs.declared.refusal.Refusal.{Refusal}
use Rattle.rules.specs.Ledger.{Ledger}
use Rattle.rules.specs.Statement.{lines, statement_of}
use Rattle.rules.specs.declared.statement.Line.{Line}
use Rattle.rules.specs.declared.statement.Stage.{Stage}
use Rattle.rules.specs.declared.statement.Stage.TheVariants.{Up, Steady, Down}
use Rattle.rules.specs.declared.statement.Rate.{Rate}
use Rattle.rules.specs.declared.statement.Rate.TheVariants.{Utilisation, Optional}
use Rattle.rules.specs.declared.statement.Statement.{Statement}
use Rattle.book.specs.Book.{ledger_in}
use Rattle.book.specs.declared.Book.{Book}
use Rattle.settle.specs.Settle.{refusal_for}

-- how many numbers a line is
abbrev pub numbers_per_line : ℕ
numbers_per_line = 8

-- a stage as a number
abbrev pub stage_number : Stage → ℤ
stage_number Up = pos 0
stage_number Steady = pos 1
stage_number Down = pos 2

-- a rate as a number
abbrev pub rate_number : Rate → ℤ
rate_number Utilisation = pos 0
rate_number Optional = pos 1

-- the eight numbers of a line, in the order of an L row's fields
unfoldable pub numbers_of : Line → List ℤ
numbers_of l =
    pos l.instruction
    ∷ pos l.period
    ∷ stage_number l.stage
    ∷ rate_number l.rate
    ∷ l.expected.0
    ∷ l.delivered.0
    ∷ l.capped.0
    ∷ l.pence.0
    ∷ []

-- a statement, or a refusal; and the numbers lent after it
pub record SettledAsNumbers : Type 0 where
  pub answer : Result Statement Refusal
  pub memory : List ℤ

-- settling refused under a number alters no number; one that is not puts the numbers of its lines, one line after the other, into the first ones
abbrev pub numbered_by : Option ℕ → Ledger → List ℤ → SettledAsNumbers
numbered_by none g memory =
    record { answer = Ok (statement_of g); memory = concat_map numbers_of (lines g) ++ drop (numbers_per_line * length (lines g)) memory }
numbered_by (some n) g memory = record { answer = Err (refusal_of n); memory = memory }

-- settling a book into numbers, eight to a line: what `settle_numbers` promises
unfoldable pub number_book : Book → Memory → List ℤ → SettledAsNumbers
number_book b meter memory = numbered_by (refusal_for b meter (length memory / numbers_per_line)) (ledger_in b meter) memory
