-- Demand 3 is not empty: what it says of Appendix 2's bytes.
use Rattle.std.specs.Prelude.{◌≡◌, List, [], ◌∷◌, ◌++◌, ◌≤◌, pos, length, replicate, Ok}
use Rattle.std.proofs.Math.Option.{some}
use Rattle.std.proofs.Math.ListN.{get_elem?}
use Rattle.book_memory.specs.Meter.{Memory, room_in}
use Rattle.rules.specs.Examples.{appendix2_file}
use Rattle.rules.specs.declared.statement.Line.{Line}
use Rattle.rules.specs.declared.statement.Statement.{Statement}
use Rattle.settle.specs.Settle.{Settled}
use Rattle.demands.specs.Steps.{Step, read, settle, settled, start, outcomes}

-- the file is read whole, and then settled into the lent line records
abbrev pub steps : List Line → List Step
steps records = replicate (length appendix2_file) read ++ settle records ∷ []

-- the settlement pays 416,400 pence
pub record Paid (memory : Memory) (records : List Line) : Type 0 where
  pub result : Settled
  pub statement : Statement
  pub outcome : get_elem? (outcomes appendix2_file (start memory) (steps records)) (length appendix2_file) ≡ some (settled result)
  pub answer : result.answer ≡ Ok statement
  pub total : statement.total.0 ≡ pos 416400

-- with any memory of a day, and records for six lines
unfoldable pub Appendix2·theorem : Type 0
Appendix2·theorem = (memory : Memory) (records : List Line) → room_in memory ≡ 1440 → 6 ≤ length records → Paid memory records
