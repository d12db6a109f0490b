-- Live totals by the rules alone: what the first n active minutes of a month, in order, give.
use Rattle.std.specs.Prelude.{◌&&◌, List, [], ◌∷◌, ◌++◌, map, ℕ, suc, leb, take}
use Rattle.energy.specs.Lists.{all, filter, first, last, sum}
use Rattle.commands.specs.declared.contract.Contract.{Contract}
use Rattle.commands.specs.declared.entries.Instruction.{Instruction}
use Rattle.rules.specs.Ledger.{Ledger, contract_of}
use Rattle.rules.specs.Segment.{Segment, active, alike, segments}
use Rattle.rules.specs.Statement.{base_load, delivered_of, expected_of, line_of}
use Rattle.rules.specs.declared.statement.Line.{Line}
use Rattle.watch_step.specs.Step.{no_totals}
use Rattle.watch_step.specs.declared.totals.Totals.{Totals}

-- ---- active minutes

-- an active minute, with its instruction and that one's number, from 1
pub record ActiveMinute : Type 0 where
  pub number : ℕ
  pub instruction : Instruction
  pub minute : ℕ

-- the active minutes of instructions whose numbers start at n, in order
unfoldable pub active_from : Contract → ℕ → List Instruction → List ActiveMinute
active_from k n [] = []
active_from k n (i ∷ is) = map (λ m. record { number = n; instruction = i; minute = m }) (active k i) ++ active_from k (suc n) is

-- the active minutes of a month
unfoldable pub active_minutes : Ledger → List ActiveMinute
active_minutes g = active_from (contract_of g) 1 g.instructions

-- ---- the totals

-- the minutes of an active minute's segment as far as it: those of its instruction that are like it and not after it
unfoldable pub minutes_to : Contract → ActiveMinute → List ℕ
minutes_to k a = filter (λ m. alike k a.instruction m a.minute && leb m a.minute) (active k a.instruction)

-- its segment so far
unfoldable pub so_far : Contract → ActiveMinute → Segment
so_far k a =
    record { number = a.number; instruction = a.instruction; head = first a.minute (minutes_to k a); minutes = minutes_to k a }

-- the lines complete after minute m: those of the segments that have no later minute
unfoldable pub lines_to : Ledger → ℕ → List Line
lines_to g m = map (line_of g) (filter (λ (s : Segment). all (λ x. leb x m) s.minutes) (segments g))

-- the totals after an active minute: the base load of its instruction, both sums of its segment so far, and capped kWh and pence of the lines complete
unfoldable pub running_at : Ledger → ActiveMinute → Totals
running_at g a =
    record {
      instruction = a.number;
      minute = record { 0 = a.minute };
      base = base_load g a.instruction;
      expected = expected_of g (so_far (contract_of g) a);
      delivered = delivered_of g (so_far (contract_of g) a);
      capped = record { 0 = sum (λ (l : Line). l.capped.0) (lines_to g a.minute) };
      pence = record { 0 = sum (λ (l : Line). l.pence.0) (lines_to g a.minute) };
    }

-- the totals after the first n active minutes: zeros before the first
unfoldable pub running_of : Ledger → ℕ → Totals
running_of g n = last no_totals (map (running_at g) (take n (active_minutes g)))
