-- Proved of the rules: "From instruction to segment" by example: which minutes an instruction needs, and which lines its active minutes give.
use Rattle.std.specs.Prelude.{◌≡◌, [], ◌∷◌, map, pos, set}
use Rattle.rules.specs.Segment.{needed}
use Rattle.rules.specs.Statement.{lines}
use Rattle.rules.specs.Examples.{agree, guide, rampup, rampdown, instructed, ledger, two_days}
use Rattle.rules.specs.declared.statement.Line.{Line}

-- minutes and lines
pub record Minutes : Type 0 where
  -- base and active minutes of every instruction are needed: the second one's base minutes 21 to 24 hold the first one's active ones, 22 and 23
  pub needed_by_each :
      needed (ledger (agree (set (set guide rampup 12000) rampdown 12000) ∷ instructed 3 23 ∷ instructed 24 44 ∷ []))
      ≡ 0 ∷ 1 ∷ 2 ∷ 3 ∷ 22 ∷ 23 ∷ 21 ∷ 22 ∷ 23 ∷ 24 ∷ 43 ∷ 44 ∷ []
  -- a ramp up of as many minutes as the response starts at issue: 20 minutes of 24,000 quarters, and a ramp down of 6
  pub ramp_from_issue :
      map (λ (l : Line). l.expected.0) (lines (ledger (agree (set guide rampup 600) ∷ instructed 3 23 ∷ []))) ≡ pos 2000 ∷ pos 600 ∷ []
  -- instructions count from 1
  pub instructions_from1 :
      map (λ (l : Line). l.instruction) (lines (ledger (agree guide ∷ instructed 65 85 ∷ instructed 91 111 ∷ []))) ≡ 1 ∷ 1 ∷ 1 ∷ 2 ∷ 2 ∷ []
  -- periods count on over midnight
  pub periods_over_midnight : map (λ (l : Line). l.period) (lines (two_days guide (instructed 1443 1463 ∷ []))) ≡ 49 ∷ 49 ∷ []
