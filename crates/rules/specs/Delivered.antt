-- Proved of the rules: "Energy and money" by example: what a segment delivers over its base load.
use Rattle.std.specs.Prelude.{◌≡◌, List, [], ◌∷◌, ◌++◌, ℕ, ℤ, pos, eqb, set, replicate}
use Rattle.energy.specs.Lists.{filter}
use Rattle.rules.specs.Statement.{lines}
use Rattle.rules.specs.Examples.{minus, agree, guide, kind, reducer, instructed, readings_from, ledger, two_days, example_line, delivering}
use Rattle.commands.specs.declared.entries.Command.{Command}
use Rattle.rules.specs.declared.statement.Stage.TheVariants.{Steady}
use Rattle.rules.specs.declared.statement.Rate.TheVariants.{Optional}
use Rattle.rules.specs.declared.statement.Line.{Line}

-- the line of period 2 that Appendix 2's instruction gives without a window, with a contract's operands, base readings, and the same kW in each minute of
-- the period
abbrev pub second : List ℕ → List ℤ → ℤ → List Line
second v base kw =
    filter (λ (l : Line). eqb l.period 2) (lines (ledger (agree v ∷ instructed 5 85 ∷ (readings_from 2 base ++ readings_from 30 (replicate 30 kw)))))

-- an instruction with ramps of 6 minutes and no steady minute, and readings
abbrev pub ramping : List Command → List ℤ
ramping read = delivering (ledger (agree guide ∷ instructed 3 23 ∷ read))

-- two instructions: the second one's base minutes 26 to 29 are minutes of the first one's ramp down, but for the last
abbrev pub touching : List Command
touching =
    agree guide ∷ instructed 3 23 ∷ instructed 29 49 ∷ (readings_from 0 (replicate 4 (pos 0)) ++ readings_from 17 (replicate 13 (pos 1000)) ++ readings_from 43
    (replicate 12 (pos 3000)))

-- the kWh of segments
pub record Delivered : Type 0 where
  -- the base load is no whole number of kW: 30 minutes of −5 quarters are −0.625 kWh
  pub base_in_quarters :
      second guide (pos 2 ∷ pos 1 ∷ pos 1 ∷ pos 1 ∷ []) (pos 0) ≡ example_line 1 2 Steady Optional (pos 6000) (minus 1) (pos 0) (pos 0) ∷ []
  -- nor is a demand reducer's: 30 minutes of 3 quarters are 0.375 kWh
  pub reducer_base_in_quarters :
      second (set guide kind reducer) (pos 1 ∷ pos 1 ∷ pos 1 ∷ pos 0 ∷ []) (pos 0)
      ≡ example_line 1 2 Steady Optional (pos 6000) (pos 0) (pos 0) (pos 0) ∷ []
  -- a demand reducer that takes more than its base load delivers less than nothing
  pub reducer_below0 :
      second (set guide kind reducer) (replicate 4 (pos 0)) (pos 8) ≡ example_line 1 2 Steady Optional (pos 6000) (minus 4) (pos 0) (pos 0) ∷ []
  -- the most that can be missing in a period
  pub most_missing :
      second guide (replicate 4 (pos 500000)) (minus 500000)
      ≡ example_line 1 2 Steady Optional (pos 6000) (minus 500000) (pos 0) (pos 0) ∷ []
  -- a base load below 0 adds to what is delivered
  pub base_below0 : ramping (readings_from 0 (replicate 4 (minus 1000))) ≡ pos 100 ∷ pos 100 ∷ []
  -- a reading below 0 takes from it
  pub reading_below0 : ramping (readings_from 17 (replicate 12 (minus 1000))) ≡ minus 100 ∷ minus 100 ∷ []
  -- each instruction has its own base load: the first none, the second 1,000 kW
  pub own_base : delivering (ledger touching) ≡ pos 100 ∷ pos 100 ∷ pos 200 ∷ pos 200 ∷ []
  -- readings of the second day are its minutes' own
  pub second_day :
      delivering (two_days guide (instructed 1443 1463 ∷ (readings_from 1440 (replicate 4 (pos 0)) ++ readings_from 1457 (replicate 12 (pos 1000)))))
      ≡ pos 100 ∷ pos 100 ∷ []
