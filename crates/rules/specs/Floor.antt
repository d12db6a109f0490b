-- Proved of the rules: "Contracts from April": a segment that runs backwards earns nothing and costs nothing, so that no amount of a statement is below 0,
-- whatever has been entered; and by example, which sums have the floor.
use Rattle.std.specs.Prelude.{◌≡◌, ℤ, pos, set, replicate, ◌≤ℤ◌}
use mathlib.Core.List.{List, [], ◌∷◌, ◌++◌, map, Memᴰ}
use Rattle.rules.specs.Ledger.{Ledger}
use Rattle.rules.specs.Statement.{lines, statement_of, exact_energy, exact_amount}
use Rattle.rules.specs.Examples.{minus, agree, guide, kind, service, reducer, flexible, instructed, readings_from, opening, ledger, two_days, example_line}
use Rattle.rules.specs.declared.statement.Stage.TheVariants.{Up, Down}
use Rattle.rules.specs.declared.statement.Rate.TheVariants.{Utilisation, Optional}
use Rattle.rules.specs.declared.statement.Line.{Line}
use Rattle.rules.specs.declared.statement.Available.{Available}
use Rattle.rules.specs.declared.statement.Statement.{Statement}

-- ---- no amount is below 0

-- of a statement s with the lines ls
pub record NotBelow0 (s : Statement) (ls : List Line) : Type 0 where
  -- a line's capped energy, and what is paid for it
  pub line_energy : (l : Line) → Memᴰ l ls → pos 0 ≤ℤ l.capped.0
  pub line_pence : (l : Line) → Memᴰ l ls → pos 0 ≤ℤ l.pence.0
  -- what is paid for a window
  pub window_pence : (v : Available) → Memᴰ v s.windows → pos 0 ≤ℤ v.pence.0
  -- the totals
  pub energy : pos 0 ≤ℤ s.capped.0
  pub utilisation : pos 0 ≤ℤ s.utilisation.0
  pub availability : pos 0 ≤ℤ s.availability.0
  pub total : pos 0 ≤ℤ s.total.0

-- so it is of every ledger's own statement
abbrev pub NotBelow0·theorem : Type 0
NotBelow0·theorem = (g : Ledger) → NotBelow0 (statement_of g) (lines g)

-- ---- by example

-- Appendix 2's unit stands at 30 kW, is called until the response expires, and stops
abbrev pub stopped : Ledger
stopped = ledger (opening ++ (instructed 5 25 ∷ (readings_from 2 (replicate 4 (pos 30)) ++ readings_from 19 (replicate 12 (pos 0)))))

-- readings of a ramp up and a ramp down of 6 minutes each, no window, and a base load of 0
abbrev pub ramped : List ℤ → List ℤ → Ledger
ramped up down = ledger (agree guide ∷ instructed 3 23 ∷ (readings_from 0 (replicate 4 (pos 0)) ++ readings_from 17 (up ++ down)))

-- two instructions with a base load of 1,000 kW each: in the first one's minutes the unit stands still, in the second one's it gives 2,000 kW
abbrev pub second_gives : Ledger
second_gives =
    ledger
    (agree guide ∷ instructed 3 23 ∷ instructed 40 60
    ∷ (readings_from 0 (replicate 4 (pos 1000)) ++ readings_from 17 (replicate 12 (pos 0)) ++ readings_from 37 (replicate 4 (pos 1000)) ++ readings_from 54
    (replicate 12 (pos 2000))))

-- on the second day a demand reducer with a flexible contract takes 1,000 kW more than its base load in the ramp up, and as much less in the ramp down
abbrev pub reducer_rises : Ledger
reducer_rises =
    two_days (set (set guide kind reducer) service flexible)
    (instructed 1443 1463
    ∷ (readings_from 1440 (replicate 4 (pos 1000)) ++ readings_from 1457 (replicate 6 (pos 2000)) ++ readings_from 1463 (replicate 6 (pos 0))))

-- the capped kWh of each line
abbrev pub capping : Ledger → List ℤ
capping g = map (λ (l : Line). l.capped.0) (lines g)

-- which sums have the floor
pub record Floor : Type 0 where
  -- a line's delivered kWh keep their sign, −3, −2.5 and −0.5 before rounding; its capped kWh and pence are 0
  pub listed :
      lines stopped
      ≡ example_line 1 1 Up Utilisation (pos 600) (minus 3) (pos 0) (pos 0)
      ∷ example_line 1 1 Down Utilisation (pos 500) (minus 2) (pos 0) (pos 0)
      ∷ example_line 1 2 Down Utilisation (pos 100) (pos 0) (pos 0) (pos 0)
      ∷ []
  -- the window is paid as ever, and no more or less than that
  pub window_stands : (statement_of stopped).total.0 ≡ pos 32400
  -- so it is in the exact sums
  pub exactly : exact_energy stopped ≡ pos 0
  pub exact_pence : exact_amount stopped ≡ pos 38880000000
  -- the floor is a segment's, not a minute's: three minutes of −1,000 kW and three of 3,000 are 100 kWh
  pub not_by_minute : capping (ramped (replicate 3 (minus 1000) ++ replicate 3 (pos 3000)) (replicate 6 (pos 0))) ≡ pos 100 ∷ pos 0 ∷ []
  -- nor a month's: what one segment falls short of 0 is not taken from the next, in the exact sums neither
  pub not_by_month : (statement_of (ramped (replicate 6 (minus 1000)) (replicate 6 (pos 1000)))).capped.0 ≡ pos 100
  pub exactly_not_by_month : exact_energy (ramped (replicate 6 (minus 1000)) (replicate 6 (pos 1000))) ≡ pos 24000
  -- nor an instruction's: the second one's energy is its own
  pub second_by_itself : capping second_gives ≡ pos 0 ∷ pos 0 ∷ pos 100 ∷ pos 100 ∷ []
  -- a demand reducer's, on a later day, under a flexible contract
  pub reducer_too :
      lines reducer_rises
      ≡ example_line 1 49 Up Optional (pos 600) (minus 100) (pos 0) (pos 0)
      ∷ example_line 1 49 Down Optional (pos 600) (pos 100) (pos 100) (pos 5500)
      ∷ []
