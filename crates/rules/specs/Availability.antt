-- Proved of the rules: "Energy and money" by example: which periods are paid, and P.
use Rattle.std.specs.Prelude.{◌≡◌, List, [], ◌∷◌, ◌++◌, ℕ, set}
use Rattle.rules.specs.Statement.{windows_paid}
use Rattle.rules.specs.Examples.{agree, guide, service, recovery, flexible, accepted, rejected, offer, instructed, defaulted, periods, opening, two_days}
use Rattle.rules.specs.Examples.{pays, paying}
use Rattle.rules.specs.declared.statement.Available.{Available}

-- Appendix 2's contract, a window of two periods and one of a period right after it, and a default in the first one's first minute
abbrev pub paid_after : ℕ → ℕ → List Available
paid_after kind reach = paying (agree guide ∷ offer 0 60 accepted ∷ offer 60 90 accepted ∷ defaulted 0 kind reach ∷ [])

-- which periods of a window are paid
pub record PaidPeriods : Type 0 where
  -- reaches 1, 2 and 3, in the second of six periods
  pub reach1 : paying (opening ++ (defaulted 31 2 1 ∷ [])) ≡ pays 5 26730 ∷ []
  pub reach2 : paying (opening ++ (defaulted 31 2 2 ∷ [])) ≡ pays 0 0 ∷ []
  pub reach3 : paying (opening ++ (defaulted 59 3 3 ∷ [])) ≡ pays 1 5346 ∷ []
  -- reach 2 stops at both ends of its window
  pub reach2_at_end : paying (agree guide ∷ (periods 2 0 ++ (defaulted 0 1 2 ∷ []))) ≡ pays 0 0 ∷ pays 1 5346 ∷ []
  pub reach2_at_start : paying (agree guide ∷ (periods 2 0 ++ (defaulted 30 1 2 ∷ []))) ≡ pays 1 5346 ∷ pays 0 0 ∷ []
  -- reach 3 stops at its window's end
  pub reach3_at_end : paid_after 2 3 ≡ pays 0 0 ∷ pays 1 5346 ∷ []
  -- a delivery default reaches as far as any other
  pub delivery_reach1 : paying (opening ++ (defaulted 31 4 1 ∷ [])) ≡ pays 5 27000 ∷ []
  pub delivery_reach2 : paid_after 4 2 ≡ pays 0 0 ∷ pays 1 5400 ∷ []
  pub delivery_reach3 : paid_after 4 3 ≡ pays 0 0 ∷ pays 1 5400 ∷ []
  -- a window that ends with the month is paid
  pub to_midnight : paying (agree guide ∷ offer 1410 1440 accepted ∷ []) ≡ pays 1 5400 ∷ []
  -- so are the periods of the second day, but for those that a default reaches
  pub second_day : windows_paid (two_days guide (offer 1440 1500 accepted ∷ defaulted 1440 4 1 ∷ [])) ≡ pays 1 5400 ∷ []

-- what is counted in P
pub record Penalties : Type 0 where
  -- two defaults in one window are 1 in P, also of two kinds
  pub window_once : paying (opening ++ (defaulted 0 1 1 ∷ defaulted 30 1 1 ∷ [])) ≡ pays 4 21384 ∷ []
  pub kinds_once : paying (opening ++ (defaulted 0 1 1 ∷ defaulted 0 2 1 ∷ [])) ≡ pays 5 26730 ∷ []
  -- a flexible contract has P too
  pub flexible_too : paying (agree (set guide service flexible) ∷ offer 0 180 accepted ∷ defaulted 0 1 1 ∷ []) ≡ pays 5 26730 ∷ []
  -- a rejected window is not counted
  pub rejected_not :
      paying (agree (set guide service flexible) ∷ offer 0 30 rejected ∷ offer 30 60 accepted ∷ defaulted 0 1 1 ∷ []) ≡ pays 0 0 ∷ pays 1 5400 ∷ []
  -- nor is an excluded one: f is 89
  pub excluded_not :
      paying (agree (set guide recovery 60) ∷ offer 90 120 accepted ∷ offer 180 210 accepted ∷ instructed 3 83 ∷ defaulted 90 1 1 ∷ [])
      ≡ pays 0 0 ∷ pays 1 5400 ∷ []
  -- one of the second day is
  pub second_day : windows_paid (two_days guide (offer 1440 1500 accepted ∷ defaulted 1440 1 1 ∷ [])) ≡ pays 1 5346 ∷ []
