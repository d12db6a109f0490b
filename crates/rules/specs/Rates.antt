-- Proved of the rules: "From instruction to segment" by example: which windows are excluded, and at which rate each line is paid.
use Rattle.std.specs.Prelude.{◌≡◌, List, [], ◌∷◌, ℕ, ◌+◌, set}
use Rattle.rules.specs.Statement.{windows_paid}
use Rattle.rules.specs.Examples.{agree, guide, kind, service, rampup, rampdown, response, recovery, reducer, flexible, accepted, rejected}
use Rattle.rules.specs.Examples.{offer, instructed, two_days, pays, paying, rated}
use Rattle.commands.specs.declared.entries.Command.{Command}
use Rattle.rules.specs.declared.statement.Stage.TheVariants.{Up, Steady, Down}
use Rattle.rules.specs.declared.statement.Rate.TheVariants.{Utilisation, Optional}

-- Appendix 2's contract but for its recovery, an instruction issued at 3, and a period's window
abbrev pub recovering : ℕ → ℕ → ℕ → List Command
recovering r cease start = agree (set guide recovery r) ∷ offer start (start + 30) accepted ∷ instructed 3 cease ∷ []

-- which windows are excluded, so that none of their periods is paid
pub record Exclusion : Type 0 where
  -- strict at both ends: f is 90 and 89, and f + recovery + response 151 and 150
  pub not_at_end : paying (recovering 60 84 90) ≡ pays 1 5400 ∷ []
  pub after_end : paying (recovering 60 83 90) ≡ pays 0 0 ∷ []
  pub in_recovery : paying (recovering 60 65 150) ≡ pays 0 0 ∷ []
  pub not_after_recovery : paying (recovering 60 64 150) ≡ pays 1 5400 ∷ []
  -- a recovery of at least 1 is asked for
  pub some_recovery : paying (recovering 1 83 90) ≡ pays 0 0 ∷ []
  pub no_recovery : paying (recovering 0 83 90) ≡ pays 1 5400 ∷ []
  -- f is by the ramp down: 23 + 40, after the window's start at 60
  pub end_by_ramp_down :
      paying (agree (set (set guide recovery 60) rampdown 300) ∷ offer 60 90 accepted ∷ instructed 3 23 ∷ []) ≡ pays 1 5400 ∷ []
  -- every window that starts in that time, and not the first alone
  pub every_window :
      paying (agree (set guide recovery 60) ∷ offer 90 120 accepted ∷ offer 120 150 accepted ∷ instructed 3 83 ∷ []) ≡ pays 0 0 ∷ pays 0 0 ∷ []
  -- by any instruction: here by the second, whose end is 91
  pub any_instruction :
      paying (agree (set guide recovery 10) ∷ offer 120 150 accepted ∷ instructed 3 23 ∷ instructed 65 85 ∷ []) ≡ pays 0 0 ∷ []
  -- under a flexible contract too
  pub flexible_too : paying (agree (set (set guide service flexible) recovery 60) ∷ offer 90 120 accepted ∷ instructed 3 83 ∷ []) ≡ pays 0 0 ∷ []
  -- midnight does not end it: f is 1,439
  pub over_midnight : windows_paid (two_days (set guide recovery 60) (offer 1440 1470 accepted ∷ instructed 3 1433 ∷ [])) ≡ pays 0 0 ∷ []

-- period, stage and rate of each line
pub record Rates : Type 0 where
  -- a ramp up before the live window that e is in, and a ramp down after the one that cease − 1 is in
  pub ramps_by_their_anchors :
      rated (agree guide ∷ offer 30 90 accepted ∷ instructed 10 90 ∷ [])
      ≡ (1, Up, Utilisation) ∷ (2, Steady, Utilisation) ∷ (3, Steady, Utilisation) ∷ (4, Down, Utilisation) ∷ []
  -- the same where e is the window's last minute, and cease − 1 its first, with ramps of 40 minutes
  pub expiry_last_in_window :
      rated (agree (set (set guide rampup 300) response 40) ∷ offer 30 60 accepted ∷ instructed 19 60 ∷ [])
      ≡ (1, Up, Utilisation) ∷ (2, Up, Utilisation) ∷ (2, Steady, Utilisation) ∷ (3, Down, Utilisation) ∷ []
  pub cease_after_first_in_window :
      rated (agree (set guide rampdown 300) ∷ offer 60 90 accepted ∷ instructed 5 61 ∷ [])
      ≡ (1, Up, Optional) ∷ (1, Steady, Optional) ∷ (2, Steady, Optional) ∷ (3, Steady, Utilisation) ∷ (3, Down, Utilisation) ∷ (4, Down, Utilisation) ∷ []
  -- with cease at e there is no steady minute, and cease − 1 is a minute of the ramp up: 29, in the window that e is not in
  pub cease_at_expiry : rated (agree guide ∷ offer 0 30 accepted ∷ instructed 10 30 ∷ []) ≡ (1, Up, Utilisation) ∷ (2, Down, Utilisation) ∷ []
  -- e in no live window: each minute of the ramp up goes by itself
  pub up_by_itself :
      rated (agree (set (set guide rampup 300) response 40) ∷ offer 0 30 accepted ∷ instructed 3 60 ∷ [])
      ≡ (1, Up, Utilisation) ∷ (2, Up, Optional) ∷ (2, Steady, Optional) ∷ (3, Down, Optional) ∷ []
  -- cease − 1 in none: so does each minute of the ramp down, 60 to 99
  pub down_by_itself :
      rated (agree (set guide rampdown 300) ∷ offer 60 90 accepted ∷ instructed 5 60 ∷ [])
      ≡ (1, Up, Optional) ∷ (1, Steady, Optional) ∷ (2, Steady, Optional) ∷ (3, Down, Utilisation) ∷ (4, Down, Optional) ∷ []
  -- each steady minute goes by itself, also where e is in a live window
  pub steady_by_itself :
      rated (agree guide ∷ offer 0 30 accepted ∷ instructed 3 35 ∷ [])
      ≡ (1, Up, Utilisation) ∷ (1, Steady, Utilisation) ∷ (2, Steady, Optional) ∷ (2, Down, Optional) ∷ []
  -- a rejected window is not live
  pub rejected_not_live :
      rated (agree (set guide service flexible) ∷ offer 0 60 rejected ∷ instructed 3 30 ∷ [])
      ≡ (1, Up, Optional) ∷ (1, Steady, Optional) ∷ (2, Down, Optional) ∷ []
  -- nor is an excluded one
  pub excluded_not_live :
      rated (agree (set guide recovery 10) ∷ offer 120 180 accepted ∷ instructed 65 85 ∷ instructed 101 121 ∷ [])
      ≡ (3, Up, Optional) ∷ (3, Down, Optional) ∷ (4, Down, Optional) ∷ (4, Up, Optional) ∷ (5, Up, Optional) ∷ (5, Down, Optional) ∷ []
  -- a demand reducer outside every window is paid the optional rate too
  pub reducer_outside : rated (agree (set guide kind reducer) ∷ instructed 3 23 ∷ []) ≡ (1, Up, Optional) ∷ (1, Down, Optional) ∷ []
  -- a second instruction goes by its own e and cease
  pub second_by_its_own :
      rated (agree guide ∷ offer 90 120 accepted ∷ instructed 3 23 ∷ instructed 70 91 ∷ [])
      ≡ (1, Up, Optional) ∷ (1, Down, Optional) ∷ (3, Up, Utilisation) ∷ (4, Steady, Utilisation) ∷ (4, Down, Utilisation) ∷ []
  -- and a window pays for as many instructions as are in it
  pub second_in_window :
      rated (agree guide ∷ offer 0 90 accepted ∷ instructed 3 23 ∷ instructed 29 50 ∷ [])
      ≡ (1, Up, Utilisation) ∷ (1, Down, Utilisation) ∷ (2, Up, Utilisation) ∷ (2, Steady, Utilisation) ∷ (2, Down, Utilisation) ∷ []
