-- Proved of the rules: "Energy and money" by example: a statement's totals, the exact sums, and what they may differ by.
use Rattle.std.specs.Prelude.{◌≡◌, List, [], ◌∷◌, ◌++◌, map, pos, set, replicate}
use Rattle.rules.specs.Ledger.{Ledger}
use Rattle.rules.specs.Statement.{lines, windows_paid, statement_of, exact_energy, exact_amount, allowance}
use Rattle.rules.specs.Examples.{agree, guide, service, contracted, availability, flexible, accepted, rejected, offer, instructed, defaulted, readings_from}
use Rattle.rules.specs.Examples.{periods, generated, month, ledger, pays}
use Rattle.commands.specs.declared.entries.Command.{Command}
use Rattle.commands.specs.declared.entries.Command.TheVariants.{Close as closeᶜ}
use Rattle.rules.specs.declared.statement.Line.{Line}

-- a ramp up of 6 minutes and a ramp down of 6, all in the first period, with a base load of a quarter kW and 5,001 kW in each active minute
abbrev pub brief : List Command
brief =
    agree guide ∷ offer 0 30 accepted ∷ instructed 3 23 ∷ (readings_from 0 (pos 1 ∷ replicate 3 (pos 0)) ++ readings_from 17
    (replicate 12 (pos 5001)) ++ (closeᶜ ∷ []))

-- a contract under which a period is paid 1.5005 pence before rounding, and windows
abbrev pub half_pence : List Command → Ledger
half_pence ws = ledger (agree (set (set guide contracted 3001) availability 1) ∷ ws)

-- totals and exact sums
pub record Amounts : Type 0 where
  -- each line delivers 120,018 quarters, rounded to 500 kWh, which are 15,000 pence; the period is paid 5,400
  pub line_pence : map (λ (l : Line). l.pence.0) (lines (ledger brief)) ≡ pos 15000 ∷ pos 15000 ∷ []
  pub total : (statement_of (ledger brief)).total.0 ≡ pos 35400
  -- lines at the optional rate are in the utilisation pence: F12's month, all 12,800 kWh of it
  pub optional_in_total : (statement_of (ledger (month (set guide service flexible) rejected generated))).utilisation.0 ≡ pos 704000
  -- each period is rounded by itself, in one window or in two: 2 pence each
  pub periods_in_window : windows_paid (half_pence (offer 0 60 accepted ∷ [])) ≡ pays 2 4 ∷ []
  pub periods_in_total : (statement_of (half_pence (periods 2 0))).total.0 ≡ pos 4
  -- the exact sum of energy in 240ths of a kWh, and the exact amount, 35,404.5 pence, in 1,200,000ths of a penny
  pub exactly : exact_energy (ledger brief) ≡ pos 240036
  pub exact_pence : exact_amount (ledger brief) ≡ pos 42485400000
  -- in the exact amount a period is not rounded: 3.001 pence for two
  pub exact_periods : exact_amount (half_pence (periods 2 0)) ≡ pos 3601200
  -- 31.5 pence: half a penny for each line and the period, and half a kWh for each line at 30 pence
  pub allowed : allowance (ledger brief) (lines (ledger brief)) ≡ 37800000
  -- a period that is not paid allows for nothing: half a penny for one of two
  pub unpaid_not_allowed : allowance (ledger (agree guide ∷ offer 0 60 accepted ∷ defaulted 0 4 1 ∷ [])) [] ≡ 600000
