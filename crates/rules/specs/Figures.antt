-- "Twelve checked figures": F1 to F12, and the whole lengths of the table of commands.
use Rattle.std.specs.Prelude.{◌≡◌, true, false, List, [], ◌∷◌, ◌++◌, map, ℕ, pos, length, set, replicate}
use Rattle.std.proofs.Math.Option.{none, some}
use Rattle.energy.specs.Energy.{kwh, payment}
use Rattle.energy.specs.Lists.{first}
use Rattle.commands.specs.Input.{up_minutes, down_minutes}
use Rattle.rules.specs.Ledger.{contract_of, end_of}
use Rattle.rules.specs.Refusal.{refusal, taken}
use Rattle.rules.specs.Segment.{live}
use Rattle.rules.specs.Statement.{lines, statement_of, windows_paid, penalty, period_pence, nothing, settle_refusal}
use Rattle.rules.specs.File.{table, whole, bytes_of, word_from}
use Rattle.rules.specs.Examples.{minus, agree, guide, service, recovery, rampup, rampdown, flexible, accepted, rejected, offer, instructed, defaulted}
use Rattle.rules.specs.Examples.{periods, faults, generated, opening, month, appendix2, appendix3, ledger, example_line, pays}
use Rattle.commands.specs.declared.entries.Command.{Command}
use Rattle.rules.specs.declared.statement.Stage.TheVariants.{Up, Steady, Down}
use Rattle.rules.specs.declared.statement.Rate.TheVariants.{Utilisation, Optional}
use Rattle.rules.specs.declared.statement.Line.{Line}

-- Appendix 2's contract with another recovery, two windows after its instruction, and the instruction
abbrev pub afterwards : ℕ → List Command
afterwards r = agree (set guide recovery r) ∷ offer 150 180 accepted ∷ offer 180 210 accepted ∷ instructed 5 85 ∷ []

-- the twelve figures
pub record Figures : Type 0 where
  -- F1: Appendix 2 is taken whole and settled into six lines
  pub F1-taken : taken 1440 appendix2 ≡ appendix2
  pub F1-settled : settle_refusal false 1440 6 (ledger appendix2) ≡ none
  pub F1-lines :
      lines (ledger appendix2)
      ≡ example_line 1 1 Up Utilisation (pos 600) (pos 500) (pos 500) (pos 15000)
      ∷ example_line 1 1 Steady Utilisation (pos 1000) (pos 1017) (pos 1000) (pos 30000)
      ∷ example_line 1 2 Steady Utilisation (pos 6000) (pos 5750) (pos 5750) (pos 172500)
      ∷ example_line 1 3 Steady Utilisation (pos 5000) (pos 5417) (pos 5000) (pos 150000)
      ∷ example_line 1 3 Down Utilisation (pos 500) (pos 750) (pos 500) (pos 15000)
      ∷ example_line 1 4 Down Utilisation (pos 100) (pos 50) (pos 50) (pos 1500)
      ∷ []
  pub F1-statement :
      statement_of (ledger appendix2)
      ≡ record {
        lines = 6;
        capped = record { 0 = pos 12800 };
        utilisation = record { 0 = pos 384000 };
        availability = record { 0 = pos 32400 };
        total = record { 0 = pos 416400 };
        windows = pays 6 32400 ∷ replicate 127 nothing;
      }
  -- F2: Appendix 3
  pub F2-capped :
      map (λ (l : Line). l.capped.0) (lines (ledger appendix3)) ≡ pos 600 ∷ pos 1000 ∷ pos 5750 ∷ pos 5000 ∷ pos 500 ∷ pos 50 ∷ []
  pub F2-pence : (statement_of (ledger appendix3)).utilisation.0 ≡ pos 387000
  -- F3 and F4: quarters as kWh, a half to the larger number
  pub F3-120 : kwh (pos 120) ≡ pos 1
  pub F3-119 : kwh (pos 119) ≡ pos 0
  pub F4-120 : kwh (minus 120) ≡ pos 0
  pub F4-121 : kwh (minus 121) ≡ minus 1
  -- F5: 12,000 kW at 5,000 kW a minute
  pub F5-up : up_minutes (contract_of (ledger (agree (set guide rampup 5000) ∷ []))) ≡ 3
  pub F5-down : down_minutes (contract_of (ledger (agree (set guide rampdown 5000) ∷ []))) ≡ 3
  -- F6: f is 91; with a recovery of 60 the window from 150 is excluded, that from 180 is not
  pub F6-end : map (end_of (contract_of (ledger (afterwards 60)))) (ledger (afterwards 60)).instructions ≡ 91 ∷ []
  pub F6-live : map (live (ledger (afterwards 60))) (ledger (afterwards 60)).windows ≡ false ∷ true ∷ []
  -- F7: with none, neither is
  pub F7-live : map (live (ledger (afterwards 0))) (ledger (afterwards 0)).windows ≡ true ∷ true ∷ []
  -- F8: P 1, and P 30 for 31 faulted windows, of 32
  pub F8-one : penalty (ledger (opening ++ (defaulted 0 1 1 ∷ []))) ≡ 1
  pub F8-pence : period_pence (ledger (opening ++ (defaulted 0 1 1 ∷ []))) ≡ pos 5346
  pub F8-many : windows_paid (ledger (agree guide ∷ (periods 32 0 ++ faults 31 0))) ≡ replicate 31 (pays 0 0) ++ (pays 1 3780 ∷ [])
  -- F9: high byte first
  pub F9-write : bytes_of 4 15000 ≡ 0x00 ∷ 0x00 ∷ 0x3A ∷ 0x98 ∷ []
  pub F9-read : word_from 0 (0x00 ∷ 0x00 ∷ 0x3A ∷ 0x98 ∷ []) ≡ 15000
  -- F10: 50 and −50 kWh at 30 pence per MWh
  pub F10-plus : payment (pos 50) 30 ≡ pos 2
  pub F10-minus : payment (minus 50) 30 ≡ minus 1
  -- F11: cease at the response's expiry is taken and gives three lines, a minute earlier gets 19
  pub F11-25 : refusal false 1440 (ledger opening) (instructed 5 25) ≡ none
  pub F11-lines : length (lines (ledger (opening ++ (instructed 5 25 ∷ [])))) ≡ 3
  pub F11-24 : refusal false 1440 (ledger opening) (instructed 5 24) ≡ some 19
  -- F12: F1 under a flexible contract, with its window rejected
  pub F12 :
      first (example_line 0 0 Up Optional (pos 0) (pos 0) (pos 0) (pos 0)) (lines (ledger (month (set guide service flexible) rejected generated)))
      ≡ example_line 1 1 Up Optional (pos 600) (pos 500) (pos 500) (pos 27500)
  -- the table's whole lengths: contract, date, window, instruction, default, reading, revision, close
  pub lengths : map whole table ≡ 32 ∷ 5 ∷ 6 ∷ 5 ∷ 5 ∷ 7 ∷ 8 ∷ 1 ∷ []
