-- The bounds on the number of lines are met: 64 instructions that share their first and last periods, in 11 days and in an October.
use mathlib.Core.Path.{◌≡◌, refl, ap, ◌∙◌, subst⁻¹}
use mathlib.Core.List.{List, [], ◌∷◌, ◌++◌}
use Prim.Native.Nat.{ℕ, zero, suc, ◌+◌, ◌-◌, ◌*◌}
use native.Mathlib.Omega.{arith}
use lib.IntN.{pos}
use Rattle.energy.specs.Lists.{sum_ℕ}
use Rattle.rules.specs.Ledger.{Ledger, ledger_of, contract_of}
use Rattle.rules.specs.Refusal.{taken, taken_after}
use Rattle.rules.specs.Lines.{LinesMet·theorem}
use Rattle.commands.specs.declared.contract.Contract.{Contract}
use Rattle.commands.specs.declared.entries.Command.{Command}
use Rattle.commands.specs.declared.entries.Command.TheVariants.{Contract as contractᶜ, Date as dateᶜ, Instruction as instructionᶜ}
use Rattle.rules.proofs.Definitions.{opened}
use Rattle.rules.specs.Cuts.{touched}
use Rattle.rules.proofs.Reached.{reached}
use Rattle.rules.proofs.Replay.{Accepted, taken-first, month-taken}
use Rattle.rules.proofs.LineBound.{touches, lines-count}

-- a contract whose ramps take 6 minutes each, as long as its response
abbrev briskly : ℕ → Contract
briskly days =
    record {
      days = days;
      kind = 0;
      service = 0;
      contracted = record { 0 = pos 12000 };
      rampup = 2000;
      rampdown = 2000;
      response = record { 0 = 6 };
      recovery = record { 0 = 0 };
      availability = 900;
      utilisation = 30000;
      optional = 55000;
    }

abbrev brisk : ℕ → Command
brisk days = contractᶜ (briskly days)

abbrev call : ℕ → ℕ → Command
call issue cease = instructionᶜ (record { issue = record { 0 = issue }; cease = record { 0 = cease } })

-- n instructions, d minutes apart: from minute m + 10, and ramping down over the end of a period
abbrev spaced : ℕ → ℕ → ℕ → List Command
spaced d zero m = []
spaced d (suc n) m = call (m + 10) (m + d - 1) ∷ spaced d n (m + d)

-- 63 of them, and one to the end of the last of so many minutes
abbrev busy : ℕ → ℕ → List Command
busy minutes d = spaced d 63 0 ++ (call (63 * d + 10) (minutes - 6) ∷ [])

-- 11 days, and an October, which has an hour more
abbrev eleven_days : List Command
eleven_days = brisk 11 ∷ busy 15840 240

abbrev dated : List Command
dated = brisk 31 ∷ dateᶜ (record { year = 2024; month = 10; day = 1 }) ∷ []

abbrev october : List Command
october = dated ++ busy 44700 690

-- all of them are taken
abbrev left : ℕ → List Command → Ledger
left size cs = ledger_of (taken size cs)

count_11 : ((contract_of (left 15840 eleven_days)).days ≡ 11)
    × (sum_ℕ (touches (contract_of (left 15840 eleven_days))) (left 15840 eleven_days).instructions ≡ 719)
unfolding opened touched
count_11 = (refl, refl)

-- its contract and date are taken first
dated_both : Accepted 44700 (ledger_of []) dated
unfolding opened
dated_both = month-taken 44700 (briskly 31) (record { year = 2024; month = 10; day = 1 }) tt tt tt (omega arith)

october_left : left 44700 october ≡ ledger_of (taken_after 44700 dated (busy 44700 690))
unfolding taken
october_left = ap ledger_of (taken-first 44700 [] dated (busy 44700 690) dated_both)

abbrev Counts : Ledger → ℕ → ℕ → Type 0
Counts g days most = ((contract_of g).days ≡ days) × (sum_ℕ (touches (contract_of g)) g.instructions ≡ most)

count-dated : Counts (ledger_of (taken_after 44700 dated (busy 44700 690))) 31 1681
unfolding opened touched
count-dated = (refl, refl)

count_31 : Counts (left 44700 october) 31 1681
count_31 = subst⁻¹ (λ g. Counts g 31 1681) october_left count-dated

pub lines_met : LinesMet·theorem
lines_met = (
  record { size = 15840; commands = eleven_days; month = count_11.0; busy = lines-count (left 15840 eleven_days) (reached 15840 eleven_days) ∙ count_11.1 },
  record { size = 44700; commands = october; month = count_31.0; busy = lines-count (left 44700 october) (reached 44700 october) ∙ count_31.1 },
)
