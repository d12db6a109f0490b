-- Inner, and for the examples: what the examples are made of: commands by their operands, the guide's Appendices 2 and 3, a unit file with one
-- command of each kind, and what is asked of a ledger.
use Rattle.std.specs.Prelude.{List, [], ◌∷◌, ◌++◌, map, ℕ, zero, suc, ◌+◌, ◌*◌, ℤ, pos, neg_ℤ, set}
use Rattle.energy.specs.Lists.{concat_map}
use Rattle.rules.specs.Ledger.{Ledger, ledger_of}
use Rattle.rules.specs.Refusal.{taken}
use Rattle.rules.specs.Statement.{lines, windows_paid}
use Rattle.rules.specs.File.{contract_from, write}
use Rattle.commands.specs.declared.entries.Command.{Command}
use Rattle.commands.specs.declared.entries.Command.TheVariants.{Contract as contractᶜ, Window as windowᶜ, Instruction as instructionᶜ}
use Rattle.commands.specs.declared.entries.Command.TheVariants.{Default as defaultᶜ, Reading as readingᶜ, Revision as revisionᶜ}
use Rattle.commands.specs.declared.entries.Command.TheVariants.{Close as closeᶜ}
use Rattle.rules.specs.declared.statement.Stage.{Stage}
use Rattle.rules.specs.declared.statement.Rate.{Rate}
use Rattle.rules.specs.declared.statement.Line.{Line}
use Rattle.rules.specs.declared.statement.Available.{Available}

-- −n
abbrev pub minus : ℕ → ℤ
minus n = neg_ℤ (pos n)

-- ---- commands

-- a contract, by its operands in the file's order
abbrev pub agree : List ℕ → Command
agree v = contractᶜ (contract_from v)

-- the operands of Appendix 2's contract. `set guide recovery 60` are the same but for a recovery of 60
abbrev pub guide : List ℕ
guide = 1 ∷ 0 ∷ 0 ∷ 12000 ∷ 2000 ∷ 2000 ∷ 20 ∷ 0 ∷ 900 ∷ 30000 ∷ 55000 ∷ []

-- the places of these operands
abbrev pub days : ℕ
days = 0

abbrev pub kind : ℕ
kind = 1

abbrev pub service : ℕ
service = 2

abbrev pub contracted : ℕ
contracted = 3

abbrev pub rampup : ℕ
rampup = 4

abbrev pub rampdown : ℕ
rampdown = 5

abbrev pub response : ℕ
response = 6

abbrev pub recovery : ℕ
recovery = 7

abbrev pub availability : ℕ
availability = 8

abbrev pub utilisation : ℕ
utilisation = 9

abbrev pub optional : ℕ
optional = 10

-- values of the kind
abbrev pub generator : ℕ
generator = 0

abbrev pub reducer : ℕ
reducer = 1

-- values of the service
abbrev pub committed : ℕ
committed = 0

abbrev pub flexible : ℕ
flexible = 1

-- values of a window
abbrev pub accepted : ℕ
accepted = 0

abbrev pub rejected : ℕ
rejected = 1

-- a window: start, end, accepted or rejected
abbrev pub offer : ℕ → ℕ → ℕ → Command
offer a b v = windowᶜ (record { start = record { 0 = a }; end = record { 0 = b }; verdict = v })

-- an instruction: issue, cease
abbrev pub instructed : ℕ → ℕ → Command
instructed a b = instructionᶜ (record { issue = record { 0 = a }; cease = record { 0 = b } })

-- a default: minute, kind, reach
abbrev pub defaulted : ℕ → ℕ → ℕ → Command
defaulted m k r = defaultᶜ (record { minute = record { 0 = m }; kind = k; reach = r })

-- a reading: minute, kW
abbrev pub metered : ℕ → ℤ → Command
metered m z = readingᶜ (record { minute = record { 0 = m }; kw = record { 0 = z } })

-- a revision: minute, number, kW
abbrev pub revised : ℕ → ℕ → ℤ → Command
revised m n z = revisionᶜ (record { number = n; reading = record { minute = record { 0 = m }; kw = record { 0 = z } } })

-- readings in the minutes from m
abbrev pub readings_from : ℕ → List ℤ → List Command
readings_from m [] = []
readings_from m (z ∷ zs) = metered m z ∷ readings_from (suc m) zs

-- n windows of a period each, from minute m
abbrev pub periods : ℕ → ℕ → List Command
periods zero m = []
periods (suc n) m = offer m (m + 30) accepted ∷ periods n (m + 30)

-- a default of kind 1 in each of n periods, from minute m
abbrev pub faults : ℕ → ℕ → List Command
faults zero m = []
faults (suc n) m = defaulted m 1 1 ∷ faults n (m + 30)

-- n instructions of Appendix 2's contract, each issued at the end of the one before, from minute m
abbrev pub many_instructed : ℕ → ℕ → List Command
many_instructed zero m = []
many_instructed (suc n) m = instructed m (m + 20) ∷ many_instructed n (m + 26)

-- ---- Appendices 2 and 3

-- a list, n times
abbrev pub times : ℕ → List ℕ → List ℕ
times zero xs = []
times (suc n) xs = xs ++ times n xs

-- readings in MW of minutes 2 to 5, and of minutes 19 to 90
abbrev pub megawatts : List ℕ → List ℕ → List Command
megawatts base active = readings_from 2 (map (λ x. pos (1000 * x)) base) ++ readings_from 19 (map (λ x. pos (1000 * x)) active)

-- Appendix 2's metered MW
abbrev pub generated : List Command
generated =
    megawatts (0 ∷ 0 ∷ 0 ∷ 0 ∷ [])
    ((0 ∷ 2 ∷ 4 ∷ 6 ∷ 8 ∷ 10 ∷ 12 ∷ 12 ∷ 12 ∷ 12 ∷ 13 ∷ []) ++ times 15 (10 ∷ 13 ∷ []) ++ times 25 (13 ∷ []) ++ (13 ∷ 11 ∷ 9 ∷ 7 ∷ 5 ∷ 3 ∷ []))

-- Appendix 3's, with a base load of 15 MW, the mean of four readings
abbrev pub reduced : List Command
reduced =
    megawatts (10 ∷ 12 ∷ 16 ∷ 22 ∷ [])
    ((15 ∷ 10 ∷ 8 ∷ 5 ∷ 3 ∷ 3 ∷ 3 ∷ 3 ∷ 3 ∷ 3 ∷ 3 ∷ []) ++ times 15 (2 ∷ 5 ∷ []) ++ times 25 (2 ∷ []) ++ (2 ∷ 4 ∷ 6 ∷ 8 ∷ 10 ∷ 12 ∷ []))

-- Appendix 2's contract and window
abbrev pub opening : List Command
opening = agree guide ∷ offer 0 180 accepted ∷ []

-- a contract, a window from 0 to 180, an instruction issued at 5 that ceases at 85, readings, and the close
abbrev pub month : List ℕ → ℕ → List Command → List Command
month terms verdict read = agree terms ∷ offer 0 180 verdict ∷ instructed 5 85 ∷ (read ++ (closeᶜ ∷ []))

-- Appendix 2
abbrev pub appendix2 : List Command
appendix2 = month guide accepted generated

-- its unit file
unfoldable pub appendix2_file : List ℕ
appendix2_file = concat_map write appendix2

-- Appendix 3
abbrev pub appendix3 : List Command
appendix3 = month (set guide kind reducer) accepted reduced

-- what is taken of a list of commands, with lent memory of a day
unfoldable pub ledger : List Command → Ledger
ledger cs = ledger_of (taken 1440 cs)

-- ---- a unit file

-- a command of each kind: Appendix 2's contract, window and instruction, a default, a reading of −1 kW, its revision 9 as 2 kW, a close
abbrev pub sample : List Command
sample = agree guide ∷ offer 0 180 accepted ∷ instructed 5 85 ∷ defaulted 31 4 1 ∷ metered 7 (minus 1) ∷ revised 7 9 (pos 2) ∷ closeᶜ ∷ []

-- their bytes
abbrev pub sample_bytes : List ℕ
sample_bytes =
    (0x43 ∷ 0x01 ∷ 0x00 ∷ 0x00 ∷ 0x00 ∷ 0x00 ∷ 0x2E ∷ 0xE0 ∷ 0x00 ∷ 0x00 ∷ 0x07 ∷ 0xD0 ∷ 0x00 ∷ 0x00 ∷ 0x07 ∷ 0xD0 ∷ [])
    ++ (0x00 ∷ 0x14 ∷ 0x00 ∷ 0x00 ∷ 0x00 ∷ 0x00 ∷ 0x03 ∷ 0x84 ∷ 0x00 ∷ 0x00 ∷ 0x75 ∷ 0x30 ∷ 0x00 ∷ 0x00 ∷ 0xD6 ∷ 0xD8 ∷ [])
    ++ (0x57 ∷ 0x00 ∷ 0x00 ∷ 0x00 ∷ 0xB4 ∷ 0x00 ∷ [])
    ++ (0x49 ∷ 0x00 ∷ 0x05 ∷ 0x00 ∷ 0x55 ∷ [])
    ++ (0x44 ∷ 0x00 ∷ 0x1F ∷ 0x04 ∷ 0x01 ∷ [])
    ++ (0x4D ∷ 0x00 ∷ 0x07 ∷ 0xFF ∷ 0xFF ∷ 0xFF ∷ 0xFF ∷ [])
    ++ (0x52 ∷ 0x00 ∷ 0x07 ∷ 0x09 ∷ 0x00 ∷ 0x00 ∷ 0x00 ∷ 0x02 ∷ [])
    ++ (0x5A ∷ [])

-- ---- what is asked of a ledger

-- what is taken of a contract with these operands, but over two days, and of commands after it, with lent memory of two days
abbrev pub two_days : List ℕ → List Command → Ledger
two_days v cs = ledger_of (taken 2880 (agree (set v days 2) ∷ cs))

-- a line: instruction, period, stage, rate; kWh expected, delivered and capped; pence
abbrev pub example_line : ℕ → ℕ → Stage → Rate → ℤ → ℤ → ℤ → ℤ → Line
example_line i p s r x d c w =
    record {
      instruction = i;
      period = p;
      stage = s;
      rate = r;
      expected = record { 0 = x };
      delivered = record { 0 = d };
      capped = record { 0 = c };
      pence = record { 0 = w };
    }

-- a window's paid periods and pence
abbrev pub pays : ℕ → ℕ → Available
pays n p = record { periods = n; pence = record { 0 = pos p } }

-- what is paid for the windows of a list of commands
abbrev pub paying : List Command → List Available
paying cs = windows_paid (ledger cs)

-- period, stage and rate of each line
abbrev pub rated : List Command → List (ℕ × Stage × Rate)
rated cs = map (λ (l : Line). (l.period, l.stage, l.rate)) (lines (ledger cs))

-- the kWh that each line delivers
abbrev pub delivering : Ledger → List ℤ
delivering g = map (λ (l : Line). l.delivered.0) (lines g)
