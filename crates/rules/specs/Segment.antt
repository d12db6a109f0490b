-- "From instruction to segment": active and needed minutes, stages, live windows, the rate of a minute, and segments in their order.
use Rattle.std.specs.Prelude.{Bool, true, false, not, ◌&&◌, ◌||◌, cond, List, [], ◌∷◌, ◌++◌, map, ℕ, suc, ◌+◌, ◌-◌, ◌/◌, eqb, leb, ltb}
use Rattle.energy.specs.Lists.{any, all, filter, concat_map, between, is_some}
use Rattle.rules.specs.Ledger.{Ledger, contract_of, expiry, ramp_start, end_of, within}
use Rattle.commands.specs.declared.contract.Contract.{Contract}
use Rattle.commands.specs.declared.entries.Window.{Window}
use Rattle.commands.specs.declared.entries.Instruction.{Instruction}
use Rattle.rules.specs.declared.statement.Stage.{Stage}
use Rattle.rules.specs.declared.statement.Stage.TheVariants.{Up, Steady, Down}
use Rattle.rules.specs.declared.statement.Rate.{Rate}
use Rattle.rules.specs.declared.statement.Rate.TheVariants.{Utilisation, Optional}

-- ---- minutes

-- the period of a minute, from 1
abbrev pub period_of : ℕ → ℕ
period_of m = m / 30 + 1

-- the active minutes of an instruction: e − U to f − 1
unfoldable pub active : Contract → Instruction → List ℕ
active k i = between (ramp_start k i) (end_of k i)

-- the base minutes of an instruction: issue − 3 to issue
unfoldable pub base_minutes : Instruction → List ℕ
base_minutes i = between (i.issue.0 - 3) (i.issue.0 + 1)

-- the needed minutes: base and active ones of every instruction
unfoldable pub needed : Ledger → List ℕ
needed g = concat_map (λ i. base_minutes i ++ active (contract_of g) i) g.instructions

-- every needed minute has a reading
unfoldable pub complete : Ledger → Bool
complete g = all (λ m. is_some (g.reading m)) (needed g)

-- the stage of an active minute: ramp up before e, steady before cease, then ramp down
unfoldable pub stage_of : Contract → Instruction → ℕ → Stage
stage_of k i m = cond (ltb m (expiry k i)) Up (cond (ltb m i.cease.0) Steady Down)

-- ---- live windows and rates

-- instruction i excludes window w: recovery is at least 1, and f < start < f + recovery + response
unfoldable pub excludes : Contract → Window → Instruction → Bool
excludes k w i =
    leb 1 k.recovery.0 && ltb (end_of k i) w.start.0 && ltb w.start.0 (end_of k i + k.recovery.0 + k.response.0)

-- window w is live: accepted, and excluded by no instruction
unfoldable pub live : Ledger → Window → Bool
live g w = eqb w.verdict 0 && not (any (excludes (contract_of g) w) g.instructions)

-- minute m is in a live window
unfoldable pub in_live : Ledger → ℕ → Bool
in_live g m = any (λ w. within w m && live g w) g.windows

-- the minute whose live window pays for a whole stage too: e for a ramp up, cease − 1 for a ramp down
abbrev pub anchor : Contract → Instruction → Stage → ℕ → ℕ
anchor k i Up m = expiry k i
anchor k i Steady m = m
anchor k i Down m = i.cease.0 - 1

-- the rate of an active minute: utilisation where it or its stage's anchor is in a live window, else optional
unfoldable pub rate_at : Ledger → Instruction → ℕ → Rate
rate_at g i m =
    cond (in_live g m || in_live g (anchor (contract_of g) i (stage_of (contract_of g) i m) m)) Utilisation Optional

-- a rate's pence per MWh
abbrev pub price : Contract → Rate → ℕ
price k Utilisation = k.utilisation
price k Optional = k.optional

-- ---- segments

-- two stages are the same
abbrev pub same_stage : Stage → Stage → Bool
same_stage Up Up = true
same_stage Up Steady = false
same_stage Up Down = false
same_stage Steady Up = false
same_stage Steady Steady = true
same_stage Steady Down = false
same_stage Down Up = false
same_stage Down Steady = false
same_stage Down Down = true

-- two minutes of an instruction have the same period and stage
unfoldable pub alike : Contract → Instruction → ℕ → ℕ → Bool
alike k i m n = eqb (period_of m) (period_of n) && same_stage (stage_of k i m) (stage_of k i n)

-- the first minute of each segment: the first active one, and each that is not like the minute before it
unfoldable pub heads : Contract → Instruction → List ℕ
heads k i = filter (λ m. eqb m (ramp_start k i) || not (alike k i (m - 1) m)) (active k i)

-- a segment: its instruction, with its number from 1, its first minute, and all its minutes
pub record Segment : Type 0 where
  pub number : ℕ
  pub instruction : Instruction
  pub head : ℕ
  pub minutes : List ℕ

-- the segments of instruction n: all its minutes with the same stage and period, by rising minute
unfoldable pub segments_of : Contract → ℕ → Instruction → List Segment
segments_of k n i =
    map
    (λ m. record { number = n; instruction = i; head = m; minutes = filter (alike k i m) (active k i) })
    (heads k i)

-- the segments of instructions whose numbers start at n
unfoldable pub segments_from : Contract → ℕ → List Instruction → List Segment
segments_from k n [] = []
segments_from k n (i ∷ is) = segments_of k n i ++ segments_from k (suc n) is

-- the segments of a ledger, in the order of their lines
unfoldable pub segments : Ledger → List Segment
segments g = segments_from (contract_of g) 1 g.instructions
