-- Inner, and proved equal to the rules: 25, and the number of lines, before a line is written: instruction by instruction, over the cells of meter memory.
use Rattle.std.specs.Prelude.{Bool, true, ◌&&◌, List, ℕ, zero, suc, ◌+◌, ◌-◌, ◌≤◌, ◌<◌, ℤ, length, get_or}
use Rattle.energy.specs.Energy.{cell}
use Rattle.energy.specs.Lists.{all, between}
use Rattle.commands.specs.Input.{is_reading, most_minute}
use Rattle.commands.specs.declared.entries.Instruction.{Instruction}
use Rattle.rules.specs.Cuts.{touched}
use Rattle.rules.specs.Ledger.{no_instruction}
use Rattle.settle_terms.specs.declared.Terms.{Terms}
use Rattle.settle_survey.specs.declared.Survey.{Survey}

-- the contract's response and ramp up are minutes of a contract
pub record Termed (t : Terms) : Type 0 where
  pub response : t.response.0 ≤ 240
  pub ramp : t.upminutes.0 ≤ t.response.0
  pub some : 1 ≤ t.upminutes.0

-- an instruction lies in the month and in meter memory
pub record SurveyableAt (t : Terms) (meter : List ℤ) (x : Instruction) : Type 0 where
  pub three : 3 ≤ x.issue.0
  pub steady : x.issue.0 + t.response.0 ≤ x.cease.0
  pub inside : x.cease.0 + t.downminutes.0 ≤ length meter
  pub small : x.cease.0 + t.downminutes.0 ≤ most_minute

-- every instruction does
pub record Surveyable (t : Terms) (calls : List Instruction) (meter : List ℤ) : Type 0 where
  pub terms : Termed t
  pub few : length calls ≤ 64
  pub each : (j : ℕ) → j < length calls → SurveyableAt t meter (get_or calls j no_instruction)

-- the cell of a minute holds a reading
abbrev pub has : List ℤ → ℕ → Bool
has meter m = is_reading (cell meter m)

-- the survey with one instruction more: its base and active minutes, and the periods that each of its stages touches
unfoldable pub survey_of : Terms → List ℤ → Instruction → Survey → Survey
survey_of t meter x s =
    let i : ℕ = x.issue.0 in
    let c : ℕ = x.cease.0 in
    record {
      complete =
          s.complete
          && (all (has meter) (between (i - 3) (i + 1)) && all (has meter) (between (i + t.response.0 - t.upminutes.0) (c + t.downminutes.0)));
      count =
          s.count
          + (touched (i + t.response.0 - t.upminutes.0) (i + t.response.0) + touched (i + t.response.0) c + touched c (c + t.downminutes.0));
    }

-- the survey of the first n instructions
abbrev pub survey_to : Terms → List Instruction → List ℤ → ℕ → Survey
survey_to t calls meter zero = record { complete = true; count = 0 }
survey_to t calls meter (suc n) = survey_of t meter (get_or calls n no_instruction) (survey_to t calls meter n)
