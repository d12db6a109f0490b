-- "From the input": what a command's own operands are turned down for, whatever the book, and what comes of a contract's operands.
use Rattle.std.specs.Prelude.{Bool, true, false, not, ◌&&◌, ◌||◌, List, [], ◌∷◌, ℕ, ◌%◌, ℤ, pos, negsuc, nat_abs, eqb, leb, ltb, Result, Ok, Err}
use Rattle.std.proofs.Math.Option.{Option, none, some}
use Rattle.std.specs.Int.Signed.{le_z}
use Rattle.energy.specs.Number.{ceiling}
use Rattle.calendar.specs.Calendar.{is_date}
pub use Rattle.calendar.specs.Calendar.{from_to}
use Rattle.commands.specs.Refusals.{refusal_of}
use Rattle.commands.specs.Command.{on_contract, on_date, on_window, on_instruction, on_default, on_reading, on_revision, always}
use Rattle.commands.specs.declared.contract.Contract.{Contract}
use Rattle.commands.specs.declared.refusal.Refusal.{Refusal}
use Rattle.commands.specs.declared.entries.Reading.{Reading}
use Rattle.commands.specs.declared.entries.Command.{Command}
use Rattle.commands.specs.declared.entries.Command.TheVariants.{Contract as contractᶜ}

-- ---- a contract's ramps

-- contracted kW
abbrev pub kw_of : Contract → ℕ
kw_of k = nat_abs k.contracted.0

-- ramp up minutes U
unfoldable pub up_minutes : Contract → ℕ
up_minutes k = ceiling (kw_of k) k.rampup

-- ramp down minutes V
unfoldable pub down_minutes : Contract → ℕ
down_minutes k = ceiling (kw_of k) k.rampdown

-- ---- the conditions

-- a signed number is from a to b; of a natural one, `from_to` says it
abbrev pub from_to_ℤ : ℤ → ℤ → ℤ → Bool
from_to_ℤ a b n = le_z a n && le_z n b

-- a reading: from −500,000 to 500,000 kW. A cell of meter memory that is none counts as no reading
abbrev pub is_reading : ℤ → Bool
is_reading z = from_to_ℤ (negsuc 499999) (pos 500000) z

-- the greatest minute that an operand gives: the end of a month of 31 days that gains an hour
abbrev pub most_minute : ℕ
most_minute = 44700

-- minute and kW of a reading are in their ranges
abbrev pub meterable : Reading → Bool
meterable r = from_to 0 most_minute r.minute.0 && is_reading r.kw.0

-- 3: every operand is in its range or one of its values. A date's are not looked at
abbrev pub in_range : Command → Bool
in_range c =
    on_contract
    (λ k. from_to 1 31 k.days && from_to 0 1 k.kind && from_to 0 1 k.service && from_to_ℤ (pos 3000) (pos 500000) k.contracted.0
    && from_to 1 500000 k.rampup
    && from_to 1 500000 k.rampdown
    && from_to 1 240 k.response.0
    && from_to 0 1200 k.recovery.0
    && from_to 0 1000000 k.availability
    && from_to 0 1000000 k.utilisation
    && from_to 0 1000000 k.optional)
    (on_window (λ w. from_to 0 most_minute w.start.0 && from_to 0 most_minute w.end.0 && from_to 0 1 w.verdict)
    (on_instruction (λ i. from_to 3 most_minute i.issue.0 && from_to 0 most_minute i.cease.0)
    (on_default (λ d. from_to 0 most_minute d.minute.0 && from_to 1 4 d.kind && from_to 1 3 d.reach)
    (on_reading meterable
    (on_revision (λ v. from_to 1 255 v.number && meterable v.reading)
    (always true))))))
    c

-- 4: ramp up minutes above the response, or ramp down minutes above 240
abbrev pub ramp_too_long : Command → Bool
ramp_too_long c = on_contract (λ k. ltb k.response.0 (up_minutes k) || ltb 240 (down_minutes k)) (always false) c

-- 5: window start not below its end, or either not a multiple of 30
abbrev pub bad_window : Command → Bool
bad_window c =
    on_window (λ w. leb w.end.0 w.start.0 || not (eqb (w.start.0 % 30) 0) || not (eqb (w.end.0 % 30) 0)) (always false) c

-- 28: a date's field outside its range, or a day that its month lacks
abbrev pub no_such_date : Command → Bool
no_such_date c = on_date (λ d. not (is_date d)) (always false) c

-- ---- the first number that applies

-- a refusal's number, and whether its condition holds
pub record Condition : Type 0 where
  pub number : ℕ
  pub holds : Bool

-- n is the number where b holds
abbrev pub ◌when◌ : ℕ → Bool → Condition
n when b = record { number = n; holds = b }

infix 20 ◌when◌
-- what a command meets whatever the book
abbrev pub input_conditions : Command → List Condition
input_conditions c =
    (3 when not (in_range c))
    ∷ (4 when ramp_too_long c)
    ∷ (5 when bad_window c)
    ∷ (28 when no_such_date c)
    ∷ []

-- the number of the first condition that holds
unfoldable pub first_met : List Condition → Option ℕ
first_met [] = none
first_met (c ∷ cs) = elim c.holds [ true ↦ some c.number | false ↦ first_met cs ]

-- a number, 0 where there is none
abbrev pub or_zero : Option ℕ → ℕ
or_zero none = 0
or_zero (some n) = n

-- the first of 3, 4, 5 and 28 whose condition holds, 0 for none
unfoldable pub input_refusal : Command → ℕ
input_refusal c = or_zero (first_met (input_conditions c))

-- what is answered for a number: the contract where there is none
abbrev pub offer_for : Contract → Option ℕ → Result Contract Refusal
offer_for k none = Ok k
offer_for k (some n) = Err (refusal_of n)

-- what comes of a contract's operands
unfoldable pub offer_of : Contract → Result Contract Refusal
offer_of k = offer_for k (first_met (input_conditions (contractᶜ k)))
