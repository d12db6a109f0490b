-- Inner, and for hosts: what a step needs of a month, as a table of numbers: five figures, the times of 64 instructions in five columns, and
-- a number for each period.
use Rattle.std.specs.Prelude.{Bool, not, ◌&&◌, List, ℕ, ◌+◌, ◌/◌, eqb, ltb, get_or}

-- the numbers of a month
abbrev pub month_numbers : ℕ
month_numbers = 1816

-- the periods among them: those of the longest month and one more, as where a month is settled
abbrev pub month_periods : ℕ
month_periods = 1491

-- contracted kW
abbrev pub kw_at : List ℕ → ℕ
kw_at month = get_or month 0 0

-- the unit's kind: 0 a generator
abbrev pub kind_at : List ℕ → ℕ
kind_at month = get_or month 1 0

-- the utilisation rate
abbrev pub utilisation_at : List ℕ → ℕ
utilisation_at month = get_or month 2 0

-- the optional rate
abbrev pub optional_at : List ℕ → ℕ
optional_at month = get_or month 3 0

-- how many instructions there are
abbrev pub count_at : List ℕ → ℕ
count_at month = get_or month 4 0

-- of instruction n, from 1, beside its issue, which a host needs to know its base minutes: e − U, where its ramp up starts
abbrev pub start_at : List ℕ → ℕ → ℕ
start_at month n = get_or month (68 + n) 0

-- e
abbrev pub expiry_at : List ℕ → ℕ → ℕ
expiry_at month n = get_or month (132 + n) 0

-- cease
abbrev pub cease_at : List ℕ → ℕ → ℕ
cease_at month n = get_or month (196 + n) 0

-- f
abbrev pub end_at : List ℕ → ℕ → ℕ
end_at month n = get_or month (260 + n) 0

-- minute m is in a live window: its period's number is not 0
abbrev pub live_at : List ℕ → ℕ → Bool
live_at month m = ltb (m / 30) month_periods && not (eqb (get_or month (325 + m / 30) 0) 0)
