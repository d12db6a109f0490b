-- "Energy and money", for one minute, one segment and one period: quarter kW-minutes, kWh and pence.
use Rattle.std.specs.Prelude.{ℕ, ◌+◌, ◌-◌, ◌*◌, ◌≤◌, ◌<◌, Bool, cond, List, eqb, ℤ, pos, ◌-ℤ◌, ◌*ℤ◌, length, get_or}
use Rattle.energy.specs.Lists.{sum, between}
use Rattle.energy.specs.Number.{nearest, lesser, floored, Within}

-- quarter kW-minutes that a steady minute expects
abbrev pub steady_quarters : ℕ → ℕ
steady_quarters kw = 4 * kw

-- quarter kW-minutes that a ramp minute expects
abbrev pub ramp_quarters : ℕ → ℕ
ramp_quarters kw = 2 * kw

-- quarter kW-minutes delivered in a minute with reading r over a base load of S, the sum of four readings: kind 0 a generator, 1 a demand reducer
abbrev pub delivers : ℕ → ℤ → ℤ → ℤ
delivers kind S r = cond (eqb kind 0) (pos 4 *ℤ r -ℤ S) (S -ℤ pos 4 *ℤ r)

-- the cell of a minute in meter memory
abbrev pub cell : List ℤ → ℕ → ℤ
cell meter m = get_or meter m (pos 0)

-- the minutes a to b − 1 are at most a period's, and each has a reading
pub record Readable (meter : List ℤ) (a b : ℕ) : Type 0 where
  pub order : a ≤ b
  pub short : b ≤ a + 30
  pub inside : b ≤ length meter
  pub read : (m : ℕ) → a ≤ m → m < b → Within 500000 (cell meter m)

-- what n minutes of one stage expect: steady, or on a ramp
unfoldable pub expected_in : ℕ → Bool → ℕ → ℕ
expected_in kw steady n = n * cond steady (steady_quarters kw) (ramp_quarters kw)

-- what the minutes a to b − 1 deliver over a base load of S
unfoldable pub delivered_in : ℕ → ℤ → List ℤ → ℕ → ℕ → ℤ
delivered_in kind S meter a b = sum (λ m. delivers kind S (cell meter m)) (between a b)

-- quarter kW-minutes as kWh, of which one has 240
abbrev pub kwh : ℤ → ℤ
kwh q = nearest q 240

-- a segment's capped kWh, from the kWh expected and delivered: the lesser, or 0 if that is below 0
abbrev pub capped : ℤ → ℤ → ℤ
capped expected delivered = floored (lesser expected delivered)

-- the pence for kWh at a rate in pence per MWh
abbrev pub payment : ℤ → ℕ → ℤ
payment k rate = nearest (k *ℤ pos rate) 1000

-- the pence of a paid period before rounding, in 200,000ths of a penny: contracted kW, availability rate, and P
abbrev pub period_parts : ℕ → ℕ → ℕ → ℕ
period_parts kw rate p = kw * rate * (100 - p)

-- 200,000ths of a penny as pence
abbrev pub pence_of_parts : ℕ → ℤ
pence_of_parts n = nearest (pos n) 200000
