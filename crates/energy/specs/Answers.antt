-- Inner, and proved equal to the rules: "When a command or call is turned down": what the calls of this crate that take any numbers answer, a value
-- or the refusal. They meet 3 alone, a number outside its range.
use Rattle.std.specs.Prelude.{Bool, ◌&&◌, cond, ℕ, leb, ℤ, pos, neg_ℤ, nat_abs, Result, Ok, Err}
use Rattle.std.specs.Int.Signed.{le_z}
use Rattle.energy.specs.Energy.{payment, pence_of_parts, period_parts}
use Rattle.energy.specs.Number.{nearest}
use Rattle.energy.specs.declared.limits.OutOfRange.{OutOfRange}
use Rattle.energy.specs.declared.units.Pence.{Pence}

-- the largest contracted kW, and the largest rate
abbrev pub most_kw : ℕ
most_kw = 500000

abbrev pub most_rate : ℕ
most_rate = 1000000

-- the largest P
abbrev pub most_p : ℕ
most_p = 30

-- the most kWh of a segment, either way: 30 minutes, each at most 500,000 kW from a base load that is at most 500,000 kW on the other side of 0. No operand
-- gives kWh, so that the paper states no range of them
abbrev pub most_kwh : ℕ
most_kwh = 500000

-- the number under which one outside its range is refused
abbrev pub out_of_range : ℕ
out_of_range = 3

-- what is asked, where the numbers are inside their ranges
abbrev pub inside_only : {A : Type 0} → Bool → A → Result A OutOfRange
inside_only inside a = cond inside (Ok a) (Err (record {}))

-- n / d to the nearest: a divisor is from 1
unfoldable pub rounded : ℤ → ℕ → Result ℤ OutOfRange
rounded n d = inside_only (leb 1 d) (nearest n d)

-- the pence for k kWh at a rate: kWh that a segment can have, and a rate that a contract can have
unfoldable pub paid_for : ℤ → ℕ → Result Pence OutOfRange
paid_for k rate =
    inside_only (le_z (neg_ℤ (pos most_kwh)) k && le_z k (pos most_kwh) && leb rate most_rate) (record { 0 = payment k rate })

-- the pence of a period: kW from 0 to the largest contract's, a rate that a contract can have, and P to its limit
unfoldable pub paid_for_period : ℤ → ℕ → ℕ → Result Pence OutOfRange
paid_for_period kw rate p =
    inside_only (le_z (pos 0) kw && le_z kw (pos most_kw) && leb rate most_rate && leb p most_p)
    (record { 0 = pence_of_parts (period_parts (nat_abs kw) rate p) })
