-- Inner, and for hosts, proved equal to the rules: the totals after one more active minute, from its reading, the totals before it and the month's numbers.
use Rattle.std.specs.Prelude.{Bool, cond, not, ◌&&◌, ◌||◌, List, ℕ, ◌+◌, ◌-◌, ◌*◌, ◌%◌, eqb, leb, ltb, ℤ, pos, neg_ℤ, ◌+ℤ◌, length, Option, Some, None, Result, Ok, Err}
use Rattle.energy.specs.Energy.{cell, steady_quarters, ramp_quarters, delivers, kwh, capped, payment}
use Rattle.energy.specs.Lists.{sum, between, all}
use Rattle.commands.specs.Input.{from_to, from_to_ℤ, is_reading}
use Rattle.commands.specs.declared.entries.Reading.{Reading}
use Rattle.watch_step.specs.Month.{month_numbers, kw_at, kind_at, utilisation_at, optional_at, count_at, start_at, expiry_at, cease_at, end_at, live_at}
use Rattle.watch_step.specs.declared.totals.Totals.{Totals}
use Rattle.watch_step.specs.declared.step.NotStepped.{NotStepped}
use Rattle.watch_step.specs.declared.step.NotStepped.TheVariants.{Unfit, NoInstruction, NotNext, NoReading}

-- ---- what a step asks

-- z is from −n to n
abbrev pub about : ℕ → ℤ → Bool
about n z = from_to_ℤ (neg_ℤ (pos n)) (pos n) z

-- the month has all its numbers, and its figures are in their ranges
unfoldable pub month_fits : List ℕ → Bool
month_fits month =
    leb month_numbers (length month) && leb (kw_at month) 500000 && leb (utilisation_at month) 1000000 && leb (optional_at month) 1000000
    && leb (count_at month) 64

-- the totals are no larger than so many minutes of a period, and of the month, let them be
unfoldable pub totals_fit : Totals → Bool
totals_fit s =
    about 2000000 s.base && from_to_ℤ (pos 0) (pos (2000000 * (s.minute.0 % 30 + 1))) s.expected
    && about (4000000 * (s.minute.0 % 30 + 1)) s.delivered
    && about (500000 * (s.minute.0 + 1)) s.capped.0
    && about (500000000 * (s.minute.0 + 1)) s.pence.0

-- the month has an instruction n, from 1
abbrev pub is_there : List ℕ → ℕ → Bool
is_there month n = from_to 1 (count_at month) n

-- the instruction of the last step is over, or there was none
abbrev pub over : List ℕ → Totals → Bool
over month s = eqb s.instruction 0 || eqb (s.minute.0 + 1) (end_at month s.instruction)

-- minute m of instruction n is the next active one: the minute after the last step's, or the first of the instruction after one that is over
unfoldable pub is_next : List ℕ → Totals → ℕ → ℕ → Bool
is_next month s n m =
    ltb m (end_at month n)
    && cond (eqb n s.instruction) (eqb m (s.minute.0 + 1)) (eqb n (s.instruction + 1) && eqb m (start_at month n) && over month s)

-- four base readings
unfoldable pub are_base : List ℤ → Bool
are_base base = eqb (length base) 4 && all (λ j. is_reading (cell base j)) (between 0 4)

-- the reading is in its range, and four base readings are given where the instruction is a new one
abbrev pub are_readings : Bool → ℤ → List ℤ → Bool
are_readings new kw base = is_reading kw && (not new || are_base base)

-- why a step is not taken, if it is not: of month and totals, instruction, minute and readings the first that does not fit decides
unfoldable pub answer_to : List ℕ → Totals → ℕ → Reading → List ℤ → Option NotStepped
answer_to month s n r base =
    cond (month_fits month && totals_fit s)
    (cond (is_there month n)
    (cond (is_next month s n r.minute.0) (cond (are_readings (not (eqb n s.instruction)) r.kw.0 base) None (Some NoReading)) (Some NotNext)) (Some NoInstruction))
    (Some Unfit)

-- ---- what a minute adds

-- minute m of instruction n is the first of a period or of a stage, or f: a segment does not go on into it
unfoldable pub cut_before : List ℕ → ℕ → ℕ → Bool
cut_before month n m = eqb (m % 30) 0 || eqb m (expiry_at month n) || eqb m (cease_at month n) || eqb m (end_at month n)

-- what minute m of instruction n expects, in quarter kW-minutes
unfoldable pub expects_at : List ℕ → ℕ → ℕ → ℤ
expects_at month n m =
    pos (cond (leb (expiry_at month n) m && ltb m (cease_at month n)) (steady_quarters (kw_at month)) (ramp_quarters (kw_at month)))

-- the pence per MWh of minute m of instruction n: its own window or that of its ramp decides
unfoldable pub price_at : List ℕ → ℕ → ℕ → ℕ
price_at month n m =
    cond
    ((live_at month m || (ltb m (expiry_at month n) && live_at month (expiry_at month n)))
    || (leb (cease_at month n) m && live_at month (cease_at month n - 1)))
    (utilisation_at month)
    (optional_at month)

-- S: of a new instruction its four base readings, else as it was
abbrev pub base_now : Bool → Totals → List ℤ → ℤ
base_now new s base = cond new (sum (cell base) (between 0 4)) s.base

-- the totals with a minute's two numbers: into sums begun anew where a segment begins, and as a line where it is its segment's last
unfoldable pub advanced : List ℕ → Bool → Totals → ℕ → ℕ → ℤ → ℤ → Totals
advanced month new s n m kw S =
    let fresh : Bool = new || cut_before month n m in
    let ends : Bool = cut_before month n (m + 1) in
    let x : ℤ = cond fresh (pos 0) s.expected +ℤ expects_at month n m in
    let d : ℤ = cond fresh (pos 0) s.delivered +ℤ delivers (kind_at month) S kw in
    let c : ℤ = capped (kwh x) (kwh d) in
    record {
      instruction = n;
      minute = record { 0 = m };
      base = S;
      expected = x;
      delivered = d;
      capped = record { 0 = s.capped.0 +ℤ cond ends c (pos 0) };
      pence = record { 0 = s.pence.0 +ℤ cond ends (payment c (price_at month n m)) (pos 0) };
    }

-- ---- a step

-- the totals before the first step: zeros
abbrev pub no_totals : Totals
no_totals =
    record {
      instruction = 0;
      minute = record { 0 = 0 };
      base = pos 0;
      expected = pos 0;
      delivered = pos 0;
      capped = record { 0 = pos 0 };
      pence = record { 0 = pos 0 };
    }

-- the totals after a minute that is taken, or why it is not
abbrev pub stepped_by : Option NotStepped → Totals → Result Totals NotStepped
stepped_by None after = Ok after
stepped_by (Some e) after = Err e

-- one step: what `step` promises
unfoldable pub step_of : List ℕ → Totals → ℕ → Reading → List ℤ → Result Totals NotStepped
step_of month s n r base =
    let new : Bool = not (eqb n s.instruction) in
    stepped_by (answer_to month s n r base) (advanced month new s n r.minute.0 r.kw.0 (base_now new s base))

-- the totals after a step: as they were where it is not taken
abbrev pub totals_after : Totals → Result Totals NotStepped → Totals
totals_after before (Ok after) = after
totals_after before (Err e) = before

-- ---- the numbers of answers

-- the number of a step that is not taken: from 101 on, above every refusal's
abbrev pub refused_number : NotStepped → ℕ
refused_number Unfit = 101
refused_number NoInstruction = 102
refused_number NotNext = 103
refused_number NoReading = 104

-- the number that a step is answered with: 0 where it is taken
abbrev pub step_number : Result Totals NotStepped → ℕ
step_number (Ok after) = 0
step_number (Err e) = refused_number e
