-- "Energy and money": a segment's two sums and its line, paid periods and P, the statement, the exact sums, and when settling is turned down.
use Rattle.std.specs.Prelude.{Bool, not, ◌&&◌, ◌||◌, cond, List, [], ◌∷◌, ◌++◌, map, ℕ, ◌+◌, ◌-◌, ◌*◌, ◌/◌, ◌≤◌, min, ℤ, pos, nat_abs, ◌+ℤ◌, ◌-ℤ◌, ◌*ℤ◌, eqb, leb, ltb, length, replicate}
use Rattle.std.proofs.Math.Option.{Option}
use Rattle.energy.specs.Lists.{any, filter, count, sum, sum_ℕ, between}
use Rattle.energy.specs.Energy.{steady_quarters, ramp_quarters, delivers, kwh, capped, payment, period_parts, pence_of_parts}
use Rattle.rules.specs.Ledger.{Ledger, kw_in, contract_of, cells_in, within}
use Rattle.commands.specs.Input.{kw_of, Condition, ◌when◌, first_met}
use Rattle.rules.specs.Segment.{period_of, base_minutes, complete, stage_of, live, rate_at, price, Segment, segments}
use Rattle.commands.specs.declared.contract.Contract.{Contract}
use Rattle.commands.specs.declared.entries.Window.{Window}
use Rattle.commands.specs.declared.entries.Instruction.{Instruction}
use Rattle.commands.specs.declared.entries.Default.{Default}
use Rattle.rules.specs.declared.statement.Stage.{Stage}
use Rattle.rules.specs.declared.statement.Stage.TheVariants.{Up, Steady, Down}
use Rattle.rules.specs.declared.statement.Rate.{Rate}
use Rattle.rules.specs.declared.statement.Line.{Line}
use Rattle.rules.specs.declared.statement.Available.{Available}
use Rattle.rules.specs.declared.statement.Statement.{Statement}

-- ---- a segment's two sums, in quarter kW-minutes

-- what a minute of a stage expects
abbrev pub expects : Contract → Stage → ℤ
expects k Up = pos (ramp_quarters (kw_of k))
expects k Steady = pos (steady_quarters (kw_of k))
expects k Down = pos (ramp_quarters (kw_of k))

-- the reading of a minute that has one
unfoldable pub reads : Ledger → ℕ → ℤ
reads g m = kw_in (g.reading m)

-- S: the sum of an instruction's four base readings
unfoldable pub base_load : Ledger → Instruction → ℤ
base_load g i = sum (reads g) (base_minutes i)

-- what a segment expects
unfoldable pub expected_of : Ledger → Segment → ℤ
expected_of g s = sum (λ m. expects (contract_of g) (stage_of (contract_of g) s.instruction m)) s.minutes

-- what a segment delivers
unfoldable pub delivered_of : Ledger → Segment → ℤ
delivered_of g s =
    let S : ℤ = base_load g s.instruction in
    sum (λ m. delivers (contract_of g).kind S (reads g m)) s.minutes

-- ---- lines

-- the line of a segment
unfoldable pub line_of : Ledger → Segment → Line
line_of g s =
    let r : Rate = rate_at g s.instruction s.head in
    let x : ℤ = kwh (expected_of g s) in
    let d : ℤ = kwh (delivered_of g s) in
    record {
      instruction = s.number;
      period = period_of s.head;
      stage = stage_of (contract_of g) s.instruction s.head;
      rate = r;
      expected = record { 0 = x };
      delivered = record { 0 = d };
      capped = record { 0 = capped x d };
      pence = record { 0 = payment (capped x d) (price (contract_of g) r) };
    }

-- the lines of a statement
unfoldable pub lines : Ledger → List Line
lines g = map (line_of g) (segments g)

-- ---- paid periods

-- default d reaches period p of its window: 1 its own period, 2 the whole window, 3 from its period on
abbrev pub reaches : Default → ℕ → Bool
reaches d p =
    eqb d.reach 2 || (eqb d.reach 1 && eqb p (period_of d.minute.0))
    || (eqb d.reach 3 && leb (period_of d.minute.0) p)

-- no default reaches period p of window w
unfoldable pub paid : Ledger → Window → ℕ → Bool
paid g w p = not (any (λ d. within w d.minute.0 && reaches d p) g.defaults)

-- the periods of a window
abbrev pub periods_of : Window → List ℕ
periods_of w = between (w.start.0 / 30 + 1) (w.end.0 / 30 + 1)

-- the paid periods of a window: none unless it is live
unfoldable pub paid_periods : Ledger → Window → List ℕ
paid_periods g w = cond (live g w) (filter (paid g w) (periods_of w)) []

-- P: the live windows with a default of kind 1, 2 or 3, at most 30
unfoldable pub penalty : Ledger → ℕ
penalty g =
    min 30
    (count (λ w. live g w && any (λ d. leb d.kind 3 && within w d.minute.0) g.defaults) g.windows)

-- the pence of a paid period before rounding, in 200,000ths of a penny
unfoldable pub period_exact : Ledger → ℕ
period_exact g = period_parts (kw_of (contract_of g)) (contract_of g).availability (penalty g)

-- the pence of a paid period
unfoldable pub period_pence : Ledger → ℤ
period_pence g = pence_of_parts (period_exact g)

-- the entry of a window: its paid periods and their pence
unfoldable pub available_of : Ledger → Window → Available
available_of g w =
    let n : ℕ = length (paid_periods g w) in
    record { periods = n; pence = record { 0 = pos n *ℤ period_pence g } }

-- the entry of a place where no window was entered
abbrev pub nothing : Available
nothing = record { periods = 0; pence = record { 0 = pos 0 } }

-- the entries of the windows entered
unfoldable pub windows_paid : Ledger → List Available
windows_paid g = map (available_of g) g.windows

-- ---- the statement

-- the number of lines, the totals, and an entry for each of the 128 places for a window
unfoldable pub statement_of : Ledger → Statement
statement_of g =
    let u : ℤ = sum (λ (l : Line). l.pence.0) (lines g) in
    let a : ℤ = sum (λ (v : Available). v.pence.0) (windows_paid g) in
    record {
      lines = length (lines g);
      capped = record { 0 = sum (λ (l : Line). l.capped.0) (lines g) };
      utilisation = record { 0 = u };
      availability = record { 0 = a };
      total = record { 0 = u +ℤ a };
      windows = windows_paid g ++ replicate (128 - length g.windows) nothing;
    }

-- ---- the exact sums: the same segments, rates, periods and P, without rounding

-- a segment's exact energy, in 240ths of a kWh
unfoldable pub exact_of : Ledger → Segment → ℤ
exact_of g s = capped (expected_of g s) (delivered_of g s)

-- the pence per MWh of a segment
abbrev pub rate_of : Ledger → Segment → ℕ
rate_of g s = price (contract_of g) (rate_at g s.instruction s.head)

-- the exact sum of energy, in 240ths of a kWh
unfoldable pub exact_energy : Ledger → ℤ
exact_energy g = sum (exact_of g) (segments g)

-- the number of paid periods
unfoldable pub paid_count : Ledger → ℕ
paid_count g = sum_ℕ (λ (w : Window). length (paid_periods g w)) g.windows

-- the exact amount, in 1,200,000ths of a penny: exact energy × rate / (240 × 1,000), and a paid period's 200,000ths
unfoldable pub exact_amount : Ledger → ℤ
exact_amount g = sum (λ s. pos 5 *ℤ (exact_of g s *ℤ pos (rate_of g s))) (segments g) +ℤ pos (6 * (paid_count g * period_exact g))

-- half a penny for each line and each paid period, and half a kWh for each line at its rate, in 1,200,000ths of a penny
unfoldable pub allowance : Ledger → List Line → ℕ
allowance g ls = 600000 * (length ls + paid_count g) + sum_ℕ (λ (l : Line). 600 * price (contract_of g) l.rate) ls

-- a and b differ by at most d
abbrev pub Differ : ℤ → ℤ → ℕ → Type 0
Differ a b d = nat_abs (a -ℤ b) ≤ d

-- ---- when settling is turned down: size and room are the lengths of meter and line memory

-- what settling meets. unsound: no list of commands leaves the book
unfoldable pub settle_conditions : Bool → ℕ → ℕ → Ledger → List Condition
settle_conditions unsound size room g =
    (11 when unsound)
    ∷ (15 when ltb size (cells_in g))
    ∷ (24 when not g.closed)
    ∷ (25 when not (complete g))
    ∷ (26 when ltb room (length (segments g)))
    ∷ []

-- the number under which settling is turned down, if it is
unfoldable pub settle_refusal : Bool → ℕ → ℕ → Ledger → Option ℕ
settle_refusal unsound size room g = first_met (settle_conditions unsound size room g)
