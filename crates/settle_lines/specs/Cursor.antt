-- Inner, and proved equal to the rules: a line from the numbers that settling holds, and the cursor that goes from segment to segment.
use Rattle.std.specs.Prelude.{◌≡◌, Bool, true, false, cond, not, ◌&&◌, ◌||◌, List, ℕ, zero, suc, ◌+◌, ◌-◌, ◌*◌, ◌/◌, ◌≤◌, ◌<◌, eqb, leb, ltb, ℤ, pos, nat_abs, ◌+ℤ◌, length, get_or, set}
use Rattle.energy.specs.Energy.{cell, kwh, capped, payment, expected_in, delivered_in}
use Rattle.energy.specs.Lists.{sum, between}
use Rattle.energy.specs.Number.{Upto, Within}
use Rattle.commands.specs.declared.entries.Instruction.{Instruction}
use Rattle.rules.specs.Segment.{period_of}
use Rattle.rules.specs.declared.statement.Line.{Line}
use Rattle.rules.specs.declared.statement.Rate.{Rate}
use Rattle.rules.specs.declared.statement.Rate.TheVariants.{Utilisation, Optional}
use Rattle.rules.specs.Cuts.{stage_at, cut_of}
use Rattle.settle_terms.specs.declared.Terms.{Terms}
use Rattle.settle_lines.specs.declared.cursor.Active.{Active}
use Rattle.settle_lines.specs.declared.cursor.Cursor.{Cursor}
use Rattle.settle_lines.specs.declared.cursor.Stepped.{Stepped}
use Rattle.settle_terms.specs.Terms.{issue_of, cease_of, period_places}

-- ---- a line

-- minute m is in a live window: its period is marked in the table of live periods
abbrev pub live_at : List ℕ → ℕ → Bool
live_at live m = not (eqb (get_or live (m / 30) 0) 0)

-- instruction j: its times, its base load, and whether its expiry and its last minute before cease are in live windows
unfoldable pub active_of : Terms → List Instruction → List ℕ → List ℤ → ℕ → Active
active_of t calls live meter j =
    record {
      expiry = record { 0 = issue_of calls j + t.response.0 };
      cease = record { 0 = cease_of calls j };
      end = record { 0 = cease_of calls j + t.downminutes.0 };
      base = sum (cell meter) (between (issue_of calls j - 3) (issue_of calls j + 1));
      early = live_at live (issue_of calls j + t.response.0);
      late = live_at live (cease_of calls j - 1);
    }

-- the rate of minute m of an instruction: by its own window, or by the one that pays for its ramp
unfoldable pub rate_by : Active → List ℕ → ℕ → Rate
rate_by a live m = cond ((live_at live m || (a.early && ltb m a.expiry.0)) || (a.late && leb a.cease.0 m)) Utilisation Optional

-- a rate's pence per MWh
abbrev pub price_by : Terms → Rate → ℕ
price_by t Utilisation = t.utilisation
price_by t Optional = t.optional

-- minute m is steady, between expiry e and cease c
abbrev pub steady_at : ℕ → ℕ → ℕ → Bool
steady_at e c m = leb e m && ltb m c

-- the line of the minutes m to n − 1 of instruction j
unfoldable pub line_by : Terms → Active → List ℕ → List ℤ → ℕ → ℕ → ℕ → Line
line_by t a live meter j m n =
    let r : Rate = rate_by a live m in
    let x : ℤ = kwh (pos (expected_in (nat_abs t.kw.0) (steady_at a.expiry.0 a.cease.0 m) (n - m))) in
    let d : ℤ = kwh (delivered_in t.kind a.base meter m n) in
    record {
      instruction = j + 1;
      period = period_of m;
      stage = stage_at a.expiry.0 a.cease.0 m;
      rate = r;
      expected = record { 0 = x };
      delivered = record { 0 = d };
      capped = record { 0 = capped x d };
      pence = record { 0 = payment (capped x d) (price_by t r) };
    }

-- ---- the cursor

-- one of two cursors
abbrev pub either : Bool → Cursor → Cursor → Cursor
either true a b = a
either false a b = b

-- the cursor at the start of its instruction, if there is one
unfoldable pub enter_of : Terms → List Instruction → List ℕ → List ℤ → Cursor → Cursor
enter_of t calls live meter c =
    either (ltb c.at (length calls))
    (record {
      at = c.at;
      minute = record { 0 = (active_of t calls live meter c.at).expiry.0 - t.upminutes.0 };
      active = active_of t calls live meter c.at;
      capped = c.capped;
      pence = c.pence;
    })
    c

-- the cursor at minute m of instruction j, with a line's energy and money added
abbrev pub moved : Cursor → ℕ → ℕ → Line → Cursor
moved c j m l =
    record {
      at = j;
      minute = record { 0 = m };
      active = c.active;
      capped = record { 0 = c.capped.0 +ℤ l.capped.0 };
      pence = record { 0 = c.pence.0 +ℤ l.pence.0 };
    }

-- the end of the segment at the cursor
abbrev pub cut_by : Cursor → ℕ
cut_by c = cut_of c.active.expiry.0 c.active.cease.0 c.active.end.0 c.minute.0

-- the line at the cursor, and the cursor after it
unfoldable pub step_of : Terms → List Instruction → List ℕ → List ℤ → Cursor → Stepped
step_of t calls live meter c =
    let l : Line = line_by t c.active live meter c.at c.minute.0 (cut_by c) in
    record {
      line = l;
      next =
          either (ltb (cut_by c) c.active.end.0) (moved c c.at (cut_by c) l)
          (enter_of t calls live meter (moved c (c.at + 1) (cut_by c) l));
    }

-- before the first instruction
abbrev pub start_of : Cursor
start_of =
    record {
      at = 0;
      minute = record { 0 = 0 };
      active =
          record {
            expiry = record { 0 = 0 };
            cease = record { 0 = 0 };
            end = record { 0 = 0 };
            base = pos 0;
            early = false;
            late = false;
          };
      capped = record { 0 = pos 0 };
      pence = record { 0 = pos 0 };
    }

-- the cursor before line n, from 0
abbrev pub cursor_at : Terms → List Instruction → List ℕ → List ℤ → ℕ → Cursor
cursor_at t calls live meter zero = enter_of t calls live meter start_of
cursor_at t calls live meter (suc n) = (step_of t calls live meter (cursor_at t calls live meter n)).next

-- line n, from 0
abbrev pub stepped_line : Terms → List Instruction → List ℕ → List ℤ → ℕ → Line
stepped_line t calls live meter n = (step_of t calls live meter (cursor_at t calls live meter n)).line

-- the first n lines of f in the first n records, and the records after them as they were
abbrev pub stored : (ℕ → Line) → ℕ → List Line → List Line
stored f zero ys = ys
stored f (suc n) ys = set (stored f n ys) n (f n)

-- ---- what the cursor takes for granted

-- instruction j: in the month, in the table of live periods and in meter memory, with a reading in each needed minute
pub record Planned (t : Terms) (calls : List Instruction) (live : List ℕ) (meter : List ℤ) (j : ℕ) : Type 0 where
  pub ramp : (1 ≤ t.upminutes.0) × (t.upminutes.0 ≤ t.response.0)
  pub three : 3 ≤ issue_of calls j
  pub steady : issue_of calls j + t.response.0 ≤ cease_of calls j
  pub inside : cease_of calls j + t.downminutes.0 ≤ length meter
  pub periods : cease_of calls j + t.downminutes.0 < 30 * length live
  pub base : (m : ℕ) → issue_of calls j - 3 ≤ m → m < issue_of calls j + 1 → Within 500000 (cell meter m)
  pub read : (m : ℕ) → issue_of calls j + t.response.0 - t.upminutes.0 ≤ m → m < cease_of calls j + t.downminutes.0 → Within 500000 (cell meter m)

-- every instruction, one after the other, and the contract's figures in their ranges
pub record Plan (t : Terms) (calls : List Instruction) (live : List ℕ) (meter : List ℤ) : Type 0 where
  pub kw : Upto 500000 t.kw.0
  pub utilisation : t.utilisation ≤ 1000000
  pub optional : t.optional ≤ 1000000
  pub response : t.response.0 ≤ 240
  pub down : t.downminutes.0 ≤ 240
  pub few : length calls ≤ 64
  pub fits : length live ≤ period_places
  pub each : (j : ℕ) → j < length calls → Planned t calls live meter j
  pub order : (j : ℕ) → j + 1 < length calls → cease_of calls j + t.downminutes.0 ≤ issue_of calls (j + 1)

-- a segment is at the cursor, and the sums so far are no larger than its minute lets them be
pub record Ready (t : Terms) (calls : List Instruction) (live : List ℕ) (meter : List ℤ) (c : Cursor) : Type 0 where
  pub more : c.at < length calls
  pub active : c.active ≡ active_of t calls live meter c.at
  pub begun : issue_of calls c.at + t.response.0 - t.upminutes.0 ≤ c.minute.0
  pub before : c.minute.0 < cease_of calls c.at + t.downminutes.0
  pub capped : Within (500000 * c.minute.0) c.capped.0
  pub pence : Within (500000000 * c.minute.0) c.pence.0
