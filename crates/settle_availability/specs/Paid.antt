-- Inner, and proved equal to the rules: paid periods, P and the entries of the windows, over the table of live periods. Each default is gone through
-- once: it marks the periods that it reaches, and its window where it counts for P.
use Rattle.std.specs.Prelude.{◌≡◌, Bool, false, cond, not, ◌&&◌, ◌||◌, List, ℕ, zero, suc, ◌+◌, ◌-◌, ◌*◌, ◌/◌, ◌≤◌, ◌<◌, min, eqb, leb, ltb, pos, nat_abs, length, get_or, set, replicate}
use Rattle.commands.specs.Input.{from_to, most_minute}
use Rattle.energy.specs.Energy.{period_parts, pence_of_parts}
use Rattle.energy.specs.Lists.{count, between}
use Rattle.rules.specs.Statement.{nothing}
use Rattle.commands.specs.declared.entries.Default.{Default}
use Rattle.commands.specs.declared.entries.Window.{Window}
use Rattle.rules.specs.declared.statement.Available.{Available}
use Rattle.rules.specs.Ledger.{no_default, no_window}
use Rattle.settle_availability.specs.declared.paid.Entries.{Entries}

-- ---- defaults

-- the number of the live window that a default is in, from 1, and 0 in none
abbrev pub window_number_of : List ℕ → Default → ℕ
window_number_of live d = get_or live (d.minute.0 / 30) 0

-- the window of a default that is in a live one
abbrev pub window_of : List ℕ → List Window → Default → Window
window_of live ws d = get_or ws (window_number_of live d - 1) no_window

-- the first place that a default in window w reaches: its own period's, or the window's
abbrev pub reach_from : Window → Default → ℕ
reach_from w d = cond (eqb d.reach 2) (w.start.0 / 30) (d.minute.0 / 30)

-- the place after the last: after its own period's, or at the window's end; its own, so that none is reached, with no known reach
abbrev pub reach_to : Window → Default → ℕ
reach_to w d = cond (eqb d.reach 1) (d.minute.0 / 30 + 1) (cond (from_to 2 3 d.reach) (w.end.0 / 30) (d.minute.0 / 30))

-- a default reaches place p, which is period p + 1: it is in a live window, and the place is in its reach
abbrev pub reaches_place : List ℕ → List Window → Default → ℕ → Bool
reaches_place live ws d p =
    not (eqb (window_number_of live d) 0) && (leb (reach_from (window_of live ws d) d) p && ltb p (reach_to (window_of live ws d) d))

-- a default counts for P in window i, from 0: it is in it, and of kind 1, 2 or 3
abbrev pub counts_in : List ℕ → Default → ℕ → Bool
counts_in live d i = from_to 1 3 d.kind && eqb (window_number_of live d) (suc i)

-- one of the first n defaults reaches place p
abbrev pub reached_to : List ℕ → List Window → List Default → ℕ → ℕ → Bool
reached_to live ws ds zero p = false
reached_to live ws ds (suc n) p = reached_to live ws ds n p || reaches_place live ws (get_or ds n no_default) p

-- one of the first n defaults counts for P in window i
abbrev pub counted_to : List ℕ → List Default → ℕ → ℕ → Bool
counted_to live ds zero i = false
counted_to live ds (suc n) i = counted_to live ds n i || counts_in live (get_or ds n no_default) i

-- a default's window is among the windows, and the places that it reaches are in a table of size places
pub record Placed (live : List ℕ) (ws : List Window) (size : ℕ) (d : Default) : Type 0 where
  pub inside : d.minute.0 / 30 < length live
  pub number : window_number_of live d ≤ length ws
  pub order : 0 < window_number_of live d → reach_from (window_of live ws d) d ≤ reach_to (window_of live ws d) d
  pub room : 0 < window_number_of live d → reach_to (window_of live ws d) d ≤ size

-- a place of a table is marked
abbrev pub marked : List Bool → ℕ → Bool
marked xs p = get_or xs p false

-- nothing is marked
pub record NoneMarked (xs : List Bool) : Type 0 where
  pub none : (p : ℕ) → marked xs p ≡ false

-- the tables of reached periods and of counted windows once default d has marked them
pub record DefaultMarked (live : List ℕ) (ws : List Window) (d : Default) (reached reached' counted counted' : List Bool) : Type 0 where
  pub same : (length reached' ≡ length reached) × (length counted' ≡ length counted)
  pub period : (p : ℕ) → marked reached' p ≡ (marked reached p || reaches_place live ws d p)
  pub window : (i : ℕ) → marked counted' i ≡ (marked counted i || counts_in live d i)

-- the tables once the first n defaults have
pub record DefaultsMarked (live : List ℕ) (ws : List Window) (ds : List Default) (n : ℕ) (reached counted : List Bool) : Type 0 where
  pub period : (p : ℕ) → marked reached p ≡ reached_to live ws ds n p
  pub window : (i : ℕ) → marked counted i ≡ counted_to live ds n i

-- ---- P, and the entries

-- P, from whether window i is counted, of n windows
abbrev pub penalty_by : (ℕ → Bool) → ℕ → ℕ
penalty_by counted n = min 30 (count counted (between 0 n))

-- the places from a to b − 1 that are not reached
abbrev pub paid_in : (ℕ → Bool) → ℕ → ℕ → ℕ
paid_in reached a b = count (λ p. not (reached p)) (between a b)

-- the paid periods of window i: none unless it is live, which its number at its first place shows
abbrev pub paid_periods_by : List ℕ → (ℕ → Bool) → Window → ℕ → ℕ
paid_periods_by live reached w i =
    cond (eqb (get_or live (w.start.0 / 30) 0) (suc i)) (paid_in reached (w.start.0 / 30) (w.end.0 / 30)) 0

-- the entry of n paid periods, at so many pence each
unfoldable pub entry_of : ℕ → ℕ → Available
entry_of n each = record { periods = n; pence = record { 0 = pos (n * each) } }

-- the entry of window i
abbrev pub entry_by : List ℕ → (ℕ → Bool) → ℕ → Window → ℕ → Available
entry_by live reached each w i = entry_of (paid_periods_by live reached w i) each

-- the entries of the first n windows, and nothing in the places after them
abbrev pub entries_to : List ℕ → (ℕ → Bool) → ℕ → List Window → ℕ → List Available
entries_to live reached each ws zero = replicate 128 nothing
entries_to live reached each ws (suc n) =
    set (entries_to live reached each ws n) n (entry_by live reached each (get_or ws n no_window) n)

-- the paid periods of the first n windows
abbrev pub periods_to : List ℕ → (ℕ → Bool) → List Window → ℕ → ℕ
periods_to live reached ws zero = 0
periods_to live reached ws (suc n) = periods_to live reached ws n + paid_periods_by live reached (get_or ws n no_window) n

-- the entries, and the pence of all their periods
unfoldable pub entries_by : List ℕ → (ℕ → Bool) → ℕ → List Window → ℕ → Entries
entries_by live reached each ws n =
    record { windows = entries_to live reached each ws n; pence = record { 0 = pos (periods_to live reached ws n * each) } }

-- the pence of a paid period at n windows and d defaults
unfoldable pub each_by : List ℕ → ℕ → List Default → ℕ → ℕ → ℕ → ℕ
each_by live n ds d kw rate = nat_abs (pence_of_parts (period_parts kw rate (penalty_by (counted_to live ds d) n)))

-- the availability of n windows with d defaults
unfoldable pub availability_by : List ℕ → List Window → ℕ → List Default → ℕ → ℕ → ℕ → Entries
availability_by live ws n ds d kw rate = entries_by live (reached_to live ws ds d) (each_by live n ds d kw rate) ws n

-- each window lies in the month, in order
pub record Spans (ws : List Window) (n : ℕ) : Type 0 where
  pub few : n ≤ 128
  pub order : (i : ℕ) → i < n → (get_or ws i no_window).start.0 < (get_or ws i no_window).end.0
  pub inside : (i : ℕ) → i < n → (get_or ws i no_window).end.0 ≤ most_minute
