-- Inner, and proved equal to the rules: live windows, as a table with a byte for each period: the number of the live window that it is in, from 1,
-- and 0 in none.
use Rattle.std.specs.Prelude.{◌≡◌, Bool, false, cond, not, ◌&&◌, ◌||◌, List, ℕ, zero, suc, ◌+◌, ◌/◌, ◌≤◌, ◌<◌, eqb, leb, ltb, length, get_or}
use Rattle.commands.specs.Input.{most_minute}
use Rattle.commands.specs.declared.entries.Instruction.{Instruction}
use Rattle.commands.specs.declared.entries.Window.{Window}
use Rattle.rules.specs.Ledger.{no_window}
use Rattle.settle_terms.specs.declared.Terms.{Terms}
use Rattle.settle_terms.specs.Terms.{cease_of}

-- every instruction ends in the month, and recovery and response are in their ranges
pub record Cleared (calls : List Instruction) (t : Terms) (recovery : ℕ) : Type 0 where
  pub few : length calls ≤ 64
  pub near : recovery + t.response.0 ≤ 1440
  pub small : (j : ℕ) → j < length calls → cease_of calls j + t.downminutes.0 ≤ most_minute

-- instruction j excludes a window that starts at start
abbrev pub excludes_at : List Instruction → Terms → ℕ → ℕ → ℕ → Bool
excludes_at calls t recovery start j =
    ltb (cease_of calls j + t.downminutes.0) start && ltb start (cease_of calls j + t.downminutes.0 + recovery + t.response.0)

-- one of the first n does
abbrev pub excluded_to : List Instruction → Terms → ℕ → ℕ → ℕ → Bool
excluded_to calls t recovery start zero = false
excluded_to calls t recovery start (suc n) = excluded_to calls t recovery start n || excludes_at calls t recovery start n

-- the ends of instructions, side by side
abbrev pub Ends : List Instruction → Terms → List ℕ → Type 0
Ends calls t ends = (j : ℕ) → j < length calls → get_or ends j 0 ≡ cease_of calls j + t.downminutes.0

-- by them one of the first n excludes a window that starts at start
abbrev pub past_to : List ℕ → Terms → ℕ → ℕ → ℕ → Bool
past_to ends t recovery start zero = false
past_to ends t recovery start (suc n) =
    past_to ends t recovery start n || (ltb (get_or ends n 0) start && ltb start (get_or ends n 0 + recovery + t.response.0))

-- a window is live: accepted, and excluded by no instruction
unfoldable pub is_live : List Instruction → Terms → ℕ → Window → Bool
is_live calls t recovery w = eqb w.verdict 0 && not (leb 1 recovery && excluded_to calls t recovery w.start.0 (length calls))

-- a table with v in the places from a to b − 1
pub record Marked (xs : List ℕ) (a b v : ℕ) (ys : List ℕ) : Type 0 where
  pub same : length ys ≡ length xs
  pub entry : (p : ℕ) → get_or ys p 0 ≡ cond (leb a p && ltb p b) v (get_or xs p 0)

-- place p of the table, which is period p + 1, is in the window
abbrev pub covers : Window → ℕ → Bool
covers w p = leb (w.start.0 / 30) p && ltb p (w.end.0 / 30)

-- the table with window w marked under a number, where it is live
pub record WindowMarked (w : Window) (v : ℕ) (shown : Bool) (live live' : List ℕ) : Type 0 where
  pub same : length live' ≡ length live
  pub period : (p : ℕ) → get_or live' p 0 ≡ cond (shown && covers w p) v (get_or live p 0)

-- nothing is marked
pub record Unmarked (xs : List ℕ) : Type 0 where
  pub none : (p : ℕ) → get_or xs p 0 ≡ 0

-- the number of the window among the first n that is live, by f, and has place p
abbrev pub number_to : (Window → Bool) → List Window → ℕ → ℕ → ℕ
number_to f ws zero p = 0
number_to f ws (suc n) p = cond (f (get_or ws n no_window) && covers (get_or ws n no_window) p) (suc n) (number_to f ws n p)

-- the table of live periods, of the first n windows
pub record LiveTable (f : Window → Bool) (ws : List Window) (n : ℕ) (live : List ℕ) : Type 0 where
  pub period : (p : ℕ) → get_or live p 0 ≡ number_to f ws n p

-- n windows that a table of so many periods has room for
pub record Windows (ws : List Window) (n size : ℕ) : Type 0 where
  pub few : n ≤ 128
  pub order : (i : ℕ) → i < n → (get_or ws i no_window).start.0 ≤ (get_or ws i no_window).end.0
  pub inside : (i : ℕ) → i < n → (get_or ws i no_window).end.0 / 30 ≤ size
