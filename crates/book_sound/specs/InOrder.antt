-- Inner, and proved equal to the rules: windows in order.
use Rattle.std.specs.Prelude.{List, ℕ, ◌≤◌, ◌<◌, length, get_or}
use Rattle.commands.specs.declared.entries.Window.{Window}
use Rattle.rules.specs.Ledger.{no_window}

-- each window is some minutes long, from minute e on, and from the end of every one before it on
pub record WindowsInOrder (e : ℕ) (ws : List Window) : Type 0 where
  pub some : (i : ℕ) → i < length ws → (get_or ws i no_window).start.0 < (get_or ws i no_window).end.0
  pub after : (i : ℕ) → i < length ws → e ≤ (get_or ws i no_window).start.0
  pub apart : (i j : ℕ) → i < j → j < length ws → (get_or ws i no_window).end.0 ≤ (get_or ws j no_window).start.0
