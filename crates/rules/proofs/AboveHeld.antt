-- A revision that is taken is above the one that the minute holds.
use mathlib.Core.Path.{◌≡◌}
use mathlib.Core.Bool.{false}
use mathlib.Core.Option.{some}
use Prim.Native.Nat.{ℕ, ◌<◌}
use borrow.Author.Tests.{leb-false}
use Rattle.rules.specs.Ledger.{Metered}
use Rattle.rules.specs.Refusal.{not_above}

pub above_held : (n : ℕ) (x : Metered) → not_above n (some x) ≡ false → x.revision < n
above_held n x e = leb-false n x.revision e
