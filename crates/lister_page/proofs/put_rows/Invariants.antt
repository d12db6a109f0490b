-- The rows of the things passed are laid, and the next one goes behind them.
use Rattle.std.proofs.Common.{◌≡◌, ℕ, ◌+◌, ◌*◌, ◌≤◌, List, length, take}
use Rattle.energy.specs.Lists.{Laid}
use Rattle.lister_page.specs.Page.{rows_of}
use Rattle.lister_page.proofs.put_rows.Given as goal

abbrev pub invariant-loop-i : goal.invariant-loop-i
invariant-loop-i g l =
    record {
      near : l.place ≤ l.at + 128 * l.i;
      long : length l.out ≡ length l.initial.out;
      laid : (f : ℕ → _ → List ℕ) → ((n : ℕ) (x : _) (r : List ℕ) → goal.F-post g l.row n x r → r ≡ f n x)
          → Laid (rows_of f 1 (take l.i l.things)) l.initial.out l.at l.out l.place;
    }
