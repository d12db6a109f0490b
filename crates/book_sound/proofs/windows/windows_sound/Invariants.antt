-- `book_sound::windows_sound` meets its contract: at each turn what the rule says of all is what it says of those not yet seen.
use Rattle.std.proofs.Common.{◌≡◌, drop}
use Rattle.rules.specs.Reached.{windows_sound}
use Rattle.book_sound.proofs.windows.windows_sound.Given as goal

abbrev pub invariant-loop-w : goal.invariant-loop-w
invariant-loop-w l = windows_sound l.k l.span 0 l.windows ≡ windows_sound l.k l.span l.end.0 (drop l.w-index l.windows)
