-- `book_sound::instructions_sound` meets its contract: at each turn what the rule says of all is what it says of those not yet seen.
use Rattle.std.proofs.Common.{◌≡◌, drop}
use Rattle.rules.specs.Reached.{instructions_sound}
use Rattle.book_sound.proofs.instructions.instructions_sound.Given as goal

abbrev pub invariant-loop-i : goal.invariant-loop-i
invariant-loop-i l = instructions_sound l.k l.span 0 l.instructions ≡ instructions_sound l.k l.span l.ready (drop l.i-index l.instructions)
