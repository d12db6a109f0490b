-- What is answered: taken, or refused under a number; and what a reader finds at a position.
use Rattle.std.specs.Prelude.{ℕ, Option, Some, None, Result, Ok, Err}
use Rattle.commands.specs.Refusals.{refusal_of}
use Rattle.commands.specs.declared.entries.Command.{Command}
use Rattle.commands.specs.declared.refusal.Refusal.{Refusal}

abbrev pub Answer : Type 0
Answer = Result (Unit {0}) Refusal

pattern abbrev pub Taken : Answer
Taken = Ok tt

abbrev pub Refused : ℕ → Answer
Refused n = Err (refusal_of n)

abbrev pub Read : Type 0
Read = Result (Option (Command × ℕ)) Refusal

-- a command, and the position after it
pattern abbrev pub Got : Command → ℕ → Read
Got c next = Ok (Some (c, next))

pattern abbrev pub End : Read
End = Ok None
