-- Inner, and proved equal to the rules: "The writer puts out ..": one command into lent bytes, from a position on.
use Rattle.std.specs.Prelude.{cond, List, ℕ, ◌+◌, leb, length, Result, Ok, Err}
use Rattle.energy.specs.Lists.{put_at}
use Rattle.rules.specs.File.{write}
use Rattle.commands.specs.declared.entries.Command.{Command}
use Rattle.commands.specs.declared.refusal.Refusal.{Refusal}
use Rattle.commands.specs.declared.refusal.Refusal.TheVariants.{NoRoom}

-- the position after what was written, or that there was no room; and the memory after it
pub record Wrote : Type 0 where
  pub answer : Result ℕ Refusal
  pub bytes : List ℕ

-- a command's bytes and the position after them; no change where the memory does not reach so far
unfoldable pub write_at : Command → List ℕ → ℕ → Wrote
write_at c m at =
    cond (leb (at + length (write c)) (length m))
    (record { answer = Ok (at + length (write c)); bytes = put_at (write c) m at })
    (record { answer = Err NoRoom; bytes = m })
