-- A command is put into memory where there is room for it.
use mathlib.Core.Path.{◌≡◌}
use mathlib.Core.List.{List}
use Rattle.std.specs.Prelude.{Ok, Err}
use Rattle.commands.specs.declared.refusal.Refusal.TheVariants.{NoRoom}
use Prim.Native.Nat.{ℕ, ◌+◌, ◌≤◌, ◌<◌}
use borrow.Author.Tests.{le-leb, lt-leb}
use lib.ListN.{length}
use Rattle.energy.specs.Lists.{put_at}
use Rattle.rules.specs.File.{write}
use Rattle.commands.specs.declared.entries.Command.{Command}
use Rattle.file_encode.specs.Write.{write_at}

module _ (c : Command) (m : List ℕ) (at : ℕ) where
  pub write_room : at + length (write c) ≤ length m → write_at c m at ≡ record { answer = Ok (at + length (write c)); bytes = put_at (write c) m at }
  unfolding write_at
  write_room h = rw (le-leb (at + length (write c)) (length m))

  pub write_none : length m < at + length (write c) → write_at c m at ≡ record { answer = Err NoRoom; bytes = m }
  unfolding write_at
  write_none h = rw (lt-leb (at + length (write c)) (length m))
