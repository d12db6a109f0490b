-- Inner, and proved equal to the rules: "The reader carries the unit file's bytes and its position": what a reader finds, and where it stands after it.
use Rattle.std.specs.Prelude.{List, ℕ, Err}
use Rattle.rules.specs.File.{read_at}
use Rattle.file_read.specs.declared.reader.Step.{Step}
use Rattle.rules.specs.Answer.{Read, Got, End}

-- the position after a read: past a command; after 1 or 2, and at the end, it has not moved
abbrev pub position_after : Read → ℕ → ℕ
position_after (Got c next) at = next
position_after (Err r) at = at
position_after End at = at

-- a reader's step from a position
unfoldable pub step_at : List ℕ → ℕ → Step
step_at s at = record { read = read_at s at; at = position_after (read_at s at) at }
