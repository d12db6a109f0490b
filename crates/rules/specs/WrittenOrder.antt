-- Proved of the rules: "The book" by example: which commands a book is written as, and in which order.
use Rattle.std.specs.Prelude.{◌≡◌, List, [], ◌∷◌, pos}
use Rattle.rules.specs.File.{written, file_of}
use Rattle.rules.specs.Examples.{minus, agree, guide, accepted, offer, instructed, defaulted, metered, ledger}
use Rattle.rules.specs.Amounts.{brief}
use Rattle.commands.specs.declared.entries.Command.{Command}

-- commands in another order than they are written in
abbrev pub mixed : List Command
mixed =
    agree guide ∷ metered 7 (pos 1) ∷ instructed 5 85 ∷ offer 0 30 accepted ∷ defaulted 0 4 1 ∷ offer 60 90 accepted ∷ metered 3 (minus 1) ∷ []

-- commands as they are written
pub record WrittenOrder : Type 0 where
  -- contract, windows, instructions, defaults, readings by rising minute, and the close if there was one
  pub ordered :
      written (ledger mixed)
      ≡ agree guide ∷ offer 0 30 accepted ∷ offer 60 90 accepted ∷ instructed 5 85 ∷ defaulted 0 4 1 ∷ metered 3 (minus 1) ∷ metered 7 (pos 1) ∷ []
  pub closed : written (ledger brief) ≡ brief
  pub no_bytes : file_of (ledger []) ≡ []
