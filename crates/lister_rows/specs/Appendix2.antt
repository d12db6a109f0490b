-- Proved of the rules: "The lister": the listing of Appendix 2's unit file, from its bytes by the rules to the rows.
use Rattle.std.specs.Prelude.{◌≡◌, false, List, ◌++◌, ℕ, length}
use Rattle.std.proofs.Math.Option.{none}
use Rattle.rules.specs.Ledger.{Ledger, ledger_of}
use Rattle.rules.specs.Refusal.{taken}
use Rattle.rules.specs.Statement.{lines, statement_of, settle_refusal}
use Rattle.rules.specs.File.{commands_in}
use Rattle.rules.specs.Examples.{appendix2_file}
use Rattle.lister_rows.specs.Rows.{listing}
use Rattle.lister_rows.specs.Text.{text}

-- what is taken of the commands of a file, with lent memory of a day
unfoldable pub taken_of : List ℕ → Ledger
taken_of s = ledger_of (taken 1440 (commands_in s))

-- the listing of what is taken of a file
unfoldable pub listing_by : Ledger → List ℕ
listing_by g = listing (statement_of g) (lines g) (length g.windows)

pub record Appendix2 : Type 0 where
  -- every command that its bytes say is taken, and settling into six lines is not refused
  pub all_taken : taken 1440 (commands_in appendix2_file) ≡ commands_in appendix2_file
  pub settled : settle_refusal false 1440 6 (taken_of appendix2_file) ≡ none
  -- its listing, as it is printed
  pub rows :
      listing_by (taken_of appendix2_file)
      ≡ text "L 1 1 U C 600 500 500 15000\n"
      ++ text "L 1 1 S C 1000 1017 1000 30000\n"
      ++ text "L 1 2 S C 6000 5750 5750 172500\n"
      ++ text "L 1 3 S C 5000 5417 5000 150000\n"
      ++ text "L 1 3 D C 500 750 500 15000\n"
      ++ text "L 1 4 D C 100 50 50 1500\n"
      ++ text "A 1 6 32400\n"
      ++ text "T 12800 384000 32400 416400\n"
