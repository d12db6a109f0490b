-- Proved of the rules: corrected readings by example: what a minute takes after what, what it then holds, and how it is written.
use Rattle.std.specs.Prelude.{◌≡◌, false, List, [], ◌∷◌, ◌++◌, map, ℕ, suc, ℤ, pos, take, drop, set}
use Rattle.std.proofs.Math.Option.{Option, none, some}
use Rattle.commands.specs.declared.entries.Command.{Command}
use Rattle.commands.specs.declared.entries.Command.TheVariants.{Close as closeᶜ}
use Rattle.rules.specs.declared.statement.Line.{Line}
use Rattle.rules.specs.Ledger.{Metered}
use Rattle.rules.specs.Refusal.{refusal}
use Rattle.rules.specs.Statement.{lines, statement_of, settle_refusal}
use Rattle.rules.specs.File.{file_of}
use Rattle.rules.specs.Examples.{minus, agree, guide, kind, reducer, accepted, metered, revised, month}
use Rattle.rules.specs.Examples.{generated, reduced, ledger, two_days}

-- the number that a command gets after a contract and these
abbrev pub after : List Command → Command → Option ℕ
after cs c = refusal false 1440 (ledger (agree guide ∷ cs)) c

-- what minute m holds after a contract and these
abbrev pub holds : List Command → ℕ → Option Metered
holds cs m = (ledger (agree guide ∷ cs)).reading m

-- a kW and its revision
abbrev pub holding : ℤ → ℕ → Option Metered
holding z n = some (record { kw = z; revision = n })

-- what is taken, and what is not
pub record RevisionsTaken : Type 0 where
  -- any revision where there is no reading, and above a plain one
  pub bare : after [] (revised 7 1 (pos 5)) ≡ none
  pub plain : after (metered 7 (pos 1) ∷ []) (revised 7 1 (pos 5)) ≡ none
  -- only a greater one after another: an equal and a lower one get 27, a gap is no matter
  pub equal : after (revised 7 9 (pos 1) ∷ []) (revised 7 9 (pos 5)) ≡ some 27
  pub lower : after (revised 7 9 (pos 1) ∷ []) (revised 7 8 (pos 5)) ≡ some 27
  pub next : after (revised 7 9 (pos 1) ∷ []) (revised 7 10 (pos 5)) ≡ none
  pub most : after (revised 7 254 (pos 1) ∷ []) (revised 7 255 (pos 5)) ≡ none
  -- each minute by itself
  pub beside : after (revised 7 9 (pos 1) ∷ []) (revised 8 1 (pos 5)) ≡ none
  -- a plain reading where any is present gets 22, whatever its revision
  pub plain_after : after (revised 7 9 (pos 1) ∷ []) (metered 7 (pos 5)) ≡ some 22
  -- what was refused does not count: after a refused revision the one held decides
  pub refused_before : after (revised 7 9 (pos 1) ∷ revised 7 3 (pos 2) ∷ []) (revised 7 4 (pos 5)) ≡ some 27
  -- the second day of a month
  pub second_day : refusal false 2880 (two_days guide (revised 2879 9 (pos 1) ∷ [])) (revised 2879 9 (pos 5)) ≡ some 27

-- what a minute holds: value and revision of the last command taken
pub record RevisionsHeld : Type 0 where
  pub bare : holds [] 7 ≡ none
  pub plain : holds (metered 7 (pos 1) ∷ []) 7 ≡ holding (pos 1) 0
  pub greater : holds (metered 7 (pos 1) ∷ revised 7 9 (pos 2) ∷ revised 7 10 (minus 3) ∷ []) 7 ≡ holding (minus 3) 10
  pub refused : holds (revised 7 9 (pos 2) ∷ revised 7 9 (pos 3) ∷ metered 7 (pos 4) ∷ []) 7 ≡ holding (pos 2) 9

-- written, a minute has its last reading in its turn
pub record RevisionsWritten : Type 0 where
  pub bytes :
      drop 32 (file_of (ledger (agree guide ∷ metered 0 (minus 1) ∷ revised 1 255 (pos 2) ∷ metered 2 (pos 3) ∷ revised 2 1 (pos 4) ∷ closeᶜ ∷ [])))
      ≡ (0x4D ∷ 0x00 ∷ 0x00 ∷ 0xFF ∷ 0xFF ∷ 0xFF ∷ 0xFF ∷ []) ++ (0x52 ∷ 0x00 ∷ 0x01 ∷ 0xFF ∷ 0x00 ∷ 0x00 ∷ 0x00 ∷ 0x02 ∷ [])
      ++ (0x52 ∷ 0x00 ∷ 0x02 ∷ 0x01 ∷ 0x00 ∷ 0x00 ∷ 0x00 ∷ 0x04 ∷ [])
      ++ (0x5A ∷ [])

-- readings with the one at place k, of minute m, first read as 0 kW and at the end put right
abbrev pub corrected : ℕ → ℕ → ℤ → List Command → List Command
corrected k m kw read = take k read ++ metered m (pos 0) ∷ drop (suc k) read ++ (revised m 1 kw ∷ [])

-- each line's kWh, expected, delivered and capped
abbrev pub energies : List Command → List (ℤ × ℤ × ℤ)
energies cs = map (λ (l : Line). (l.expected.0, l.delivered.0, l.capped.0)) (lines (ledger cs))

-- months put right: the corrected reading counts like one that was right at once
pub record RevisionsSettled : Type 0 where
  -- F1 with minute 90, the last active one, put right
  pub active :
      energies (month guide accepted (corrected 75 90 (pos 3000) generated))
      ≡ (pos 600, pos 500, pos 500) ∷ (pos 1000, pos 1017, pos 1000) ∷ (pos 6000, pos 5750, pos 5750) ∷ (pos 5000, pos 5417, pos 5000)
      ∷ (pos 500, pos 750, pos 500)
      ∷ (pos 100, pos 50, pos 50)
      ∷ []
  pub total : (statement_of (ledger (month guide accepted (corrected 75 90 (pos 3000) generated)))).total.0 ≡ pos 416400
  -- F2, of a demand reducer, with minute 5, a base minute, put right
  pub base :
      map (λ (l : Line). l.capped.0) (lines (ledger (month (set guide kind reducer) accepted (corrected 3 5 (pos 22000) reduced))))
      ≡ pos 600 ∷ pos 1000 ∷ pos 5750 ∷ pos 5000 ∷ pos 500 ∷ pos 50 ∷ []
  -- a minute that has only a revision has a reading
  pub complete : settle_refusal false 1440 6 (ledger (month guide accepted (take 75 generated ++ revised 90 1 (pos 3000) ∷ []))) ≡ none
  pub missing : settle_refusal false 1440 6 (ledger (month guide accepted (take 75 generated))) ≡ some 25
