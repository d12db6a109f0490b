-- Definitions that go by the command: one says what holds for a kind of command and leaves the other kinds to the next.
use Rattle.std.specs.Prelude.{ℕ, zero, suc}
use Rattle.calendar.specs.declared.Date.{Date}
use Rattle.commands.specs.declared.contract.Contract.{Contract}
use Rattle.commands.specs.declared.entries.Window.{Window}
use Rattle.commands.specs.declared.entries.Instruction.{Instruction}
use Rattle.commands.specs.declared.entries.Default.{Default}
use Rattle.commands.specs.declared.entries.Reading.{Reading}
use Rattle.commands.specs.declared.entries.Revision.{Revision}
use Rattle.commands.specs.declared.entries.Command.{Command}
use Rattle.commands.specs.declared.entries.Command.TheVariants.{Contract as contractᶜ, Date as dateᶜ, Window as windowᶜ}
use Rattle.commands.specs.declared.entries.Command.TheVariants.{Instruction as instructionᶜ, Default as defaultᶜ, Reading as readingᶜ}
use Rattle.commands.specs.declared.entries.Command.TheVariants.{Revision as revisionᶜ, Close as closeᶜ}

module _ {A : Type 0} where
  -- f of a contract; any other command is g's
  abbrev pub on_contract : (Contract → A) → (Command → A) → Command → A
  on_contract f g (contractᶜ k) = f k
  on_contract f g (dateᶜ d) = g (dateᶜ d)
  on_contract f g (windowᶜ w) = g (windowᶜ w)
  on_contract f g (instructionᶜ i) = g (instructionᶜ i)
  on_contract f g (defaultᶜ d) = g (defaultᶜ d)
  on_contract f g (readingᶜ r) = g (readingᶜ r)
  on_contract f g (revisionᶜ v) = g (revisionᶜ v)
  on_contract f g closeᶜ = g closeᶜ

  -- f of a date; any other command is g's
  abbrev pub on_date : (Date → A) → (Command → A) → Command → A
  on_date f g (contractᶜ k) = g (contractᶜ k)
  on_date f g (dateᶜ d) = f d
  on_date f g (windowᶜ w) = g (windowᶜ w)
  on_date f g (instructionᶜ i) = g (instructionᶜ i)
  on_date f g (defaultᶜ d) = g (defaultᶜ d)
  on_date f g (readingᶜ r) = g (readingᶜ r)
  on_date f g (revisionᶜ v) = g (revisionᶜ v)
  on_date f g closeᶜ = g closeᶜ

  -- f of a window; any other command is g's
  abbrev pub on_window : (Window → A) → (Command → A) → Command → A
  on_window f g (contractᶜ k) = g (contractᶜ k)
  on_window f g (dateᶜ d) = g (dateᶜ d)
  on_window f g (windowᶜ w) = f w
  on_window f g (instructionᶜ i) = g (instructionᶜ i)
  on_window f g (defaultᶜ d) = g (defaultᶜ d)
  on_window f g (readingᶜ r) = g (readingᶜ r)
  on_window f g (revisionᶜ v) = g (revisionᶜ v)
  on_window f g closeᶜ = g closeᶜ

  -- f of an instruction; any other command is g's
  abbrev pub on_instruction : (Instruction → A) → (Command → A) → Command → A
  on_instruction f g (contractᶜ k) = g (contractᶜ k)
  on_instruction f g (dateᶜ d) = g (dateᶜ d)
  on_instruction f g (windowᶜ w) = g (windowᶜ w)
  on_instruction f g (instructionᶜ i) = f i
  on_instruction f g (defaultᶜ d) = g (defaultᶜ d)
  on_instruction f g (readingᶜ r) = g (readingᶜ r)
  on_instruction f g (revisionᶜ v) = g (revisionᶜ v)
  on_instruction f g closeᶜ = g closeᶜ

  -- f of a default; any other command is g's
  abbrev pub on_default : (Default → A) → (Command → A) → Command → A
  on_default f g (contractᶜ k) = g (contractᶜ k)
  on_default f g (dateᶜ d) = g (dateᶜ d)
  on_default f g (windowᶜ w) = g (windowᶜ w)
  on_default f g (instructionᶜ i) = g (instructionᶜ i)
  on_default f g (defaultᶜ d) = f d
  on_default f g (readingᶜ r) = g (readingᶜ r)
  on_default f g (revisionᶜ v) = g (revisionᶜ v)
  on_default f g closeᶜ = g closeᶜ

  -- f of a reading; any other command is g's
  abbrev pub on_reading : (Reading → A) → (Command → A) → Command → A
  on_reading f g (contractᶜ k) = g (contractᶜ k)
  on_reading f g (dateᶜ d) = g (dateᶜ d)
  on_reading f g (windowᶜ w) = g (windowᶜ w)
  on_reading f g (instructionᶜ i) = g (instructionᶜ i)
  on_reading f g (defaultᶜ d) = g (defaultᶜ d)
  on_reading f g (readingᶜ r) = f r
  on_reading f g (revisionᶜ v) = g (revisionᶜ v)
  on_reading f g closeᶜ = g closeᶜ

  -- f of a revision; any other command is g's
  abbrev pub on_revision : (Revision → A) → (Command → A) → Command → A
  on_revision f g (contractᶜ k) = g (contractᶜ k)
  on_revision f g (dateᶜ d) = g (dateᶜ d)
  on_revision f g (windowᶜ w) = g (windowᶜ w)
  on_revision f g (instructionᶜ i) = g (instructionᶜ i)
  on_revision f g (defaultᶜ d) = g (defaultᶜ d)
  on_revision f g (readingᶜ r) = g (readingᶜ r)
  on_revision f g (revisionᶜ v) = f v
  on_revision f g closeᶜ = g closeᶜ

  -- a of a close; any other command is g's
  abbrev pub on_close : A → (Command → A) → Command → A
  on_close a g (contractᶜ k) = g (contractᶜ k)
  on_close a g (dateᶜ d) = g (dateᶜ d)
  on_close a g (windowᶜ w) = g (windowᶜ w)
  on_close a g (instructionᶜ i) = g (instructionᶜ i)
  on_close a g (defaultᶜ d) = g (defaultᶜ d)
  on_close a g (readingᶜ r) = g (readingᶜ r)
  on_close a g (revisionᶜ v) = g (revisionᶜ v)
  on_close a g closeᶜ = a

  -- f of a reading's revision, 0 of a plain one, and of the reading; any other command is g's
  abbrev pub on_metered : (ℕ → Reading → A) → (Command → A) → Command → A
  on_metered f g c = on_reading (f 0) (on_revision (λ v. f v.number v.reading) g) c

  -- a of every command
  abbrev pub always : A → Command → A
  always a c = a

-- a reading as a command, by its revision: a plain one, or one sent again
abbrev pub revised_as : ℕ → Reading → Command
revised_as zero r = readingᶜ r
revised_as (suc n) r = revisionᶜ (record { number = suc n; reading = r })
