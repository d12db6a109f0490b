-- "The unit file": the table of command bytes, operand widths and whole lengths, what reading at a position gives, what a command and a book are
-- written as, what writing meets, and the commands that a file's bytes fix.
use Rattle.std.specs.Prelude.{Bool, cond, List, [], ◌∷◌, ◌++◌, map, ℕ, zero, suc, ◌+◌, ◌-◌, ◌*◌, ◌/◌, ◌%◌, ◌^◌, ℤ, pos, negsuc, nat_abs, eqb, leb, ltb, length, get_or, take, drop}
use Rattle.std.proofs.Math.Option.{Option, none, some}
use Rattle.energy.specs.Lists.{concat_map, between}
use Rattle.calendar.specs.declared.Date.{Date}
use Rattle.rules.specs.Ledger.{Ledger, Metered, span_in, cells_in}
use Rattle.commands.specs.Command.{revised_as}
use Rattle.commands.specs.Input.{Condition, ◌when◌}
use Rattle.commands.specs.declared.contract.Contract.{Contract}
use Rattle.commands.specs.declared.entries.Window.{Window}
use Rattle.commands.specs.declared.entries.Instruction.{Instruction}
use Rattle.commands.specs.declared.entries.Default.{Default}
use Rattle.commands.specs.declared.entries.Reading.{Reading}
use Rattle.commands.specs.declared.entries.Revision.{Revision}
use Rattle.commands.specs.declared.entries.Command.{Command}
use Rattle.commands.specs.declared.entries.Command.TheVariants.{Contract as contractᶜ, Date as dateᶜ, Window as windowᶜ, Instruction as instructionᶜ}
use Rattle.commands.specs.declared.entries.Command.TheVariants.{Default as defaultᶜ, Reading as readingᶜ, Revision as revisionᶜ}
use Rattle.commands.specs.declared.entries.Command.TheVariants.{Close as closeᶜ}
use Rattle.std.specs.Prelude.{Err}
use Rattle.rules.specs.Answer.{Read, Got, End}
use Rattle.commands.specs.declared.refusal.Refusal.TheVariants.{UnknownCommand, CutOff}

-- a command byte and the widths of its operands
pub record Layout : Type 0 where
  pub byte : ℕ
  pub widths : List ℕ

-- a row of the table
abbrev row : ℕ → List ℕ → Layout
row b ws = record { byte = b; widths = ws }

-- contract, date, window, instruction, default, reading, revision, close
unfoldable pub table : List Layout
table =
    row 0x43 (1 ∷ 1 ∷ 1 ∷ 4 ∷ 4 ∷ 4 ∷ 2 ∷ 2 ∷ 4 ∷ 4 ∷ 4 ∷ [])
    ∷ row 0x54 (2 ∷ 1 ∷ 1 ∷ [])
    ∷ row 0x57 (2 ∷ 2 ∷ 1 ∷ [])
    ∷ row 0x49 (2 ∷ 2 ∷ [])
    ∷ row 0x44 (2 ∷ 1 ∷ 1 ∷ [])
    ∷ row 0x4D (2 ∷ 4 ∷ [])
    ∷ row 0x52 (2 ∷ 1 ∷ 4 ∷ [])
    ∷ row 0x5A []
    ∷ []

-- the operand widths of a command byte, if the table has it
unfoldable pub widths_of : ℕ → List Layout → Option (List ℕ)
widths_of b [] = none
widths_of b (r ∷ rs) = cond (eqb r.byte b) (some r.widths) (widths_of b rs)

-- the length of all operands
unfoldable pub total : List ℕ → ℕ
total [] = 0
total (w ∷ ws) = w + total ws

-- the whole length of a command: one for its byte, and its operands
abbrev pub whole : Layout → ℕ
whole r = 1 + total r.widths

-- the number that bytes say after n, high byte first
unfoldable pub word_from : ℕ → List ℕ → ℕ
word_from n [] = n
word_from n (b ∷ bs) = word_from (n * 256 + b) bs

-- a number in w bytes, high byte first
unfoldable pub bytes_of : ℕ → ℕ → List ℕ
bytes_of zero n = []
bytes_of (suc w) n = n / 256 ^ w % 256 ∷ bytes_of w n

-- the signed number of 4 bytes, two's complement
unfoldable pub signed_of : ℕ → ℤ
signed_of n = cond (ltb n (2 ^ 31)) (pos n) (negsuc (2 ^ 32 - suc n))

-- a signed number as 4 bytes say it
abbrev pub unsigned_of : ℤ → ℕ
unsigned_of (pos n) = n
unsigned_of (negsuc n) = 2 ^ 32 - suc n

-- the operands that bytes say, by their widths
unfoldable pub operands : List ℕ → List ℕ → List ℕ
operands [] s = []
operands (w ∷ ws) s = word_from 0 (take w s) ∷ operands ws (drop w s)

-- ---- each entry from its operands, in the table's order

-- a contract
abbrev pub contract_from : List ℕ → Contract
contract_from v =
    record {
      days = get_or v 0 0;
      kind = get_or v 1 0;
      service = get_or v 2 0;
      contracted = record { 0 = pos (get_or v 3 0) };
      rampup = get_or v 4 0;
      rampdown = get_or v 5 0;
      response = record { 0 = get_or v 6 0 };
      recovery = record { 0 = get_or v 7 0 };
      availability = get_or v 8 0;
      utilisation = get_or v 9 0;
      optional = get_or v 10 0;
    }

-- a date
abbrev pub date_from : List ℕ → Date
date_from v = record { year = get_or v 0 0; month = get_or v 1 0; day = get_or v 2 0 }

-- a window
abbrev pub window_from : List ℕ → Window
window_from v = record { start = record { 0 = get_or v 0 0 }; end = record { 0 = get_or v 1 0 }; verdict = get_or v 2 0 }

-- an instruction
abbrev pub instruction_from : List ℕ → Instruction
instruction_from v = record { issue = record { 0 = get_or v 0 0 }; cease = record { 0 = get_or v 1 0 } }

-- a default
abbrev pub default_from : List ℕ → Default
default_from v = record { minute = record { 0 = get_or v 0 0 }; kind = get_or v 1 0; reach = get_or v 2 0 }

-- a reading
abbrev pub reading_from : List ℕ → Reading
reading_from v = record { minute = record { 0 = get_or v 0 0 }; kw = record { 0 = signed_of (get_or v 1 0) } }

-- a revision: its number stands between minute and kW
abbrev pub revision_from : List ℕ → Revision
revision_from v = record { number = get_or v 1 0; reading = record { minute = record { 0 = get_or v 0 0 }; kw = record { 0 = signed_of (get_or v 2 0) } } }

-- the command of a byte of the table, from its operands; none for a byte that the table lacks
unfoldable pub command_of : ℕ → List ℕ → Option Command
command_of b v =
    cond (eqb 0x43 b) (some (contractᶜ (contract_from v)))
    (cond (eqb 0x54 b) (some (dateᶜ (date_from v)))
    (cond (eqb 0x57 b) (some (windowᶜ (window_from v)))
    (cond (eqb 0x49 b) (some (instructionᶜ (instruction_from v)))
    (cond (eqb 0x44 b) (some (defaultᶜ (default_from v)))
    (cond (eqb 0x4D b) (some (readingᶜ (reading_from v)))
    (cond (eqb 0x52 b) (some (revisionᶜ (revision_from v)))
    (cond (eqb 0x5A b) (some closeᶜ) none)))))))

-- ---- reading

-- a command with the position after it; 1 where there is none
abbrev pub read_as : Option Command → ℕ → Read
read_as none next = Err UnknownCommand
read_as (some c) next = Got c next

-- what stands at a position before the end, by the operand widths of its command byte: 1 where it has none, 2 where bytes are missing
abbrev pub read_body : Option (List ℕ) → List ℕ → ℕ → Read
read_body none s at = Err UnknownCommand
read_body (some ws) s at =
    let r : Layout = row (get_or s at 0) ws in
    cond (ltb (length s - at) (whole r)) (Err CutOff)
    (read_as (command_of r.byte (operands r.widths (drop (at + 1) s))) (at + whole r))

-- what a reader finds at a position: a command and the position after it, 1, 2, or the end
unfoldable pub read_at : List ℕ → ℕ → Read
read_at s at = cond (leb (length s) at) End (read_body (widths_of (get_or s at 0) table) s at)

-- ---- writing

-- a command's byte
abbrev pub byte_of : Command → ℕ
byte_of (contractᶜ k) = 0x43
byte_of (dateᶜ d) = 0x54
byte_of (windowᶜ w) = 0x57
byte_of (instructionᶜ i) = 0x49
byte_of (defaultᶜ d) = 0x44
byte_of (readingᶜ r) = 0x4D
byte_of (revisionᶜ v) = 0x52
byte_of closeᶜ = 0x5A

-- a command's operands, as numbers without a sign
abbrev pub operands_of : Command → List ℕ
operands_of (contractᶜ k) =
    k.days ∷ k.kind ∷ k.service ∷ nat_abs k.contracted.0 ∷ k.rampup ∷ k.rampdown ∷ k.response.0 ∷ k.recovery.0 ∷ k.availability
    ∷ k.utilisation
    ∷ k.optional
    ∷ []
operands_of (dateᶜ d) = d.year ∷ d.month ∷ d.day ∷ []
operands_of (windowᶜ w) = w.start.0 ∷ w.end.0 ∷ w.verdict ∷ []
operands_of (instructionᶜ i) = i.issue.0 ∷ i.cease.0 ∷ []
operands_of (defaultᶜ d) = d.minute.0 ∷ d.kind ∷ d.reach ∷ []
operands_of (readingᶜ r) = r.minute.0 ∷ unsigned_of r.kw.0 ∷ []
operands_of (revisionᶜ v) = v.reading.minute.0 ∷ v.number ∷ unsigned_of v.reading.kw.0 ∷ []
operands_of closeᶜ = []

-- operands as bytes, by their widths
unfoldable pub write_operands : List ℕ → List ℕ → List ℕ
write_operands [] v = []
write_operands (w ∷ ws) [] = []
write_operands (w ∷ ws) (n ∷ v) = bytes_of w n ++ write_operands ws v

-- the widths, none for a byte that the table lacks
abbrev widths_or : Option (List ℕ) → List ℕ
widths_or none = []
widths_or (some ws) = ws

-- a command's operand widths
abbrev pub widths_for : Command → List ℕ
widths_for c = widths_or (widths_of (byte_of c) table)

-- a command's bytes
unfoldable pub write : Command → List ℕ
write c = byte_of c ∷ write_operands (widths_for c) (operands_of c)

-- the reading of minute m as a command, if there is one
abbrev pub reading_at : Option Metered → ℕ → List Command
reading_at none m = []
reading_at (some x) m = revised_as x.revision (record { minute = record { 0 = m }; kw = record { 0 = x.kw } }) ∷ []

-- the commands that a book is written as: contract, date, windows, instructions, defaults, readings by rising minute, close if closed
unfoldable pub written : Ledger → List Command
written g =
    map contractᶜ g.contracts ++ map dateᶜ g.dates ++ map windowᶜ g.windows ++ map instructionᶜ g.instructions ++ map defaultᶜ g.defaults
    ++ concat_map (λ m. reading_at (g.reading m) m) (between 0 (span_in g))
    ++ cond g.closed (closeᶜ ∷ []) []

-- the bytes that a book is written as
unfoldable pub file_of : Ledger → List ℕ
file_of g = concat_map write (written g)

-- what writing meets. unsound: no list of commands leaves the book; size: the room of lent memory; room: the length of the lent bytes
unfoldable pub write_conditions : Bool → ℕ → ℕ → Ledger → List Condition
write_conditions unsound size room g =
    (11 when unsound) ∷ (15 when ltb size (cells_in g)) ∷ (26 when ltb room (length (file_of g))) ∷ []

-- ---- the commands of a file

-- a command read, and those read after it; none at an end, 1 or 2
abbrev pub read_on : (ℕ → List Command) → Read → List Command
read_on go (Got c next) = c ∷ go next
read_on go (Err r) = []
read_on go End = []

-- each read where the last one stopped, at most so many of them
unfoldable pub commands_from : ℕ → List ℕ → ℕ → List Command
commands_from zero s at = []
commands_from (suc fuel) s at = read_on (λ next. commands_from fuel s next) (read_at s at)

-- the commands of a file: read from its first byte up to the first end, 1 or 2
unfoldable pub commands_in : List ℕ → List Command
commands_in s = commands_from (length s) s 0
