-- Inner, and proved equal to the rules: what a command meets as one number, 0 for none, from the few numbers of the book that it is asked against.
use Rattle.std.specs.Prelude.{Bool, not, ◌&&◌, ◌||◌, cond, List, ℕ, eqb, leb, ltb, length}
use Rattle.energy.specs.Lists.{any, last}
use Rattle.calendar.specs.Calendar.{days_of, is_no_date}
use Rattle.calendar.specs.declared.Date.{Date}
use Rattle.commands.specs.declared.contract.Contract.{Contract}
use Rattle.commands.specs.declared.entries.Window.{Window}
use Rattle.commands.specs.declared.entries.Instruction.{Instruction}
use Rattle.commands.specs.declared.entries.Default.{Default}
use Rattle.commands.specs.declared.entries.Reading.{Reading}
use Rattle.rules.specs.Ledger.{expiry, end_of, within, no_window}
use Rattle.rules.specs.Refusal.{recovered, not_above}
use Rattle.book_memory.specs.Meter.{Memory, metered_at}

-- what any command meets before the conditions of its own kind: the number from its input, then 11 to 15. sound: some list of commands
-- leaves the book; contract: the command is one; short: lent memory has too little room
unfoldable pub any_refusal : ℕ → Bool → Bool → Bool → Bool → Bool → ℕ
any_refusal input sound closed agreed contract short =
    cond (not (eqb input 0)) input
    (cond (not sound) 11
    (cond closed 12
    (cond (not agreed && not contract) 13
    (cond (agreed && contract) 14
    (cond short 15 0)))))

-- a date in a book with a date before it, so many windows and instructions, and a reading in its span or none
unfoldable pub date_refusal : Date → ℕ → ℕ → Bool → Contract → Date → ℕ
date_refusal before windows instructions read k d =
    cond (not (is_no_date before) || not (eqb windows 0) || not (eqb instructions 0) || read) 29
    (cond (not (eqb d.day 1) || not (eqb (days_of d.year d.month) k.days)) 30 0)

-- the end of the last of these windows, 0 where there is none
abbrev pub windows_end : List Window → ℕ
windows_end ws = (last no_window ws).end.0

-- a window after the windows ws
unfoldable pub window_refusal : ℕ → ℕ → List Window → Window → ℕ
window_refusal service span ws w =
    cond (ltb span w.end.0) 16
    (cond (eqb service 0 && eqb w.verdict 1) 17
    (cond (ltb w.start.0 (windows_end ws)) 18
    (cond (leb 128 (length ws)) 23 0)))

-- an instruction after the instructions is
unfoldable pub instruction_refusal : Contract → ℕ → List Instruction → Instruction → ℕ
instruction_refusal k span is i =
    cond (ltb span (end_of k i)) 16
    (cond (ltb i.cease.0 (expiry k i)) 19
    (cond (ltb i.issue.0 (recovered k is)) 20
    (cond (leb 64 (length is)) 23 0)))

-- a default beside the windows ws, after the defaults ds
unfoldable pub default_refusal : ℕ → List Window → List Default → Default → ℕ
default_refusal span ws ds d =
    cond (leb span d.minute.0) 16
    (cond (not (any (λ w. within w d.minute.0) ws)) 21
    (cond (leb 128 (length ds)) 23 0))

-- the number for a minute that holds a reading: of a plain one, and of one sent again
unfoldable pub held_refusal : ℕ → ℕ
held_refusal n = cond (eqb n 0) 22 27

-- a reading of revision n beside those in lent memory
unfoldable pub reading_refusal : ℕ → Memory → ℕ → Reading → ℕ
reading_refusal span m n r =
    cond (leb span r.minute.0) 16
    (cond (ltb r.minute.0 span && not_above n (metered_at m r.minute.0)) (held_refusal n) 0)
