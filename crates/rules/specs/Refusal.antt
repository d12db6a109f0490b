-- "When a command or call is turned down": after the conditions on the input each condition on the state, under its number, and what is taken of a list.
use Rattle.std.specs.Prelude.{Bool, false, not, ◌&&◌, ◌||◌, List, [], ◌∷◌, ◌++◌, ℕ, ◌+◌, max, eqb, leb, ltb, length}
use Rattle.std.proofs.Math.Option.{Option, none, some}
use Rattle.energy.specs.Lists.{any, last, is_empty, is_some, between}
use Rattle.calendar.specs.Calendar.{days_of}
use Rattle.commands.specs.Command.{on_contract, on_date, on_window, on_instruction, on_default, on_reading, on_revision, on_metered, always}
use Rattle.commands.specs.Input.{Condition, ◌when◌, input_conditions, first_met}
use Rattle.rules.specs.Ledger.{Ledger, Metered, ledger_of, contract_of, is_contract, span_of, full_span, span_in, cells_in, expiry, end_of, within, no_window}
use Rattle.commands.specs.declared.contract.Contract.{Contract}
use Rattle.commands.specs.declared.entries.Instruction.{Instruction}
use Rattle.commands.specs.declared.entries.Command.{Command}
use Rattle.rules.specs.Answer.{Answer, Taken, Refused}

-- ---- from the state

-- 15: the minutes that lent memory must have room for: for a contract its own span; what the book needs; and for a date what its own month needs too
abbrev pub cells_for : Ledger → Command → ℕ
cells_for g c = on_contract span_of (on_date (λ d. max (cells_in g) (full_span (contract_of g) d)) (always (cells_in g))) c

-- 29: a date where the book has a date, a window or an instruction, or the span a reading
abbrev pub date_late : Ledger → Command → Bool
date_late g c =
    on_date
    (λ d. not (is_empty g.dates) || not (is_empty g.windows) || not (is_empty g.instructions)
    || any (λ m. is_some (g.reading m)) (between 0 (span_in g)))
    (always false)
    c

-- 30: a date that is not the 1st, or whose month has other than the contract's days
abbrev pub other_month : Ledger → Command → Bool
other_month g c = on_date (λ d. not (eqb d.day 1) || not (eqb (days_of d.year d.month) (contract_of g).days)) (always false) c

-- 16: window end or instruction end above the span, or the minute of a default or of a reading of either kind not below it
abbrev pub beyond_span : Ledger → Command → Bool
beyond_span g c =
    on_window (λ w. ltb (span_in g) w.end.0)
    (on_instruction (λ i. ltb (span_in g) (end_of (contract_of g) i))
    (on_default (λ d. leb (span_in g) d.minute.0)
    (on_metered (λ n r. leb (span_in g) r.minute.0)
    (always false))))
    c

-- 17: rejected window under a committed contract
abbrev pub rejected_committed : Ledger → Command → Bool
rejected_committed g c = on_window (λ w. eqb (contract_of g).service 0 && eqb w.verdict 1) (always false) c

-- the last window's end; 0 where there is none, which no start is before
abbrev pub windows_end : Ledger → ℕ
windows_end g = (last no_window g.windows).end.0

-- 18: window starting before the last one's end
abbrev pub window_overlaps : Ledger → Command → Bool
window_overlaps g c = on_window (λ w. ltb w.start.0 (windows_end g)) (always false) c

-- 19: cease before the response expires
abbrev pub cease_early : Ledger → Command → Bool
cease_early g c = on_instruction (λ i. ltb i.cease.0 (expiry (contract_of g) i)) (always false) c

-- the last instruction's end plus recovery; 0 where there is none, which no issue is before
abbrev pub recovered : Contract → List Instruction → ℕ
recovered k [] = 0
recovered k (i ∷ is) = end_of k (last i is) + k.recovery.0

-- 20: issue before the last instruction's end plus recovery
abbrev pub issue_early : Ledger → Command → Bool
issue_early g c = on_instruction (λ i. ltb i.issue.0 (recovered (contract_of g) g.instructions)) (always false) c

-- 21: default minute in no window entered
abbrev pub outside_windows : Ledger → Command → Bool
outside_windows g c = on_default (λ d. not (any (λ w. within w d.minute.0) g.windows)) (always false) c

-- 22: plain reading for a minute that already has one
abbrev pub has_reading : Ledger → Command → Bool
has_reading g c = on_reading (λ r. is_some (g.reading r.minute.0)) (always false) c

-- a revision that is not above what a minute holds; a minute without a reading holds none
abbrev pub not_above : ℕ → Option Metered → Bool
not_above n none = false
not_above n (some x) = leb n x.revision

-- 27: revision not above the one held
abbrev pub revision_held : Ledger → Command → Bool
revision_held g c = on_revision (λ v. not_above v.number (g.reading v.reading.minute.0)) (always false) c

-- 23: the command's table is full
abbrev pub table_full : Ledger → Command → Bool
table_full g c =
    on_window (λ w. leb 128 (length g.windows))
    (on_instruction (λ i. leb 64 (length g.instructions))
    (on_default (λ d. leb 128 (length g.defaults))
    (always false)))
    c

-- ---- the first number that applies

-- what any command meets at a book: size is the room of lent memory. unsound: no list of commands leaves the book, which is never so of a book that one left
abbrev pub book_conditions : Bool → ℕ → Ledger → Command → List Condition
book_conditions unsound size g c =
    (11 when unsound)
    ∷ (12 when g.closed)
    ∷ (13 when is_empty g.contracts && not (is_contract c))
    ∷ (14 when not (is_empty g.contracts) && is_contract c)
    ∷ (15 when ltb size (cells_for g c))
    ∷ []

-- what a command meets for its own kind
abbrev pub kind_conditions : Ledger → Command → List Condition
kind_conditions g c =
    (29 when date_late g c)
    ∷ (30 when other_month g c)
    ∷ (16 when beyond_span g c)
    ∷ (17 when rejected_committed g c)
    ∷ (18 when window_overlaps g c)
    ∷ (19 when cease_early g c)
    ∷ (20 when issue_early g c)
    ∷ (21 when outside_windows g c)
    ∷ (22 when has_reading g c)
    ∷ (27 when revision_held g c)
    ∷ (23 when table_full g c)
    ∷ []

-- what a command meets, in order: from its input, from the book, from its kind
unfoldable pub conditions : Bool → ℕ → Ledger → Command → List Condition
conditions unsound size g c = input_conditions c ++ book_conditions unsound size g c ++ kind_conditions g c

-- the number under which a command is turned down, if it is
unfoldable pub refusal : Bool → ℕ → Ledger → Command → Option ℕ
refusal unsound size g c = first_met (conditions unsound size g c)

-- the answer for a number: taken where there is none
abbrev pub answer_of : Option ℕ → Answer
answer_of none = Taken
answer_of (some n) = Refused n

-- ---- what is taken

-- a command for which no condition holds joins the commands taken, as the last; a refused one leaves them alone
abbrev pub joined : Option ℕ → List Command → Command → List Command
joined none t c = t ++ (c ∷ [])
joined (some n) t c = t

-- what is taken after the commands t, of a list that follows them
unfoldable pub taken_after : ℕ → List Command → List Command → List Command
taken_after size t [] = t
taken_after size t (c ∷ cs) = taken_after size (joined (refusal false size (ledger_of t) c) t c) cs

-- what is taken of a list from the empty book
unfoldable pub taken : ℕ → List Command → List Command
taken size cs = taken_after size [] cs
