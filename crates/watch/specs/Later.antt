-- Proved of the rules: a month may be worked out again at the start of a later instruction. Whatever is entered after it but a window, the steps of the
-- instructions so far are answered as before, so that totals go on from where they are.
use Rattle.std.specs.Prelude.{◌≡◌, List, ◌++◌, ℕ, suc, ◌≤◌, ℤ, length}
use Rattle.commands.specs.declared.entries.Command.{Command}
use Rattle.commands.specs.declared.entries.Instruction.{Instruction}
use Rattle.rules.specs.Ledger.{ledger_of}
use Rattle.rules.specs.Lines.{Active}
use Rattle.rules.specs.Refusal.{taken}
use Rattle.book.specs.Book.{empty_book, put_all}
use Rattle.watch_step.specs.Month.{month_numbers}
use Rattle.watch_step.specs.Step.{step_of}
use Rattle.watch_step.specs.declared.totals.Totals.{Totals}
use Rattle.watch_month.specs.MonthOf.{month_book}

-- the month of the book that commands leave, laid into memory
abbrev pub month_after : ℕ → List Command → List ℕ → List ℕ
month_after size cs memory = (month_book (put_all empty_book (taken size cs)) memory).month

-- commands cs, and ds after them that bring no window: for an active minute of the instruction at place j that cs brought, with any totals, reading and
-- base readings
unfoldable pub Later·theorem : Type 0
Later·theorem =
    (size : ℕ) (cs ds : List Command)
    → (ledger_of (taken size (cs ++ ds))).windows ≡ (ledger_of (taken size cs)).windows
    → (first second : List ℕ)
    → month_numbers ≤ length first
    → month_numbers ≤ length second
    → (j : ℕ) (i : Instruction) (m : ℕ)
    → Active (ledger_of (taken size cs)) j i m
    → (s : Totals) (kw : ℤ) (base : List ℤ)
    → step_of (month_after size cs first) s (suc j) (record { minute = record { 0 = m }; kw = record { 0 = kw } }) base
    ≡ step_of (month_after size (cs ++ ds) second) s (suc j) (record { minute = record { 0 = m }; kw = record { 0 = kw } }) base
