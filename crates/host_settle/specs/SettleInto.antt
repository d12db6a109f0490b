-- Inner, and for hosts: a book settled into numbers: the number of its answer, and line and sum memory after it, by one equation over the rules.
use Rattle.std.specs.Prelude.{cond, List, ◌++◌, ℕ, ltb, ℤ, length, drop, Result, Ok, Err}
use Rattle.book_memory.specs.Meter.{Memory}
use Rattle.rules.specs.declared.statement.Statement.{Statement}
use Rattle.book.specs.declared.Book.{Book}
use Rattle.settle_numbers.specs.Numbers.{SettledAsNumbers, number_book}
use Rattle.host_sums.specs.Sums.{sum_count, sums_of}
use Rattle.host_settle.specs.Answers.{number_of}
use Rattle.commands.specs.declared.refusal.Refusal.{Refusal}
use Rattle.commands.specs.Refusals.{number_of as number_of_refusal}

-- the number of the answer, and line and sum memory after it
pub record SettledBook : Type 0 where
  pub number : ℕ
  pub lines : List ℤ
  pub sums : List ℤ

-- what a call answers and leaves, as one
abbrev pub settled_book : ℕ → List ℤ → List ℤ → SettledBook
settled_book number lines sums = record { number = number; lines = lines; sums = sums }

-- a statement for so many windows goes into the first numbers; a refusal alters none
abbrev pub sums_by : Result Statement Refusal → ℕ → List ℤ → List ℤ
sums_by (Ok s) windows sums = sums_of s windows ++ drop sum_count sums
sums_by (Err r) windows sums = sums

-- the number where sum memory is shorter than a statement's sums: that of settling into the lines, else 26
abbrev pub short_number : Result Statement Refusal → ℕ
short_number (Ok s) = 26
short_number (Err r) = number_of_refusal r

-- settling a book into numbers. Whether there is room for the sums is asked last
unfoldable pub settle_into : Book → Memory → List ℤ → List ℤ → SettledBook
settle_into b meter lines sums =
    let s : SettledAsNumbers = number_book b meter lines in
    cond (ltb (length sums) sum_count) (settled_book (short_number s.answer) lines sums)
    (settled_book (number_of s.answer) s.memory (sums_by s.answer b.nwindows sums))
