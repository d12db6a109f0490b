-- The calls for hosts: what each answers, and what all lent memory holds after it, by one equation over the rules, refusals included.
use Rattle.std.specs.Prelude.{cond, List, [], ℕ, ℤ}
use Rattle.book_memory.specs.Meter.{Memory, lent}
use Rattle.book.specs.Book.{empty_book}
use Rattle.file_load.specs.Load.{LoadedFile, load}
use Rattle.working_days.specs.Days.{day_book}
use Rattle.host_day.specs.DayAnswer.{day_answer}
use Rattle.host_settle.specs.Answers.{number_of, packed}
use Rattle.host_settle.specs.SettleInto.{SettledBook, settled_book, settle_into}
use Rattle.host_tables.specs.Tables.{Tables, book_of, entire}
use Rattle.file_write.specs.Write.{WrittenBytes, write_book}
use Rattle.watch_month.specs.MonthOf.{MonthLaid, month_book}
use Rattle.rules.specs.Answer.{Answer, Taken}
use Rattle.std.specs.Prelude.{Result, Ok, Err}
use Rattle.commands.specs.Refusals.{number_of as number_of_refusal}
use Rattle.commands.specs.declared.refusal.Refusal.{Refusal}

-- ---- a file entered

-- the answer, and meter and revision memory after it
pub record EnteredFile : Type 0 where
  pub answer : ℕ
  pub meter : Memory

-- what a call answers and leaves, as one
abbrev pub entered_file : ℕ → Memory → EnteredFile
entered_file answer meter = record { answer = answer; meter = meter }

-- a file's commands, entered into the empty book up to the file's end or the first refusal
unfoldable pub enter_file : List ℕ → Memory → EnteredFile
enter_file file meter =
    let l : LoadedFile = load file empty_book meter in
    entered_file (packed (number_of l.loaded.answer) l.loaded.at) l.meter

-- ---- a book settled

-- the book that tables say, settled. Tables with a row cut short say no book: 11
unfoldable pub settle_tables : Tables → Memory → List ℤ → List ℤ → SettledBook
settle_tables t meter lines sums = cond (entire t) (settle_into (book_of t) meter lines sums) (settled_book 11 lines sums)

-- ---- a file entered and settled

-- the answer, and meter and revision, line and sum memory after it
pub record SettledFile : Type 0 where
  pub answer : ℕ
  pub meter : Memory
  pub lines : List ℤ
  pub sums : List ℤ

-- what a call answers and leaves, as one
abbrev pub settled_file : ℕ → Memory → List ℤ → List ℤ → SettledFile
settled_file answer meter lines sums = record { answer = answer; meter = meter; lines = lines; sums = sums }

-- a file that was entered whole is settled, and its offset is its length; one with a refusal is answered that, and nothing is settled
abbrev pub settles_by : Answer → LoadedFile → List ℤ → List ℤ → SettledFile
settles_by Taken l lines sums =
    let s : SettledBook = settle_into l.loaded.book l.meter lines sums in
    settled_file (packed s.number l.loaded.at) l.meter s.lines s.sums
settles_by (Err r) l lines sums = settled_file (packed (number_of_refusal r) l.loaded.at) l.meter lines sums

-- a whole file, entered and settled
unfoldable pub settle_file : List ℕ → Memory → List ℤ → List ℤ → SettledFile
settle_file file meter lines sums =
    let l : LoadedFile = load file empty_book meter in
    settles_by l.loaded.answer l lines sums

-- ---- a book written

-- what writing is answered as: its size, or the refusal's number with 0
abbrev pub packed_size : Result ℕ Refusal → ℕ
packed_size (Ok size) = packed 0 size
packed_size (Err r) = packed (number_of_refusal r) 0

-- the answer, and file memory after it
pub record WrittenFile : Type 0 where
  pub answer : ℕ
  pub file : List ℕ

-- what a call answers and leaves, as one
abbrev pub written_file : ℕ → List ℕ → WrittenFile
written_file answer file = record { answer = answer; file = file }

-- the book that tables say, written as a unit file: the offset is its length, 0 on a refusal. Tables with a row cut short say no book: 11
unfoldable pub write_tables : Tables → Memory → List ℕ → WrittenFile
write_tables t meter file =
    cond (entire t)
    (let w : WrittenBytes = write_book (book_of t) meter file in
    written_file (packed_size w.answer) w.memory)
    (written_file (packed 11 0) file)

-- ---- a file entered and written

-- the answer, meter and revision memory after it, and the bytes lent for the file that is written
pub record RewrittenFile : Type 0 where
  pub answer : ℕ
  pub meter : Memory
  pub written : List ℕ

-- what a call answers and leaves, as one
abbrev pub rewritten_file : ℕ → Memory → List ℕ → RewrittenFile
rewritten_file answer meter written = record { answer = answer; meter = meter; written = written }

-- the book of a file that was entered whole is written, open, empty or closed, and the offset is the written file's length, 0 where writing is
-- refused; a file with a refusal is answered that, and nothing is written
abbrev pub writes_by : Answer → LoadedFile → List ℕ → RewrittenFile
writes_by Taken l memory =
    let w : WrittenBytes = write_book l.loaded.book l.meter memory in
    rewritten_file (packed_size w.answer) l.meter w.memory
writes_by (Err r) l memory = rewritten_file (packed (number_of_refusal r) l.loaded.at) l.meter memory

-- a whole file, entered and written
unfoldable pub write_file : List ℕ → Memory → List ℕ → RewrittenFile
write_file file meter memory = let l : LoadedFile = load file empty_book meter in writes_by l.loaded.answer l memory

-- ---- a day of a month

-- the kind of a day of the month of a file that was entered whole; a file with a refusal is answered that
abbrev pub day_by : Answer → LoadedFile → ℕ → List ℕ → EnteredFile
day_by Taken l day holidays = entered_file (day_answer (day_book l.loaded.book l.meter day holidays)) l.meter
day_by (Err r) l day holidays = entered_file (packed (number_of_refusal r) l.loaded.at) l.meter

-- a whole file, entered, and a day of its month
unfoldable pub day_file : List ℕ → Memory → ℕ → List ℕ → EnteredFile
day_file file meter day holidays = let l : LoadedFile = load file empty_book meter in day_by l.loaded.answer l day holidays

-- a day of the month of the book that tables say, which has no readings yet. Tables with a row cut short say no book: 11
unfoldable pub day_tables : Tables → ℕ → List ℕ → ℕ
day_tables t day holidays = cond (entire t) (day_answer (day_book (book_of t) (lent [] []) day holidays)) (packed 11 0)

-- ---- a book's month worked out

-- the answer, and the memory for the month after it
pub record WatchedBook : Type 0 where
  pub answer : ℕ
  pub month : List ℕ

-- what a call answers and leaves, as one
abbrev pub watched_book : ℕ → List ℕ → WatchedBook
watched_book answer month = record { answer = answer; month = month }

-- the month of the book that tables say. Tables with a row cut short say no book: 11
unfoldable pub watch_tables : Tables → List ℕ → WatchedBook
watch_tables t month =
    cond (entire t)
    (let m : MonthLaid = month_book (book_of t) month in watched_book (number_of m.answer) m.month)
    (watched_book 11 month)

-- ---- a file entered, and its month worked out

-- the answer, meter and revision memory after it, and the memory for the month
pub record WatchedFile : Type 0 where
  pub answer : ℕ
  pub meter : Memory
  pub month : List ℕ

-- what a call answers and leaves, as one
abbrev pub watched_file : ℕ → Memory → List ℕ → WatchedFile
watched_file answer meter month = record { answer = answer; meter = meter; month = month }

-- the month of a file that was entered whole is worked out, open or closed, and the offset is the file's length, also where the month has no room; a
-- file with a refusal is answered that, and no number is put
abbrev pub watches_by : Answer → LoadedFile → List ℕ → WatchedFile
watches_by Taken l month =
    let m : MonthLaid = month_book l.loaded.book month in
    watched_file (packed (number_of m.answer) l.loaded.at) l.meter m.month
watches_by (Err r) l month = watched_file (packed (number_of_refusal r) l.loaded.at) l.meter month

-- a whole file, entered, and its month worked out
unfoldable pub watch_file : List ℕ → Memory → List ℕ → WatchedFile
watch_file file meter month = let l : LoadedFile = load file empty_book meter in watches_by l.loaded.answer l month
