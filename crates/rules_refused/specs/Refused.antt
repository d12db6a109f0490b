-- "When a command or call is turned down", by example: for each number but 11 what gets it, beside it the nearest that is taken, and for conditions that
-- hold at once, that the first number in the list is given. 11 is a book's, so its examples stand with the book; here is where it stands among the
-- others.
use Rattle.std.specs.Prelude.{◌≡◌, Bool, true, false, cond, not, List, [], ◌∷◌, ◌++◌, map, ℕ, ◌-◌, ◌*◌, min, pos, eqb, set, take, replicate}
use Rattle.std.proofs.Math.Option.{none}
use Rattle.energy.specs.Lists.{filter, concat_map, is_some, between}
use Rattle.rules.specs.Ledger.{ledger_of, reading_in}
use Rattle.rules.specs.Refusal.{refusal, answer_of, taken}
use Rattle.rules.specs.Statement.{settle_refusal}
use Rattle.rules.specs.File.{read_at, write}
use Rattle.rules.specs.Examples.{minus, agree, guide, days, kind, service, contracted, rampup, rampdown, response, recovery, availability}
use Rattle.rules.specs.Examples.{utilisation, optional, flexible, accepted, rejected, offer, instructed, defaulted, metered, revised, readings_from}
use Rattle.rules.specs.Examples.{periods, many_instructed, opening, appendix2, sample, sample_bytes}
use Rattle.rules.specs.Dates.{dated, lasting, march, october, january}
use Rattle.commands.specs.declared.entries.Command.{Command}
use Rattle.commands.specs.declared.entries.Command.TheVariants.{Contract as contractᶜ, Close as closeᶜ}
use Rattle.std.specs.Prelude.{Err}
use Rattle.commands.specs.Refusals.{number_of}
use Rattle.rules.specs.Answer.{Answer, Taken, Refused, Read, Got, End}
use Rattle.commands.specs.declared.refusal.Refusal.TheVariants.{UnknownCommand, CutOff}

-- ---- what is asked, and the answer

-- commands entered into the empty book, all taken, with lent memory of some size; what follows is lent memory of the size now
pub record Setting : Type 0 where
  pub size : ℕ
  pub commands : List Command
  pub now : ℕ

-- a command, and the answer to it
pub record Case : Type 0 where
  pub setting : Setting
  pub command : Command
  pub answer : Answer

-- a settlement with line memory for so many lines, and the answer to it
pub record Settling : Type 0 where
  pub setting : Setting
  pub room : ℕ
  pub answer : Answer

-- a position in some bytes, and what a reader finds there
pub record Finding : Type 0 where
  pub bytes : List ℕ
  pub position : ℕ
  pub found : Read

infix 71 ◌enters◌
infix 71 ◌settles_into◌
infix 71 ◌at◌
-- a setting enters a command
abbrev pub ◌enters◌ : Setting → Command → Answer → Case
s enters c = λ a. record { setting = s; command = c; answer = a }

-- a setting settles into line memory for n lines
abbrev pub ◌settles_into◌ : Setting → ℕ → Answer → Settling
s settles_into n = λ a. record { setting = s; room = n; answer = a }

-- bytes are read at a position
abbrev pub ◌at◌ : List ℕ → ℕ → Read → Finding
bs at p = λ r. record { bytes = bs; position = p; found = r }

module _ {A B : Type 0} where
  infix 70 ◌gets◌
  -- and gets an answer
  abbrev pub ◌gets◌ : (A → B) → A → B
  f gets a = f a

-- ---- settings

-- with lent memory of a day
abbrev pub day : List Command → Setting
day cs = record { size = 1440; commands = cs; now = 1440 }

-- Appendix 2's contract over n days and commands after it, with lent memory of its span
abbrev pub over : ℕ → List Command → Setting
over n cs = record { size = 1440 * n; commands = agree (set guide days n) ∷ cs; now = 1440 * n }

-- the same, and then lent memory of another size
abbrev pub lending : ℕ → Setting → Setting
lending n s = record { size = s.size; commands = s.commands; now = n }

-- the same, closed
abbrev pub shut : Setting → Setting
shut s = record { size = s.size; commands = s.commands ++ (closeᶜ ∷ []); now = s.now }

-- the empty book
abbrev pub empty : Setting
empty = day []

-- Appendix 2's contract and window
abbrev pub begun : Setting
begun = day opening

-- Appendix 2's contract with a recovery of 60, and its instruction, which ends at 91
abbrev pub resting : Setting
resting = day (agree (set guide recovery 60) ∷ offer 150 180 accepted ∷ instructed 5 85 ∷ [])

-- n windows in 3 days
abbrev pub windows : ℕ → Setting
windows n = over 3 (periods n 0)

-- 64 instructions in 2 days, the last one ending with the span
abbrev pub called : Setting
called = over 2 (many_instructed 63 3 ++ (instructed 1641 2874 ∷ []))

-- n defaults in Appendix 2's window
abbrev pub faulty : ℕ → Setting
faulty n = day (opening ++ replicate n (defaulted 0 1 1))

-- a reading in minute 7
abbrev pub read : Setting
read = day (agree guide ∷ metered 7 (pos 0) ∷ [])

-- revision n in minute 7, and no plain reading
abbrev pub revised_at : ℕ → Setting
revised_at n = day (agree guide ∷ revised 7 n (pos 0) ∷ [])

-- a reading in minute 7, and after it its revisions 4 and 9
abbrev pub corrected : Setting
corrected = day (agree guide ∷ metered 7 (pos 0) ∷ revised 7 4 (pos 0) ∷ revised 7 9 (pos 0) ∷ [])

-- a month with a date and commands after it, with lent memory of so many minutes
abbrev pub dating : ℕ → List Command → List Command → Setting
dating n month cs = record { size = n; commands = month ++ cs; now = n }

-- January, March and October of 2024, with the lent memory that they need
abbrev pub in_january : Setting
in_january = dating 44640 january []

abbrev pub in_march : Setting
in_march = dating 44640 march []

abbrev pub in_october : Setting
in_october = dating 44700 october []

-- Appendix 2's contract with a negative kW, which no unit file can say
abbrev pub negative : Command
negative =
    contractᶜ
    (record {
      days = 1;
      kind = 0;
      service = 0;
      contracted = record { 0 = minus 12000 };
      rampup = 2000;
      rampdown = 2000;
      response = record { 0 = 20 };
      recovery = record { 0 = 0 };
      availability = 900;
      utilisation = 30000;
      optional = 55000;
    })

-- ---- from the input

-- 3: each operand outside its range, on either side, and on its edges. What gets another number than 3 is in its range
abbrev pub operand_cases : List Case
operand_cases =
    empty enters agree (set guide days 0) gets Refused 3
    ∷ empty enters agree (set guide days 32) gets Refused 3
    ∷ empty enters agree (set guide kind 2) gets Refused 3
    ∷ empty enters agree (set guide service 2) gets Refused 3
    ∷ empty enters agree (set guide contracted 2999) gets Refused 3
    ∷ empty enters agree (set guide contracted 500001) gets Refused 3
    ∷ empty enters negative gets Refused 3
    ∷ empty enters agree (set guide rampup 0) gets Refused 3
    ∷ empty enters agree (set guide rampup 1) gets Refused 4
    ∷ empty enters agree (set guide rampup 500000) gets Taken
    ∷ empty enters agree (set guide rampup 500001) gets Refused 3
    ∷ empty enters agree (set guide rampdown 0) gets Refused 3
    ∷ empty enters agree (set guide rampdown 1) gets Refused 4
    ∷ empty enters agree (set guide rampdown 500000) gets Taken
    ∷ empty enters agree (set guide rampdown 500001) gets Refused 3
    ∷ empty enters agree (set guide response 0) gets Refused 3
    ∷ empty enters agree (set guide response 241) gets Refused 3
    ∷ empty enters agree (set guide recovery 1201) gets Refused 3
    ∷ empty enters agree (set guide availability 1000001) gets Refused 3
    ∷ empty enters agree (set guide utilisation 1000001) gets Refused 3
    ∷ empty enters agree (set guide optional 1000001) gets Refused 3
    ∷ empty enters agree (1 ∷ 0 ∷ 0 ∷ 3000 ∷ 3000 ∷ 3000 ∷ 1 ∷ 0 ∷ 0 ∷ 0 ∷ 0 ∷ []) gets Taken
    ∷ lending 44640 empty enters agree (31 ∷ 1 ∷ 1 ∷ 500000 ∷ 500000 ∷ 500000 ∷ 240 ∷ 1200 ∷ 1000000 ∷ 1000000 ∷ 1000000 ∷ []) gets Taken
    ∷ begun enters offer 44701 210 accepted gets Refused 3
    ∷ begun enters offer 44700 210 accepted gets Refused 5
    ∷ begun enters offer 180 0 accepted gets Refused 5
    ∷ begun enters offer 180 44701 accepted gets Refused 3
    ∷ begun enters offer 180 44700 accepted gets Refused 16
    ∷ over 31 [] enters offer 0 44640 accepted gets Taken
    ∷ over 31 [] enters offer 0 44700 accepted gets Refused 16
    ∷ begun enters offer 180 210 2 gets Refused 3
    ∷ begun enters instructed 2 85 gets Refused 3
    ∷ begun enters instructed 3 85 gets Taken
    ∷ begun enters instructed 44640 85 gets Refused 19
    ∷ begun enters instructed 44700 85 gets Refused 19
    ∷ begun enters instructed 44701 85 gets Refused 3
    ∷ begun enters instructed 5 0 gets Refused 19
    ∷ begun enters instructed 5 44640 gets Refused 16
    ∷ begun enters instructed 5 44700 gets Refused 16
    ∷ begun enters instructed 5 44701 gets Refused 3
    ∷ begun enters defaulted 44640 1 1 gets Refused 16
    ∷ begun enters defaulted 44700 1 1 gets Refused 16
    ∷ begun enters defaulted 44701 1 1 gets Refused 3
    ∷ begun enters defaulted 0 0 1 gets Refused 3
    ∷ begun enters defaulted 0 1 0 gets Refused 3
    ∷ begun enters defaulted 0 1 1 gets Taken
    ∷ begun enters defaulted 0 2 2 gets Taken
    ∷ begun enters defaulted 0 3 3 gets Taken
    ∷ begun enters defaulted 0 4 1 gets Taken
    ∷ begun enters defaulted 0 5 1 gets Refused 3
    ∷ begun enters defaulted 0 1 4 gets Refused 3
    ∷ begun enters metered 44640 (pos 0) gets Refused 16
    ∷ begun enters metered 44700 (pos 0) gets Refused 16
    ∷ begun enters metered 44701 (pos 0) gets Refused 3
    ∷ begun enters metered 0 (minus 500001) gets Refused 3
    ∷ begun enters metered 0 (minus 500000) gets Taken
    ∷ begun enters metered 0 (pos 500000) gets Taken
    ∷ begun enters metered 0 (pos 500001) gets Refused 3
    ∷ begun enters revised 44640 1 (pos 0) gets Refused 16
    ∷ begun enters revised 44700 1 (pos 0) gets Refused 16
    ∷ begun enters revised 44701 1 (pos 0) gets Refused 3
    ∷ begun enters revised 0 0 (pos 0) gets Refused 3
    ∷ begun enters revised 0 1 (pos 0) gets Taken
    ∷ begun enters revised 0 255 (pos 0) gets Taken
    ∷ begun enters revised 0 256 (pos 0) gets Refused 3
    ∷ begun enters revised 0 1 (minus 500001) gets Refused 3
    ∷ begun enters revised 0 1 (minus 500000) gets Taken
    ∷ begun enters revised 0 1 (pos 500000) gets Taken
    ∷ begun enters revised 0 1 (pos 500001) gets Refused 3
    ∷ []

-- 4: U is 21 and 20 with a response of 20; V is 241 and 240. 5: start and end, and multiples of 30
abbrev pub input_cases : List Case
input_cases =
    empty enters agree (set guide rampup 599) gets Refused 4
    ∷ empty enters agree (set guide rampup 600) gets Taken
    ∷ empty enters agree (set (set guide contracted 12050) rampdown 50) gets Refused 4
    ∷ empty enters agree (set guide rampdown 50) gets Taken
    ∷ begun enters offer 210 180 accepted gets Refused 5
    ∷ begun enters offer 180 180 accepted gets Refused 5
    ∷ begun enters offer 180 210 accepted gets Taken
    ∷ begun enters offer 195 210 accepted gets Refused 5
    ∷ begun enters offer 180 225 accepted gets Refused 5
    ∷ []

-- ---- from the state

-- 12, 13, 14: every command to a closed book and without a contract, and a second contract
abbrev pub book_cases : List Case
book_cases =
    shut begun enters agree guide gets Refused 12
    ∷ shut begun enters dated 2024 1 1 gets Refused 12
    ∷ shut begun enters offer 180 210 accepted gets Refused 12
    ∷ shut begun enters instructed 5 85 gets Refused 12
    ∷ shut begun enters defaulted 0 1 1 gets Refused 12
    ∷ shut begun enters metered 0 (pos 0) gets Refused 12
    ∷ shut begun enters revised 0 1 (pos 0) gets Refused 12
    ∷ shut begun enters closeᶜ gets Refused 12
    ∷ empty enters dated 2024 1 1 gets Refused 13
    ∷ empty enters offer 0 180 accepted gets Refused 13
    ∷ empty enters instructed 5 85 gets Refused 13
    ∷ empty enters defaulted 0 1 1 gets Refused 13
    ∷ empty enters metered 0 (pos 0) gets Refused 13
    ∷ empty enters revised 0 1 (pos 0) gets Refused 13
    ∷ empty enters closeᶜ gets Refused 13
    ∷ empty enters agree guide gets Taken
    ∷ begun enters agree guide gets Refused 14
    ∷ begun enters closeᶜ gets Taken
    ∷ []

-- 15: a contract goes by its own span, every other command by the book's. 16: the end f of an instruction counts
abbrev pub span_cases : List Case
span_cases =
    lending 1439 empty enters agree guide gets Refused 15
    ∷ lending 1440 empty enters agree guide gets Taken
    ∷ lending 4319 empty enters agree (set guide days 3) gets Refused 15
    ∷ lending 1439 begun enters offer 180 210 accepted gets Refused 15
    ∷ lending 1439 begun enters instructed 5 85 gets Refused 15
    ∷ lending 1439 begun enters defaulted 0 1 1 gets Refused 15
    ∷ lending 1439 begun enters metered 0 (pos 0) gets Refused 15
    ∷ lending 1439 begun enters revised 0 1 (pos 0) gets Refused 15
    ∷ lending 1439 begun enters closeᶜ gets Refused 15
    ∷ begun enters offer 1410 1470 accepted gets Refused 16
    ∷ begun enters offer 1410 1440 accepted gets Taken
    ∷ begun enters instructed 5 1435 gets Refused 16
    ∷ begun enters instructed 5 1434 gets Taken
    ∷ day (agree guide ∷ offer 1410 1440 accepted ∷ []) enters defaulted 1440 1 1 gets Refused 16
    ∷ day (agree guide ∷ offer 1410 1440 accepted ∷ []) enters defaulted 1439 1 1 gets Taken
    ∷ begun enters metered 1440 (pos 0) gets Refused 16
    ∷ begun enters metered 1439 (pos 0) gets Taken
    ∷ begun enters revised 1440 1 (pos 0) gets Refused 16
    ∷ begun enters revised 1439 1 (pos 0) gets Taken
    ∷ []

-- 17 and 18: touching is allowed. 19 and 20: so is it here, and 20 asks nothing of the first instruction
abbrev pub order_cases : List Case
order_cases =
    begun enters offer 180 210 rejected gets Refused 17
    ∷ day (agree (set guide service flexible) ∷ []) enters offer 180 210 rejected gets Taken
    ∷ begun enters offer 150 210 accepted gets Refused 18
    ∷ begun enters offer 180 210 accepted gets Taken
    ∷ begun enters instructed 5 24 gets Refused 19
    ∷ begun enters instructed 5 25 gets Taken
    ∷ resting enters instructed 150 170 gets Refused 20
    ∷ resting enters instructed 151 171 gets Taken
    ∷ day (agree (set guide recovery 60) ∷ []) enters instructed 3 85 gets Taken
    ∷ []

-- 21: a window's end is not in it, and a rejected or an excluded window counts. 22: a plain reading where there is one of either kind. 27: a revision
-- that is not above the last one. 23: each table, by itself
abbrev pub table_cases : List Case
table_cases =
    begun enters defaulted 180 1 1 gets Refused 21
    ∷ begun enters defaulted 179 1 1 gets Taken
    ∷ resting enters defaulted 149 1 1 gets Refused 21
    ∷ resting enters defaulted 150 1 1 gets Taken
    ∷ day (agree (set guide service flexible) ∷ offer 0 180 rejected ∷ []) enters defaulted 0 1 1 gets Taken
    ∷ read enters metered 7 (pos 1) gets Refused 22
    ∷ read enters metered 8 (pos 1) gets Taken
    ∷ revised_at 9 enters metered 7 (pos 1) gets Refused 22
    ∷ revised_at 9 enters metered 8 (pos 1) gets Taken
    ∷ corrected enters metered 7 (pos 1) gets Refused 22
    ∷ corrected enters revised 7 8 (pos 1) gets Refused 27
    ∷ corrected enters revised 7 9 (pos 1) gets Refused 27
    ∷ corrected enters revised 7 10 (pos 1) gets Taken
    ∷ corrected enters revised 8 1 (pos 1) gets Taken
    ∷ read enters revised 7 1 (pos 1) gets Taken
    ∷ revised_at 1 enters revised 7 1 (pos 1) gets Refused 27
    ∷ revised_at 1 enters revised 7 2 (pos 1) gets Taken
    ∷ revised_at 254 enters revised 7 255 (pos 1) gets Taken
    ∷ revised_at 255 enters revised 7 255 (pos 1) gets Refused 27
    ∷ windows 128 enters offer 3840 3870 accepted gets Refused 23
    ∷ windows 127 enters offer 3810 3840 accepted gets Taken
    ∷ over 2 (many_instructed 64 3) enters instructed 1667 1687 gets Refused 23
    ∷ over 2 (many_instructed 63 3) enters instructed 1641 1661 gets Taken
    ∷ faulty 128 enters defaulted 0 1 1 gets Refused 23
    ∷ faulty 127 enters defaulted 0 1 1 gets Taken
    -- one place is left in a table, and together with any other it would be full
    ∷ over 3 (periods 127 0 ++ (instructed 3 23 ∷ defaulted 0 1 1 ∷ [])) enters offer 3810 3840 accepted gets Taken
    ∷ over 2 (periods 64 0 ++ (defaulted 0 1 1 ∷ many_instructed 63 3)) enters instructed 1641 1661 gets Taken
    ∷ day (opening ++ (instructed 3 23 ∷ replicate 127 (defaulted 0 1 1))) enters defaulted 0 1 1 gets Taken
    ∷ []

-- ---- a date

-- 28: year, month and day at both ends of their ranges, and days that a month lacks; whatever the book. What gets 29 is a date
abbrev pub calendar_cases : List Case
calendar_cases =
    begun enters dated 2006 12 31 gets Refused 28
    ∷ begun enters dated 2007 1 1 gets Refused 29
    ∷ begun enters dated 2099 12 31 gets Refused 29
    ∷ begun enters dated 2100 1 1 gets Refused 28
    ∷ begun enters dated 65535 1 1 gets Refused 28
    ∷ begun enters dated 2024 0 1 gets Refused 28
    ∷ begun enters dated 2024 1 1 gets Refused 29
    ∷ begun enters dated 2024 12 1 gets Refused 29
    ∷ begun enters dated 2024 13 1 gets Refused 28
    ∷ begun enters dated 2024 255 1 gets Refused 28
    ∷ begun enters dated 2024 1 0 gets Refused 28
    ∷ begun enters dated 2024 1 31 gets Refused 29
    ∷ begun enters dated 2024 1 32 gets Refused 28
    ∷ begun enters dated 2024 1 255 gets Refused 28
    ∷ begun enters dated 2023 2 28 gets Refused 29
    ∷ begun enters dated 2023 2 29 gets Refused 28
    ∷ begun enters dated 2024 2 29 gets Refused 29
    ∷ begun enters dated 2024 2 30 gets Refused 28
    ∷ begun enters dated 2024 3 31 gets Refused 29
    ∷ begun enters dated 2024 4 30 gets Refused 29
    ∷ begun enters dated 2024 4 31 gets Refused 28
    ∷ begun enters dated 2024 6 31 gets Refused 28
    ∷ begun enters dated 2024 9 31 gets Refused 28
    ∷ begun enters dated 2024 11 31 gets Refused 28
    ∷ begun enters dated 2024 12 31 gets Refused 29
    ∷ begun enters dated 2024 12 32 gets Refused 28
    ∷ begun enters dated 0 0 0 gets Refused 28
    ∷ shut begun enters dated 2024 13 1 gets Refused 28
    ∷ empty enters dated 2024 13 1 gets Refused 28
    ∷ []

-- 15: an October needs an hour more, a March no less, and the greater of what the book asks and what the date asks counts. 29: a date, a window, an
-- instruction, a reading of either kind in the span. 30: the 1st, and the contract's days
abbrev pub date_cases : List Case
date_cases =
    lending 44699 (over 31 []) enters dated 2024 10 1 gets Refused 15
    ∷ lending 44700 (over 31 []) enters dated 2024 10 1 gets Taken
    ∷ lending 44639 (over 31 []) enters dated 2024 3 1 gets Refused 15
    ∷ over 31 [] enters dated 2024 3 1 gets Taken
    ∷ lending 44580 (over 31 []) enters dated 2024 3 1 gets Refused 15
    ∷ lending 44639 (over 31 []) enters dated 2024 1 1 gets Refused 15
    ∷ over 31 [] enters dated 2024 1 1 gets Taken
    ∷ over 1 (offer 0 30 accepted ∷ []) enters dated 2024 1 1 gets Refused 29
    ∷ over 1 (instructed 5 85 ∷ []) enters dated 2024 1 1 gets Refused 29
    ∷ over 1 (metered 0 (pos 0) ∷ []) enters dated 2024 1 1 gets Refused 29
    ∷ over 1 (metered 1439 (pos 0) ∷ []) enters dated 2024 1 1 gets Refused 29
    ∷ over 1 (revised 0 1 (pos 0) ∷ []) enters dated 2024 1 1 gets Refused 29
    ∷ over 1 (revised 1439 1 (pos 0) ∷ []) enters dated 2024 1 1 gets Refused 29
    ∷ over 31 (metered 44639 (pos 0) ∷ []) enters dated 2024 1 1 gets Refused 29
    ∷ over 31 [] enters dated 2024 1 2 gets Refused 30
    ∷ over 30 [] enters dated 2024 1 1 gets Refused 30
    ∷ over 29 [] enters dated 2024 2 1 gets Taken
    ∷ over 28 [] enters dated 2024 2 1 gets Refused 30
    ∷ over 28 [] enters dated 2023 2 1 gets Taken
    ∷ []

-- a book with a date. 29: a second one. 15 and 16: by the hour that its month gains or loses; a month that keeps its hours
abbrev pub january_cases : List Case
january_cases =
    lending 44639 in_january enters dated 2024 1 1 gets Refused 15
    ∷ in_january enters dated 2024 1 1 gets Refused 29
    ∷ lending 44699 in_january enters dated 2024 10 1 gets Refused 15
    ∷ lending 44700 in_january enters dated 2024 10 1 gets Refused 29
    ∷ lending 44639 in_january enters closeᶜ gets Refused 15
    ∷ in_january enters closeᶜ gets Taken
    ∷ in_january enters metered 44639 (pos 0) gets Taken
    ∷ lending 44700 in_january enters metered 44640 (pos 0) gets Refused 16
    ∷ []

-- one that gains an hour. A window that ends after it gets 3
abbrev pub october_cases : List Case
october_cases =
    lending 44699 in_october enters dated 2024 1 1 gets Refused 15
    ∷ in_october enters dated 2024 1 1 gets Refused 29
    ∷ lending 44699 in_october enters offer 0 30 accepted gets Refused 15
    ∷ lending 44699 in_october enters instructed 5 85 gets Refused 15
    ∷ lending 44699 in_october enters metered 0 (pos 0) gets Refused 15
    ∷ lending 44699 in_october enters revised 0 1 (pos 0) gets Refused 15
    ∷ lending 44699 in_october enters closeᶜ gets Refused 15
    ∷ in_october enters closeᶜ gets Taken
    ∷ in_october enters offer 44670 44700 accepted gets Taken
    ∷ in_october enters offer 44670 44730 accepted gets Refused 3
    ∷ in_october enters instructed 5 44694 gets Taken
    ∷ in_october enters instructed 5 44695 gets Refused 16
    ∷ in_october enters metered 44699 (pos 0) gets Taken
    ∷ in_october enters metered 44700 (pos 0) gets Refused 16
    ∷ in_october enters revised 44699 1 (pos 0) gets Taken
    ∷ in_october enters revised 44700 1 (pos 0) gets Refused 16
    ∷ []

-- one that loses an hour, and still needs room for it
abbrev pub march_cases : List Case
march_cases =
    lending 44639 in_march enters dated 2024 3 1 gets Refused 15
    ∷ in_march enters dated 2024 3 1 gets Refused 29
    ∷ lending 44639 in_march enters offer 0 30 accepted gets Refused 15
    ∷ lending 44580 in_march enters closeᶜ gets Refused 15
    ∷ in_march enters closeᶜ gets Taken
    ∷ in_march enters offer 44550 44580 accepted gets Taken
    ∷ in_march enters offer 44550 44610 accepted gets Refused 16
    ∷ in_march enters instructed 5 44574 gets Taken
    ∷ in_march enters instructed 5 44575 gets Refused 16
    ∷ in_march enters metered 44579 (pos 0) gets Taken
    ∷ in_march enters metered 44580 (pos 0) gets Refused 16
    ∷ in_march enters revised 44579 1 (pos 0) gets Taken
    ∷ in_march enters revised 44580 1 (pos 0) gets Refused 16
    ∷ []

-- the period that ends at minute m, as a window
abbrev pub last_window : ℕ → Command
last_window m = offer (m - 30) m accepted

-- defaults in the last window of either
abbrev pub last_window_cases : List Case
last_window_cases =
    dating 44640 march (last_window 44580 ∷ []) enters defaulted 44579 1 1 gets Taken
    ∷ dating 44640 march (last_window 44580 ∷ []) enters defaulted 44580 1 1 gets Refused 16
    ∷ dating 44700 october (last_window 44700 ∷ []) enters defaulted 44699 1 1 gets Taken
    ∷ dating 44700 october (last_window 44700 ∷ []) enters defaulted 44700 1 1 gets Refused 16
    ∷ []

-- ---- the first number in the list is given: beside the number that each of these gets, the later ones of its group hold too

abbrev pub first_cases : List Case
first_cases =
    -- a contract: 3 4 12 14 15
    lending 1439 (shut begun) enters agree (set (set guide contracted 500001) rampup 1) gets Refused 3
    ∷ lending 1439 (shut begun) enters agree (set guide rampup 1) gets Refused 4
    ∷ lending 1439 (shut begun) enters agree guide gets Refused 12
    ∷ lending 1439 begun enters agree guide gets Refused 14
    ∷ begun enters agree (set guide days 2) gets Refused 14
    ∷ lending 1439 empty enters agree (set guide rampup 1) gets Refused 4
    -- a date: 28 12 15 29 30, and 13 without a contract, where 15 holds in an October
    ∷ lending 1439 (shut begun) enters dated 2024 1 0 gets Refused 28
    ∷ lending 1439 (shut begun) enters dated 2024 1 2 gets Refused 12
    ∷ lending 1439 begun enters dated 2024 1 2 gets Refused 15
    ∷ lending 1499 begun enters dated 2024 10 2 gets Refused 15
    ∷ lending 1500 begun enters dated 2024 10 2 gets Refused 29
    ∷ begun enters dated 2024 1 2 gets Refused 29
    ∷ lending 1439 (over 1 []) enters dated 2024 1 2 gets Refused 15
    ∷ over 1 [] enters dated 2024 1 2 gets Refused 30
    ∷ lending 0 empty enters dated 2024 10 0 gets Refused 28
    ∷ lending 0 empty enters dated 2024 10 2 gets Refused 13
    -- a window: 3 5 12 15 16 17 18 23
    ∷ lending 4319 (shut (windows 128)) enters offer 31 44701 rejected gets Refused 3
    ∷ lending 4319 (shut (windows 128)) enters offer 31 44640 rejected gets Refused 5
    ∷ lending 4319 (shut (windows 128)) enters offer 30 44640 rejected gets Refused 12
    ∷ lending 4319 (windows 128) enters offer 30 44640 rejected gets Refused 15
    ∷ windows 128 enters offer 30 44640 rejected gets Refused 16
    ∷ windows 128 enters offer 30 60 rejected gets Refused 17
    ∷ windows 128 enters offer 30 60 accepted gets Refused 18
    -- without a contract: 3 5 13, and 16 with a span of 0
    ∷ empty enters offer 31 44701 rejected gets Refused 3
    ∷ empty enters offer 31 60 rejected gets Refused 5
    ∷ empty enters offer 30 60 rejected gets Refused 13
    -- an instruction: 3 12 15 16 19 20 23, but 3 holds with 16 only where 20 does not
    ∷ lending 2879 (shut called) enters instructed 2 10 gets Refused 3
    ∷ called enters instructed 44701 44700 gets Refused 3
    ∷ lending 2879 (shut called) enters instructed 2870 2875 gets Refused 12
    ∷ lending 2879 called enters instructed 2870 2875 gets Refused 15
    ∷ called enters instructed 2870 2875 gets Refused 16
    ∷ called enters instructed 2870 2874 gets Refused 19
    ∷ called enters instructed 2850 2874 gets Refused 20
    ∷ empty enters instructed 2 10 gets Refused 3
    -- a default: 3 12 15 16 21 23
    ∷ lending 1439 (shut (faulty 128)) enters defaulted 44701 1 1 gets Refused 3
    ∷ lending 1439 (shut (faulty 128)) enters defaulted 1440 1 1 gets Refused 12
    ∷ lending 1439 (faulty 128) enters defaulted 1440 1 1 gets Refused 15
    ∷ faulty 128 enters defaulted 1440 1 1 gets Refused 16
    ∷ faulty 128 enters defaulted 180 1 1 gets Refused 21
    ∷ empty enters defaulted 0 0 1 gets Refused 3
    -- a reading: 3 12 15 22, and 16 in a minute past the span
    ∷ lending 1439 (shut read) enters metered 7 (pos 500001) gets Refused 3
    ∷ lending 1439 (shut read) enters metered 7 (pos 0) gets Refused 12
    ∷ lending 1439 read enters metered 7 (pos 0) gets Refused 15
    ∷ lending 1439 (shut read) enters metered 1440 (pos 500001) gets Refused 3
    ∷ lending 1439 (shut read) enters metered 1440 (pos 0) gets Refused 12
    ∷ lending 1439 read enters metered 1440 (pos 0) gets Refused 15
    ∷ empty enters metered 7 (pos 500001) gets Refused 3
    -- a revision: 3 12 15 27, and 16 in a minute past the span
    ∷ lending 1439 (shut corrected) enters revised 7 0 (pos 0) gets Refused 3
    ∷ lending 1439 (shut corrected) enters revised 7 9 (pos 500001) gets Refused 3
    ∷ lending 1439 (shut corrected) enters revised 7 9 (pos 0) gets Refused 12
    ∷ lending 1439 corrected enters revised 7 9 (pos 0) gets Refused 15
    ∷ lending 1439 (shut corrected) enters revised 1440 0 (pos 0) gets Refused 3
    ∷ lending 1439 (shut corrected) enters revised 1440 9 (pos 0) gets Refused 12
    ∷ lending 1439 corrected enters revised 1440 9 (pos 0) gets Refused 15
    ∷ corrected enters revised 7 0 (pos 0) gets Refused 3
    ∷ shut corrected enters revised 7 9 (pos 0) gets Refused 12
    ∷ empty enters revised 7 0 (pos 0) gets Refused 3
    -- a close: 12 15
    ∷ lending 1439 (shut begun) enters closeᶜ gets Refused 12
    ∷ []

-- 11 comes after 5 and 28 and before 12: the answer in a book that no list of commands leaves
abbrev pub or_eleven : Answer → Answer
or_eleven Taken = Refused 11
or_eleven (Err r) = Refused (cond (eqb (number_of r) 28) 28 (min (number_of r) 11))

-- ---- settling

-- commands without the reading of minute m
abbrev pub without : ℕ → List Command → List Command
without m cs = filter (λ c. not (is_some (reading_in c m))) cs

-- two instructions, the second one's base minutes 29 to 32 right after the first one's end, and readings of 0 kW in all needed minutes
abbrev pub twice : List Command
twice =
    agree guide ∷ instructed 3 23 ∷ instructed 32 52
    ∷ (readings_from 0 (replicate 4 (pos 0)) ++ readings_from 17 (replicate 16 (pos 0)) ++ readings_from 46 (replicate 12 (pos 0)) ++ (closeᶜ ∷ []))

-- 24: an open book, the empty one too. 25: base, ramp up, steady and ramp down minutes, and none but these. 26: a line too many
abbrev pub settlings : List Settling
settlings =
    empty settles_into 6 gets Refused 24
    ∷ begun settles_into 6 gets Refused 24
    ∷ shut begun settles_into 0 gets Taken
    ∷ day appendix2 settles_into 7 gets Taken
    ∷ day appendix2 settles_into 6 gets Taken
    ∷ day appendix2 settles_into 5 gets Refused 26
    ∷ day (without 2 appendix2) settles_into 6 gets Refused 25
    ∷ day (without 3 appendix2) settles_into 6 gets Refused 25
    ∷ day (without 4 appendix2) settles_into 6 gets Refused 25
    ∷ day (without 5 appendix2) settles_into 6 gets Refused 25
    ∷ day (without 19 appendix2) settles_into 6 gets Refused 25
    ∷ day (without 24 appendix2) settles_into 6 gets Refused 25
    ∷ day (without 25 appendix2) settles_into 6 gets Refused 25
    ∷ day (without 84 appendix2) settles_into 6 gets Refused 25
    ∷ day (without 85 appendix2) settles_into 6 gets Refused 25
    ∷ day (without 90 appendix2) settles_into 6 gets Refused 25
    ∷ day (without 1 (without 6 (without 18 (without 91 appendix2)))) settles_into 6 gets Taken
    ∷ day twice settles_into 6 gets Taken
    ∷ day (without 0 twice) settles_into 6 gets Refused 25
    ∷ day (without 28 twice) settles_into 6 gets Refused 25
    ∷ day (without 29 twice) settles_into 6 gets Refused 25
    ∷ day (without 46 twice) settles_into 6 gets Refused 25
    -- 15 24 25 26, each with the later ones
    ∷ lending 1439 (day (agree guide ∷ instructed 5 85 ∷ [])) settles_into 0 gets Refused 15
    ∷ day (agree guide ∷ instructed 5 85 ∷ []) settles_into 0 gets Refused 24
    ∷ shut (day (agree guide ∷ instructed 5 85 ∷ [])) settles_into 0 gets Refused 25
    ∷ lending 1439 (day appendix2) settles_into 6 gets Refused 15
    ∷ []

-- 15 by the date's month
abbrev pub dated_settlings : List Settling
dated_settlings =
    lending 44699 (shut in_october) settles_into 0 gets Refused 15
    ∷ shut in_october settles_into 0 gets Taken
    ∷ lending 44639 (shut in_march) settles_into 0 gets Refused 15
    ∷ shut in_march settles_into 0 gets Taken
    ∷ []

-- ---- reading

-- the bytes of a date
abbrev pub date_bytes : List ℕ
date_bytes = 0x54 ∷ 0x07 ∷ 0xE8 ∷ 0x0A ∷ 0x01 ∷ []

-- each command whole; 2 with a byte less, or its own byte alone; 1 at another byte; the end, and past it
abbrev pub findings : List Finding
findings =
    sample_bytes at 0 gets Got (agree guide) 32
    ∷ sample_bytes at 32 gets Got (offer 0 180 accepted) 38
    ∷ sample_bytes at 38 gets Got (instructed 5 85) 43
    ∷ sample_bytes at 43 gets Got (defaulted 31 4 1) 48
    ∷ sample_bytes at 48 gets Got (metered 7 (minus 1)) 55
    ∷ sample_bytes at 55 gets Got (revised 7 9 (pos 2)) 63
    ∷ sample_bytes at 63 gets Got closeᶜ 64
    ∷ sample_bytes at 64 gets End
    ∷ sample_bytes at 65 gets End
    ∷ date_bytes at 0 gets Got (dated 2024 10 1) 5
    ∷ take 4 date_bytes at 0 gets Err CutOff
    ∷ take 1 date_bytes at 0 gets Err CutOff
    ∷ (0x54 ∷ 0xFF ∷ 0xFF ∷ 0xFF ∷ 0xFF ∷ []) at 0 gets Got (dated 65535 255 255) 5
    ∷ [] at 0 gets End
    ∷ take 31 sample_bytes at 0 gets Err CutOff
    ∷ take 32 sample_bytes at 0 gets Got (agree guide) 32
    ∷ take 32 sample_bytes at 32 gets End
    ∷ take 33 sample_bytes at 32 gets Err CutOff
    ∷ take 37 sample_bytes at 32 gets Err CutOff
    ∷ take 42 sample_bytes at 38 gets Err CutOff
    ∷ take 47 sample_bytes at 43 gets Err CutOff
    ∷ take 54 sample_bytes at 48 gets Err CutOff
    ∷ take 62 sample_bytes at 55 gets Err CutOff
    ∷ sample_bytes at 1 gets Err UnknownCommand
    ∷ (0x4D ∷ 0xAE ∷ 0x9D ∷ 0x7F ∷ 0xFF ∷ 0xFF ∷ 0xFF ∷ []) at 0 gets Got (metered 44701 (pos 2147483647)) 7
    ∷ (0x4D ∷ 0x00 ∷ 0x00 ∷ 0x80 ∷ 0x00 ∷ 0x00 ∷ 0x00 ∷ []) at 0 gets Got (metered 0 (minus 2147483648)) 7
    ∷ (0x52 ∷ 0xAE ∷ 0x9D ∷ 0xFF ∷ 0x7F ∷ 0xFF ∷ 0xFF ∷ 0xFF ∷ []) at 0 gets Got (revised 44701 255 (pos 2147483647)) 8
    ∷ (0x52 ∷ 0x00 ∷ 0x00 ∷ 0x00 ∷ 0x80 ∷ 0x00 ∷ 0x00 ∷ 0x00 ∷ []) at 0 gets Got (revised 0 0 (minus 2147483648)) 8
    ∷ []

-- a reader stops with 1
abbrev pub is_unknown : Read → Bool
is_unknown (Got c next) = false
is_unknown (Err r) = eqb (number_of r) 1
is_unknown End = false

-- ---- the promise

-- of a list of commands
pub record EntryCases (cases : List Case) : Type 0 where
  -- those of each setting are taken
  pub settings : map (λ c. taken c.setting.size c.setting.commands) cases ≡ map (λ c. c.setting.commands) cases
  -- and after them the command gets its answer
  pub answers :
      map (λ c. answer_of (refusal false c.setting.now (ledger_of c.setting.commands) c.command)) cases ≡ map (λ c. c.answer) cases
  -- or 11, unless a number before it holds, in a book that no list of commands leaves
  pub unsound :
      map (λ c. answer_of (refusal true c.setting.now (ledger_of c.setting.commands) c.command)) cases
      ≡ map (λ c. or_eleven c.answer) cases

-- the same of a list of settlements
pub record SettlementCases (cases : List Settling) : Type 0 where
  pub settings : map (λ s. taken s.setting.size s.setting.commands) cases ≡ map (λ s. s.setting.commands) cases
  pub answers :
      map (λ s. answer_of (settle_refusal false s.setting.now s.room (ledger_of s.setting.commands))) cases ≡ map (λ s. s.answer) cases
  pub unsound :
      map (λ s. answer_of (settle_refusal true s.setting.now s.room (ledger_of s.setting.commands))) cases
      ≡ map (λ s. or_eleven s.answer) cases

-- every example above
pub record Refusals : Type 0 where
  pub operands : EntryCases operand_cases
  pub inputs : EntryCases input_cases
  pub books : EntryCases book_cases
  pub spans : EntryCases span_cases
  pub orders : EntryCases order_cases
  pub tables : EntryCases table_cases
  pub calendars : EntryCases calendar_cases
  pub dates : EntryCases date_cases
  pub kept_hours : EntryCases january_cases
  pub gained_hour : EntryCases october_cases
  pub lost_hour : EntryCases march_cases
  pub last_windows : EntryCases last_window_cases
  pub first : EntryCases first_cases
  -- 29 does not look past the span: no list of commands leaves a reading there, but lent memory may hold one
  pub past_span : refusal false 44700 (ledger_of (lasting 31 ∷ metered 44640 (pos 0) ∷ [])) (dated 2024 10 1) ≡ none
  pub settling : SettlementCases settlings
  pub dated_settling : SettlementCases dated_settlings
  -- what is found at each position
  pub reading : map (λ f. read_at f.bytes f.position) findings ≡ map (λ f. f.found) findings
  -- the only bytes that do not get 1
  pub known : filter (λ b. not (is_unknown (read_at (b ∷ []) 0))) (between 0 256) ≡ 0x43 ∷ 0x44 ∷ 0x49 ∷ 0x4D ∷ 0x52 ∷ 0x54 ∷ 0x57 ∷ 0x5A ∷ []
  -- a command of each kind is written as it is read
  pub writing : concat_map write sample ≡ sample_bytes
  pub date_writing : write (dated 2024 10 1) ≡ date_bytes
