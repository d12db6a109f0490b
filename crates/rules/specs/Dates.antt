-- Proved of the rules: months with a date by example: which dates are taken, the span and the room that they ask for, an October's last hour in a
-- statement, and what is written. And of every month with a date: its span is the half hours of its days.
use Rattle.std.specs.Prelude.{◌≡◌, true, false, List, [], ◌∷◌, ◌++◌, ℕ, ◌+◌, ◌*◌, pos, drop, set, replicate}
use Rattle.std.proofs.Math.Option.{Option, none, some}
use Rattle.energy.specs.Lists.{between, sum_ℕ}
use Rattle.calendar.specs.Calendar.{no_date, periods_on}
use Rattle.calendar.specs.declared.Date.{Date}
use Rattle.rules.specs.Ledger.{ledger_of, contract_of, date_of, span_in, cells_in}
use Rattle.rules.specs.Refusal.{refusal, taken}
use Rattle.rules.specs.Statement.{lines, statement_of, nothing, settle_refusal}
use Rattle.rules.specs.File.{file_of}
use Rattle.rules.specs.Examples.{agree, guide, days, accepted, offer, instructed, metered, revised, readings_from, example_line, pays}
use Rattle.commands.specs.declared.entries.Command.{Command}
use Rattle.commands.specs.declared.entries.Command.TheVariants.{Date as dateᶜ, Close as closeᶜ}
use Rattle.rules.specs.declared.statement.Stage.TheVariants.{Up, Steady, Down}
use Rattle.rules.specs.declared.statement.Rate.TheVariants.{Utilisation}

-- ---- months

-- the date of a year's month and day
abbrev pub on : ℕ → ℕ → ℕ → Date
on y m d = record { year = y; month = m; day = d }

-- a date: year, month, day
abbrev pub dated : ℕ → ℕ → ℕ → Command
dated y m d = dateᶜ (on y m d)

-- Appendix 2's contract over n days
abbrev pub lasting : ℕ → Command
lasting n = agree (set guide days n)

-- a month of n days, and a command after it
abbrev pub starting : ℕ → Command → List Command
starting n c = lasting n ∷ c ∷ []

-- a month that loses an hour, one that gains one, and one that keeps its hours
abbrev pub march : List Command
march = starting 31 (dated 2024 3 1)

abbrev pub october : List Command
october = starting 31 (dated 2024 10 1)

abbrev pub january : List Command
january = starting 31 (dated 2024 1 1)

-- the number that a command gets after these, with lent memory of some size
abbrev pub meets : ℕ → List Command → Command → Option ℕ
meets size cs c = refusal false size (ledger_of cs) c

-- ---- span and room

-- the months above are taken, with no more lent memory than they need
pub record DatesTaken : Type 0 where
  pub in_march : taken 44640 march ≡ march
  pub in_october : taken 44700 october ≡ october
  pub in_january : taken 44640 january ≡ january
  -- in February by its days
  pub leap : meets 41760 (lasting 29 ∷ []) (dated 2024 2 1) ≡ none
  pub common : meets 40320 (lasting 28 ∷ []) (dated 2024 2 1) ≡ some 30

-- span and room of a month with a date, and without
pub record Spans : Type 0 where
  pub march_span : span_in (ledger_of march) ≡ 44580
  pub march_cells : cells_in (ledger_of march) ≡ 44640
  pub october_span : span_in (ledger_of october) ≡ 44700
  pub october_cells : cells_in (ledger_of october) ≡ 44700
  pub january_span : span_in (ledger_of january) ≡ 44640
  pub january_cells : cells_in (ledger_of january) ≡ 44640
  pub undated_span : span_in (ledger_of (lasting 31 ∷ [])) ≡ 44640
  pub undated_cells : cells_in (ledger_of (lasting 31 ∷ [])) ≡ 44640
  pub empty_span : span_in (ledger_of []) ≡ 0
  pub empty_cells : cells_in (ledger_of []) ≡ 0

-- what a ledger has of a date
pub record DatesHeld : Type 0 where
  pub held : (ledger_of october).dates ≡ on 2024 10 1 ∷ []
  pub one : date_of (ledger_of october) ≡ on 2024 10 1
  pub zeros : date_of (ledger_of (lasting 31 ∷ [])) ≡ no_date

-- ---- what is turned down, each beside what is not: every number by more examples in rules_refused

pub record DatesMet : Type 0 where
  -- 28: before 11
  pub no_day : refusal true 0 (ledger_of []) (dated 2023 2 29) ≡ some 28
  pub day : refusal true 0 (ledger_of []) (dated 2024 2 29) ≡ some 11
  -- 15: an October asks for an hour more, a March for no less
  pub october_room : meets 44699 (lasting 31 ∷ []) (dated 2024 10 1) ≡ some 15
  pub march_room : meets 44639 (lasting 31 ∷ []) (dated 2024 3 1) ≡ some 15
  pub october_book : meets 44699 october closeᶜ ≡ some 15
  pub march_book : meets 44639 march closeᶜ ≡ some 15
  -- 29: a date, a window, an instruction, a reading of either kind
  pub again : meets 44700 january (dated 2024 10 1) ≡ some 29
  pub window : meets 44640 (starting 31 (offer 0 30 accepted)) (dated 2024 1 1) ≡ some 29
  pub instruction : meets 44640 (starting 31 (instructed 5 85)) (dated 2024 1 1) ≡ some 29
  pub reading : meets 1440 (starting 1 (metered 0 (pos 0))) (dated 2024 1 1) ≡ some 29
  pub revision : meets 1440 (starting 1 (revised 1439 1 (pos 0))) (dated 2024 1 1) ≡ some 29
  -- 30: by the day, and by the month's days
  pub second : meets 44640 (lasting 31 ∷ []) (dated 2024 1 2) ≡ some 30
  pub short : meets 1440 (lasting 1 ∷ []) (dated 2024 1 1) ≡ some 30
  -- 16: by the hour that the date gains or loses
  pub march_last : meets 44640 march (metered 44579 (pos 0)) ≡ none
  pub march_past : meets 44640 march (metered 44580 (pos 0)) ≡ some 16
  pub october_last : meets 44700 october (metered 44699 (pos 0)) ≡ none
  pub october_past : meets 44700 october (metered 44700 (pos 0)) ≡ some 16

-- ---- an October's last hour

-- its window, an instruction of which every needed minute is in it, readings there of 12,000 kW above a base load of 0, and the close
abbrev pub last_hour : List Command
last_hour =
    october
    ++ (offer 44640 44700 accepted ∷ instructed 44643 44694 ∷ [])
    ++ readings_from 44640 (replicate 4 (pos 0))
    ++ readings_from 44657 (replicate 43 (pos 12000))
    ++ (closeᶜ ∷ [])

-- it is settled by periods 1,489 and 1,490
pub record LastHour : Type 0 where
  pub all_taken : taken 44700 last_hour ≡ last_hour
  pub settled : settle_refusal false 44700 4 (ledger_of last_hour) ≡ none
  pub short : settle_refusal false 44699 4 (ledger_of last_hour) ≡ some 15
  pub hour_lines :
      lines (ledger_of last_hour)
      ≡ example_line 1 1489 Up Utilisation (pos 600) (pos 1200) (pos 600) (pos 18000)
      ∷ example_line 1 1489 Steady Utilisation (pos 1400) (pos 1400) (pos 1400) (pos 42000)
      ∷ example_line 1 1490 Steady Utilisation (pos 4800) (pos 4800) (pos 4800) (pos 144000)
      ∷ example_line 1 1490 Down Utilisation (pos 600) (pos 1200) (pos 600) (pos 18000)
      ∷ []
  pub statement :
      statement_of (ledger_of last_hour)
      ≡ record {
        lines = 4;
        capped = record { 0 = pos 7400 };
        utilisation = record { 0 = pos 222000 };
        availability = record { 0 = pos 10800 };
        total = record { 0 = pos 232800 };
        windows = pays 2 10800 ∷ replicate 127 nothing;
      }

-- ---- written

-- a ledger dated as an October, in another order than it is written in: of one day, which commands do not leave (30), so that a closed case has few
-- minutes to compute; its last minute is 1,499
abbrev pub mixed_october : List Command
mixed_october = lasting 1 ∷ dated 2024 10 1 ∷ metered 1499 (pos 1) ∷ instructed 5 85 ∷ offer 0 30 accepted ∷ []

-- contract, date, windows, instructions, readings by rising minute
pub record DatesWritten : Type 0 where
  pub bytes :
      drop 32 (file_of (ledger_of mixed_october))
      ≡ (0x54 ∷ 0x07 ∷ 0xE8 ∷ 0x0A ∷ 0x01 ∷ []) ++ (0x57 ∷ 0x00 ∷ 0x00 ∷ 0x00 ∷ 0x1E ∷ 0x00 ∷ []) ++ (0x49 ∷ 0x00 ∷ 0x05 ∷ 0x00 ∷ 0x55 ∷ [])
      ++ (0x4D ∷ 0x05 ∷ 0xDB ∷ 0x00 ∷ 0x00 ∷ 0x00 ∷ 0x01 ∷ [])

-- ---- every month with a date

-- a ledger with date d: the contract's days are the month's, and the span is their half hours
abbrev pub Dated·theorem : Type 0
Dated·theorem =
    (size : ℕ) (cs : List Command) (d : Date) → (ledger_of (taken size cs)).dates ≡ d ∷ []
    → span_in (ledger_of (taken size cs))
    ≡ 30 * sum_ℕ (periods_on d.year d.month) (between 1 ((contract_of (ledger_of (taken size cs))).days + 1))

-- a March's date, once it is taken, asks for no more room and no less
abbrev pub MarchCells·theorem : Type 0
MarchCells·theorem =
    (size : ℕ) (cs : List Command) (d : Date) → d.month ≡ 3 → refusal false size (ledger_of (taken size cs)) (dateᶜ d) ≡ none
    → cells_in (ledger_of (taken size cs ++ (dateᶜ d ∷ []))) ≡ cells_in (ledger_of (taken size cs))
