-- Proved of the rules: Appendix 2 through a call for hosts, to the number: its contract, window and instruction as tables, its readings in meter
-- memory, and what the call answers and leaves in line and sum memory; and which refusal is given where several hold.
use Rattle.std.specs.Prelude.{◌≡◌, List, [], ◌∷◌, ◌++◌, map, ℕ, ◌*◌, ℤ, pos, set, replicate}
use Rattle.book_memory.specs.Meter.{Memory, lent, missing}
use Rattle.rules.specs.Examples.{days, guide, times}
use Rattle.host_tables.specs.Tables.{Tables, tables}
use Rattle.host.specs.Calls.{day_tables, settle_tables}
use Rattle.host_settle.specs.SettleInto.{settled_book}

-- Appendix 2's contract without a date
abbrev pub undated : List ℕ
undated = guide ++ (0 ∷ 0 ∷ 0 ∷ [])

-- Appendix 2's contract, window and instruction
abbrev pub appendix : Tables
appendix = tables undated (0 ∷ 180 ∷ 0 ∷ []) (5 ∷ 85 ∷ []) []

-- the same with its instruction's row cut short
abbrev pub cut : Tables
cut = tables undated (0 ∷ 180 ∷ 0 ∷ []) (5 ∷ []) []

-- its metered MW, from minute 19 to minute 90
abbrev pub metered_mw : List ℕ
metered_mw =
    (0 ∷ 2 ∷ 4 ∷ 6 ∷ 8 ∷ 10 ∷ 12 ∷ 12 ∷ 12 ∷ 12 ∷ 13 ∷ []) ++ times 15 (10 ∷ 13 ∷ []) ++ times 25 (13 ∷ []) ++ (13 ∷ 11 ∷ 9 ∷ 7 ∷ 5 ∷ 3 ∷ [])

-- a day of lent memory with these, and 0 in every other minute, all sent nine times
abbrev pub example_day : Memory
example_day = lent (replicate 19 (pos 0) ++ map (λ x. pos (1000 * x)) metered_mw ++ replicate 1349 (pos 0)) (replicate 1440 9)

-- memory of so many numbers, all 7
abbrev pub sevens : ℕ → List ℤ
sevens n = replicate n (pos 7)

-- the numbers of F1's lines
abbrev pub line_numbers : List ℤ
line_numbers =
    map pos
    ((1 ∷ 1 ∷ 0 ∷ 0 ∷ 600 ∷ 500 ∷ 500 ∷ 15000 ∷ []) ++ (1 ∷ 1 ∷ 1 ∷ 0 ∷ 1000 ∷ 1017 ∷ 1000 ∷ 30000 ∷ [])
    ++ (1 ∷ 2 ∷ 1 ∷ 0 ∷ 6000 ∷ 5750 ∷ 5750 ∷ 172500 ∷ [])
    ++ (1 ∷ 3 ∷ 1 ∷ 0 ∷ 5000 ∷ 5417 ∷ 5000 ∷ 150000 ∷ [])
    ++ (1 ∷ 3 ∷ 2 ∷ 0 ∷ 500 ∷ 750 ∷ 500 ∷ 15000 ∷ [])
    ++ (1 ∷ 4 ∷ 2 ∷ 0 ∷ 100 ∷ 50 ∷ 50 ∷ 1500 ∷ []))

-- the numbers of F1's sums
abbrev pub sum_numbers : List ℤ
sum_numbers = map pos (6 ∷ 1 ∷ 12800 ∷ 384000 ∷ 32400 ∷ 416400 ∷ 6 ∷ 32400 ∷ []) ++ replicate 254 (pos 0)

-- room for six lines is 48 numbers, for the sums 262
pub record Example : Type 0 where
  pub settled : settle_tables appendix example_day (sevens 49) (sevens 263) ≡ settled_book 0 (line_numbers ++ sevens 1) (sum_numbers ++ sevens 1)
  -- a number too few of either
  pub few_lines : settle_tables appendix example_day (sevens 47) (sevens 262) ≡ settled_book 26 (sevens 47) (sevens 262)
  pub few_sums : settle_tables appendix example_day (sevens 48) (sevens 261) ≡ settled_book 26 (sevens 48) (sevens 261)
  -- too few sums, and something before it: no readings, meter or revision memory a minute short, a row cut short
  pub unread : settle_tables appendix (lent (replicate 1440 missing) (replicate 1440 9)) (sevens 48) (sevens 261) ≡ settled_book 25 (sevens 48) (sevens 261)
  pub few_minutes : settle_tables appendix (lent (replicate 1439 (pos 0)) (replicate 1440 9)) (sevens 48) (sevens 261) ≡ settled_book 15 (sevens 48) (sevens 261)
  pub few_bytes : settle_tables appendix (lent (replicate 1440 (pos 0)) (replicate 1439 9)) (sevens 48) (sevens 261) ≡ settled_book 15 (sevens 48) (sevens 261)
  pub cut_short : settle_tables cut example_day (sevens 48) (sevens 261) ≡ settled_book 11 (sevens 48) (sevens 261)

-- Appendix 2's contract over 31 days, with this date
abbrev pub month : ℕ → ℕ → ℕ → Tables
month y m d = tables (set guide days 31 ++ (y ∷ m ∷ d ∷ [])) [] [] []

-- days of October 2024, with a holiday on the 1st: working 256, non-working 512, no such day 0; 11 for a date that no list leaves, and for a row cut short
pub record DayExample : Type 0 where
  pub holiday : day_tables (month 2024 10 1) 1 (1 ∷ []) ≡ 512
  pub working : day_tables (month 2024 10 1) 2 (1 ∷ []) ≡ 256
  pub sunday : day_tables (month 2024 10 1) 27 [] ≡ 512
  pub last : day_tables (month 2024 10 1) 31 [] ≡ 256
  pub missing : day_tables (month 2024 10 1) 32 [] ≡ 0
  pub undated : day_tables (month 0 0 0) 1 [] ≡ 0
  pub second : day_tables (month 2024 10 2) 1 [] ≡ 11
  pub cut_short : day_tables (tables guide [] [] []) 1 [] ≡ 11
