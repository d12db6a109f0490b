-- Dates that are taken, by example: cited, since to compute that a date is taken is to look into every minute for a reading.
use mathlib.Core.Path.{◌≡◌, refl, ◌∙◌}
use mathlib.Core.List.{[], ◌∷◌}
use mathlib.Core.Option.{none, some}
use Prim.Native.Nat.{ℕ, ◌≤◌}
use native.Mathlib.Omega.{arith}
use lib.Dec.{T}
use lib.ListN.{drop, set}
use Rattle.energy.specs.Lists.{concat_map, any, later}
use Rattle.calendar.specs.Calendar.{is_date}
use Rattle.calendar.specs.declared.Date.{Date}
use Rattle.rules.specs.Ledger.{ledger_of, reading_of, full_span, cells_in}
use Rattle.rules.specs.Reached.{date_sound}
use Rattle.rules.specs.Refusal.{taken, taken_after}
use Rattle.rules.specs.File.{contract_from}
use Rattle.rules.specs.Examples.{guide, days}
use Rattle.rules.specs.Dates.{on, dated, lasting, march, october, january, meets, last_hour}
use Rattle.rules.specs.Dates.{DatesTaken, LastHour}
use Rattle.commands.specs.declared.contract.Contract.{Contract}
use Rattle.commands.specs.declared.entries.Command.TheVariants.{Date as dateᶜ}
use Rattle.rules.proofs.Definitions.{opened}
use Rattle.rules.proofs.Replay.{Accepted, all-taken, taken-first, month-taken, agreed_on, date_taken, date_other}

-- the contract over n days
abbrev lasts : ℕ → Contract
lasts n = contract_from (set guide days n)

both : (size : ℕ) (d : Date) → T (date_sound (lasts 31) d) → full_span (lasts 31) d ≤ size → Accepted size (ledger_of []) (lasting 31 ∷ dateᶜ d ∷ [])
unfolding opened
both size d sound room = month-taken size (lasts 31) d tt tt sound room

march_both : Accepted 44640 (ledger_of []) march
unfolding opened
march_both = both 44640 (on 2024 3 1) tt (omega arith)

october_both : Accepted 44700 (ledger_of []) october
unfolding opened
october_both = both 44700 (on 2024 10 1) tt (omega arith)

january_both : Accepted 44640 (ledger_of []) january
unfolding opened
january_both = both 44640 (on 2024 1 1) tt (omega arith)

-- a February's dates are sound under 29 days, and dates under 28; and lent memory has the cells
record February : Type 0 where
  leap : T (date_sound (lasts 29) (on 2024 2 1))
  date : T (is_date (on 2024 2 1))
  leap_cells : cells_in (agreed_on (lasts 29) (on 2024 2 1 ∷ [])) ≤ 41760
  common_cells : cells_in (agreed_on (lasts 28) (on 2024 2 1 ∷ [])) ≤ 40320

february : February
unfolding opened
february =
    record { leap = tt; date = tt; leap_cells = omega arith; common_cells = omega arith }

leap_taken : meets 41760 (lasting 29 ∷ []) (dated 2024 2 1) ≡ none
unfolding ledger_of concat_map any reading_of later
leap_taken = date_taken 41760 (lasts 29) (on 2024 2 1) february.leap_cells february.leap

common_other : meets 40320 (lasting 28 ∷ []) (dated 2024 2 1) ≡ some 30
unfolding ledger_of concat_map any reading_of later
common_other = date_other 40320 (lasts 28) (on 2024 2 1) february.common_cells february.date (unfold opened in refl)

pub dates_taken : DatesTaken
unfolding taken
dates_taken =
    record {
      in_march = all-taken 44640 [] march march_both;
      in_october = all-taken 44700 [] october october_both;
      in_january = all-taken 44640 [] january january_both;
      leap = leap_taken;
      common = common_other;
    }

-- ---- an October's last hour

-- contract and date, and after them the rest
hour_first : taken 44700 last_hour ≡ taken_after 44700 october (drop 2 last_hour)
unfolding taken
hour_first = taken-first 44700 [] october (drop 2 last_hour) october_both

hour_rest : taken_after 44700 october (drop 2 last_hour) ≡ last_hour
unfolding opened
hour_rest = refl

pub last_hour_lem : LastHour
unfolding opened
last_hour_lem = record { all_taken = hour_first ∙ hour_rest; settled = refl; short = refl; hour_lines = refl; statement = refl }
