-- Every example of what is taken and what is turned down, by computation. A date looks at each minute of its span: the settings with one are taken
-- from the rules' own examples.
use mathlib.Core.Path.{◌≡◌, refl, ap, ◌∙◌}
use mathlib.Core.Bool.{false}
use mathlib.Core.List.{List, [], ◌∷◌, ◌++◌}
use Prim.Native.Nat.{ℕ}
use lib.ListN.{replicate}
use Rattle.rules.specs.Ledger.{ledger_of}
use Rattle.rules.specs.Refusal.{refusal, joined, taken_after, taken}
use Rattle.rules.specs.Dates.{march, october}
use Rattle.commands.specs.declared.entries.Command.{Command}
use Rattle.commands.specs.declared.entries.Command.TheVariants.{Close as closeᶜ}
use Rattle.rules_refused.specs.Refused.{EntryCases, SettlementCases, Refusals, last_window}
use Rattle.rules_refused.specs.Refused.{date_cases, january_cases, october_cases, march_cases, last_window_cases, dated_settlings}
use Rattle.rules.proofs.Definitions.{opened}
use Rattle.rules.proofs.DatesTaken.{dates_taken}

-- ---- settings with a date

-- after commands that are taken, those that follow them
after-append : (size : ℕ) (t cs ds : List Command) → taken_after size t (cs ++ ds) ≡ taken_after size (taken_after size t cs) ds
unfolding taken_after
after-append size t [] ds = refl
after-append size t (c ∷ cs) ds = after-append size (joined (refusal false size (ledger_of t) c) t c) cs ds

more : (size : ℕ) (cs ds : List Command) → taken size cs ≡ cs → taken_after size cs ds ≡ cs ++ ds → taken size (cs ++ ds) ≡ cs ++ ds
unfolding taken
more size cs ds e f = after-append size [] cs ds ∙ ap (λ t. taken_after size t ds) e ∙ f

march-window : taken_after 44640 march (last_window 44580 ∷ []) ≡ march ++ (last_window 44580 ∷ [])
unfolding opened
march-window = refl

october-window : taken_after 44700 october (last_window 44700 ∷ []) ≡ october ++ (last_window 44700 ∷ [])
unfolding opened
october-window = refl

march-shut : taken_after 44640 march (closeᶜ ∷ []) ≡ march ++ (closeᶜ ∷ [])
unfolding opened
march-shut = refl

october-shut : taken_after 44700 october (closeᶜ ∷ []) ≡ october ++ (closeᶜ ∷ [])
unfolding opened
october-shut = refl

-- ---- entries

dates : EntryCases date_cases
unfolding opened
dates = record { settings = refl; answers = refl; unsound = refl }

kept_hours_lem : EntryCases january_cases
unfolding opened
kept_hours_lem = record { settings = λ i. replicate 8 (dates_taken.in_january i); answers = refl; unsound = refl }

gained_hour_lem : EntryCases october_cases
unfolding opened
gained_hour_lem = record { settings = λ i. replicate 16 (dates_taken.in_october i); answers = refl; unsound = refl }

lost_hour_lem : EntryCases march_cases
unfolding opened
lost_hour_lem = record { settings = λ i. replicate 13 (dates_taken.in_march i); answers = refl; unsound = refl }

last-windows : EntryCases last_window_cases
unfolding opened
last-windows =
    let m = more 44640 march (last_window 44580 ∷ []) dates_taken.in_march march-window in
    let o = more 44700 october (last_window 44700 ∷ []) dates_taken.in_october october-window in
    record { settings = λ i. m i ∷ m i ∷ o i ∷ o i ∷ []; answers = refl; unsound = refl }

dated_settling_lem : SettlementCases dated_settlings
unfolding opened
dated_settling_lem =
    let m = more 44640 march (closeᶜ ∷ []) dates_taken.in_march march-shut in
    let o = more 44700 october (closeᶜ ∷ []) dates_taken.in_october october-shut in
    record { settings = λ i. o i ∷ o i ∷ m i ∷ m i ∷ []; answers = refl; unsound = refl }

-- ---- all of them

pub refusals : Refusals
unfolding opened
refusals =
    record {
      operands = record { settings = refl; answers = refl; unsound = refl };
      inputs = record { settings = refl; answers = refl; unsound = refl };
      books = record { settings = refl; answers = refl; unsound = refl };
      spans = record { settings = refl; answers = refl; unsound = refl };
      orders = record { settings = refl; answers = refl; unsound = refl };
      tables = record { settings = refl; answers = refl; unsound = refl };
      calendars = record { settings = refl; answers = refl; unsound = refl };
      dates = dates;
      kept_hours = kept_hours_lem;
      gained_hour = gained_hour_lem;
      lost_hour = lost_hour_lem;
      last_windows = last-windows;
      first = record { settings = refl; answers = refl; unsound = refl };
      past_span = refl;
      settling = record { settings = refl; answers = refl; unsound = refl };
      dated_settling = dated_settling_lem;
      reading = refl;
      known = refl;
      writing = refl;
      date_writing = refl;
    }
