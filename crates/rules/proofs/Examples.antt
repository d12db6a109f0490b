-- The examples beside F1 to F12, by computation: which minutes are needed and which lines they give, excluded windows and the rates of lines, what
-- segments deliver, paid periods and P, totals and exact sums, the floor of capped energy, and what a book is written as.
use mathlib.Core.Path.{refl}
use Rattle.rules.specs.Examples.{ledger}
use Rattle.rules.specs.Minutes.{Minutes}
use Rattle.rules.specs.Rates.{Exclusion, Rates}
use Rattle.rules.specs.Delivered.{Delivered}
use Rattle.rules.specs.Availability.{PaidPeriods, Penalties}
use Rattle.rules.specs.Amounts.{Amounts}
use Rattle.rules.specs.Floor.{Floor}
use Rattle.rules.specs.WrittenOrder.{WrittenOrder}
use Rattle.rules.proofs.Definitions.{opened}

pub minutes : Minutes
unfolding opened ledger
minutes =
    record {
      needed_by_each = refl;
      ramp_from_issue = refl;
      instructions_from1 = refl;
      periods_over_midnight = refl;
    }

pub exclusion : Exclusion
unfolding opened ledger
exclusion =
    record {
      not_at_end = refl;
      after_end = refl;
      in_recovery = refl;
      not_after_recovery = refl;
      some_recovery = refl;
      no_recovery = refl;
      end_by_ramp_down = refl;
      every_window = refl;
      any_instruction = refl;
      flexible_too = refl;
      over_midnight = refl;
    }

pub rates : Rates
unfolding opened ledger
rates =
    record {
      ramps_by_their_anchors = refl;
      expiry_last_in_window = refl;
      cease_after_first_in_window = refl;
      cease_at_expiry = refl;
      up_by_itself = refl;
      down_by_itself = refl;
      steady_by_itself = refl;
      rejected_not_live = refl;
      excluded_not_live = refl;
      reducer_outside = refl;
      second_by_its_own = refl;
      second_in_window = refl;
    }

pub delivered : Delivered
unfolding opened ledger
delivered =
    record {
      base_in_quarters = refl;
      reducer_base_in_quarters = refl;
      reducer_below0 = refl;
      most_missing = refl;
      base_below0 = refl;
      reading_below0 = refl;
      own_base = refl;
      second_day = refl;
    }

pub paid-periods : PaidPeriods
unfolding opened ledger
paid-periods =
    record {
      reach1 = refl;
      reach2 = refl;
      reach3 = refl;
      reach2_at_end = refl;
      reach2_at_start = refl;
      reach3_at_end = refl;
      delivery_reach1 = refl;
      delivery_reach2 = refl;
      delivery_reach3 = refl;
      to_midnight = refl;
      second_day = refl;
    }

pub penalties : Penalties
unfolding opened ledger
penalties =
    record {
      window_once = refl;
      kinds_once = refl;
      flexible_too = refl;
      rejected_not = refl;
      excluded_not = refl;
      second_day = refl;
    }

pub amounts : Amounts
unfolding opened ledger
amounts =
    record {
      line_pence = refl;
      total = refl;
      optional_in_total = refl;
      periods_in_window = refl;
      periods_in_total = refl;
      exactly = refl;
      exact_pence = refl;
      exact_periods = refl;
      allowed = refl;
      unpaid_not_allowed = refl;
    }

pub floor : Floor
unfolding opened ledger
floor =
    record {
      listed = refl;
      window_stands = refl;
      exactly = refl;
      exact_pence = refl;
      not_by_minute = refl;
      not_by_month = refl;
      exactly_not_by_month = refl;
      second_by_itself = refl;
      reducer_too = refl;
    }

pub written_order : WrittenOrder
unfolding opened ledger
written_order =
    record {
      ordered = refl;
      closed = refl;
      no_bytes = refl;
    }
