-- The definitions of the rules, all opened by one name: `unfolding opened` lets a closed case compute.
use Rattle.energy.specs.Lists.{first, filter, any, all, count, sum, sum_ℕ, is_empty, last, is_some, else, later, concat_map, pass, run, between}
use Rattle.energy.specs.Number.{ceiling, nearest, lesser}
use Rattle.calendar.specs.Calendar.{days_of, is_date, gained_in, lost_in}
use Rattle.commands.specs.Refusals.{refusal_of}
use Rattle.commands.specs.Input.{up_minutes, down_minutes, first_met}
use Rattle.rules.specs.Ledger.{reading_of, ledger_of, contract_of, date_of, span_in, cells_in}
use Rattle.rules.specs.Refusal.{conditions, refusal, taken_after, taken}
use Rattle.rules.specs.Segment.{active, base_minutes, needed, complete, stage_of, excludes, live, in_live, rate_at, alike, heads, segments_of}
use Rattle.rules.specs.Segment.{segments_from, segments}
use Rattle.rules.specs.Statement.{reads, base_load, expected_of, delivered_of, line_of, lines, paid, paid_periods, penalty, period_exact, period_pence}
use Rattle.rules.specs.Statement.{available_of, windows_paid, statement_of, exact_of, exact_energy, paid_count, exact_amount, allowance}
use Rattle.rules.specs.Statement.{settle_conditions, settle_refusal}
use Rattle.rules.specs.File.{table, widths_of, total, word_from, bytes_of, signed_of, operands, command_of, read_at, write_operands, write, written}
use Rattle.rules.specs.File.{file_of, write_conditions, commands_from, commands_in}

unfoldable pub opened : Unit {0}
unfolding refusal_of first filter any all count sum sum_ℕ is_empty last is_some else later concat_map pass run between ceiling nearest lesser reading_of ledger_of contract_of
    date_of days_of is_date gained_in lost_in span_in cells_in up_minutes down_minutes conditions first_met refusal taken_after taken active base_minutes needed complete stage_of excludes live in_live rate_at
    alike heads segments_of segments_from segments reads base_load expected_of delivered_of line_of lines paid paid_periods penalty period_exact period_pence
    available_of windows_paid statement_of exact_of exact_energy paid_count exact_amount allowance settle_conditions settle_refusal table widths_of total
    word_from bytes_of signed_of operands command_of read_at write_operands write written file_of write_conditions commands_from commands_in
opened = tt
