-- `host_tables::entries` meets its contract: each turn fills the next place, and places after the table's last number are unused.
use Rattle.std.proofs.Common.{◌≡◌, ◌≤◌, ◌<◌, rules, arith}
use Rattle.host_tables.proofs.FilledTables.{past_end, rows_none, rows_next, rows_all}
use Rattle.host_tables.proofs.entries.Goals as goal

pub loop-i-init : goal.loop-i-init
loop-i-init g c = (omega arith, rw c.from_row-all.ensures rows_none)

pub loop-i-preserved : goal.loop-i-preserved
loop-i-preserved g c = (omega arith, rows_next (search rules) c.entry_at.ensures c.loop-i.invariant.1)

pub returns : goal.returns
returns g c =
    let l = c.loop-i in
    let n : l.i ≡ c.min-n.result = search rules in
    rows_all (search rules) (λ j h k. past_end _ _ _ c.requires.0 (search rules)) l.invariant.1
