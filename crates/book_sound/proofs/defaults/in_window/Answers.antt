-- `book_sound::defaults::in_window` meets its contract: of windows in order only the last that starts by a minute can hold it.
use Rattle.std.proofs.Common.{leb, rules}
use Rattle.std.proofs.lemmas.List.Sorted.{IsPartitionPoint-from_clause}
use Rattle.commands.specs.declared.entries.Window.{Window}
use Rattle.book_sound.proofs.Search.{parted, last-says}
use Rattle.book_sound.proofs.defaults.in_window.Goals as goal

pub returns : goal.returns
returns c =
    let m = c.args.m.0 in
    let point = IsPartitionPoint-from_clause (λ (w : Window). leb w.start.0 m) _ _ c.partition_point-started.ensures.partitioned (parted c.requires m)
    (λ a r q h. search rules) in
    last-says c.requires m _ c.last.result c.is_some_and.result c.partition_point-started.ensures.bound point c.last.ensures.value c.is_some_and.ensures
    (λ w h. search rules)
