-- L rows, A rows and the T row, each part behind the one before it.
use mathlib.Core.Path.{◌≡◌}
use native.Mathlib.Omega.{arith}
use borrow.Author.Rules.{rules}
use lib.ListN.{length}
use Rattle.std.proofs.lemmas.List.{length-take}
use Rattle.energy.proofs.Puts.{laid_both}
use Rattle.rules.proofs.Folds.{length_mapped}
use Rattle.lister_rows.specs.Rows.{line_row, listing, window_row}
use Rattle.lister_page.proofs.Places.{lines_are, take_most, windows_are}
use Rattle.lister_page.proofs.put_listing.Goals as goal

pub returns : goal.returns
unfolding listing
returns c =
    let s = c.args.s in
    -- arrays keep the lengths of their types
    let all : length c.args.lines ≡ 719 = search (length_mapped, rules) in
    let all_windows : length s.windows ≡ 128 = search (length_mapped, rules) in
    let lines =
    rw (lines_are, take_most c.min.result s.lines c.args.lines all c.min.ensures)
    at (c.put_rows-after_lines.ensures.laid (λ n l. line_row l) (λ n l r p. search rules)) in
    let windows =
    rw (windows_are, take_most c.min-2.result c.args.windows s.windows all_windows c.min-2.ensures)
    at (c.put_rows-after_windows.ensures.laid window_row (λ n a r p. search rules)) in
    let totals = rw c.totals_row.ensures at c.put_row.ensures.laid in
    let listed = length-take c.min.result c.args.lines in
    let available = length-take c.min-2.result s.windows in
    laid_both (omega arith) (laid_both (omega arith) lines windows) totals
