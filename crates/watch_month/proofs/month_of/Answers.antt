-- `watch_month::month_of` meets its contract: what settling reads off a sound book gives the month (`BookMonth`), and the refusals come first.
-- Assumes nothing.
use Rattle.std.proofs.Common.{◌≡◌, ◌∙◌, true, ℕ, arith, rules}
use Rattle.std.proofs.lemmas.List.{length-replicate, length-take}
use Rattle.rules.proofs.Folds.{length_mapped}
use Rattle.book.specs.Sound.{Shaped, sound}
use Rattle.settle_terms.specs.Terms.{period_places}
use Rattle.settle_live.proofs.Marks.{live_first, windows_first}
use Rattle.settle_availability.proofs.Defaults.{unmarked_zeros}
use Rattle.watch_month.proofs.BookMonth.{workable, is_11, is_26, is_laid}
use Rattle.watch_month.proofs.month_of.Goals as goal

pub returns-then-not-sound : goal.returns-then-not-sound
returns-then-not-sound c = is_11 c.args.b c.args.month.now (search rules)

pub returns-then-month-lt-MONTH_NUMBERS : goal.returns-then-month-lt-MONTH_NUMBERS
returns-then-month-lt-MONTH_NUMBERS c = is_26 c.args.b c.args.month.now (search rules) (omega arith)

pub shared_ref_as_front-windows : goal.shared_ref_as_front-windows
shared_ref_as_front-windows c = (workable c.args.b (search rules) (search (length_mapped, rules))).windows.few

pub shared_ref_as_front-instructions : goal.shared_ref_as_front-instructions
shared_ref_as_front-instructions c = (workable c.args.b (search rules) (search (length_mapped, rules))).calls

pub terms_of-t-requires : goal.terms_of-t-requires
terms_of-t-requires c = (workable c.args.b (search rules) (search (length_mapped, rules))).terms

pub mark_live-requires : goal.mark_live-requires
mark_live-requires c =
    let b = c.args.b in
    let shape : Shaped b = search (length_mapped, rules) in
    let w = workable b (search rules) shape in
    record {
      cleared = rw c.terms_of-t.ensures w.cleared;
      windows = (windows_first _ _ (omega (arith, w.windows.few, shape.windows)) w.windows, unmarked_zeros period_places);
    }

pub put_month-requires : goal.put_month-requires
put_month-requires c =
    let w = workable c.args.b (search rules) (search (length_mapped, rules)) in
    (omega (arith, c.if-month-lt-MONTH_NUMBERS.false), rw c.terms_of-t.ensures w.figured, omega (arith, length-take c.args.b.ninstructions c.args.b.instructions, w.calls), omega (arith, c.mark_live.ensures.1, length-replicate {A = ℕ} period_places 0))

pub returns : goal.returns
returns c =
    let b = c.args.b in
    let S : sound b ≡ true = search rules in
    let shape : Shaped b = search (length_mapped, rules) in
    let w = workable b S shape in
    let l = c.mark_live.ensures in
    let live = live_first _ _ (omega (arith, w.windows.few, shape.windows)) (rw c.terms_of-t.ensures at l.0) in
    is_laid b c.args.month.now S c.if-month-lt-MONTH_NUMBERS.false _ _ c.put_month.ensures c.terms_of-t.ensures
    (w.month _ (l.1 ∙ length-replicate {A = ℕ} period_places 0) live)
