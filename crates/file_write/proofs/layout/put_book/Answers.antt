-- `file_write::layout::put_book` meets its contract: each part goes after those before it.
use mathlib.Core.Path.{◌≡◌}
use mathlib.Core.Bool.{Bool, cond, not}
use mathlib.Core.List.{List, [], ◌∷◌}
use Prim.Native.Nat.{ℕ}
use native.Mathlib.Omega.{arith}
use Rattle.calendar.specs.declared.Date.{Date}
use Rattle.commands.specs.declared.entries.Command.TheVariants.{Date as dateᶜ}
use Rattle.book_memory.specs.Lent.{held}
use Rattle.file_write.specs.Laid.{Laid, parts}
use Rattle.file_write.proofs.WrittenLaid.{laid_then}
use Rattle.file_write.proofs.WrittenParts.{parts_length, cut_readings, cut_most, within}
use Rattle.file_write.proofs.layout.put_book.Goals as goal

-- the date's part, by the test that the code asks
dated : (d : Date) {n m : Bool} {xs ys : List ℕ} {at next : ℕ} → n ≡ m → Laid (cond (not n) (dateᶜ d ∷ []) []) xs at ys next
    → Laid (cond (not m) (dateᶜ d ∷ []) []) xs at ys next
dated d e l = rw (← e) l

pub first-requires : goal.first-requires
first-requires c = within _ _ _ c.requires.0 c.span-span.ensures

pub put_readings-close-requires : goal.put_readings-close-requires
put_readings-close-requires c =
    let memory = held c.args.memory in
    let inside = within _ _ _ c.requires.0 c.span-span.ensures in (
      rw c.first.ensures (cut_most memory c.span-span.result inside (rw c.span-span.ensures c.requires.0.month)),
      rw (c.first.ensures, cut_readings memory c.span-span.result inside, c.span-span.ensures) (record { fits = omega (arith, dated c.args.b.now.date c.is_none.ensures c.put_if-windows.ensures, parts_length c.args.b.now memory) }),
    )

pub put_if-requires : goal.put_if-requires
put_if-requires c =
    let readings = rw (c.first.ensures, cut_readings _ _ (within _ _ _ c.requires.0 c.span-span.ensures), c.span-span.ensures) at c.put_readings-close.ensures in
    record { fits = omega (arith, readings, dated c.args.b.now.date c.is_none.ensures c.put_if-windows.ensures, parts_length c.args.b.now (held c.args.memory)) }

pub returns : goal.returns
unfolding parts
returns c =
    let long = parts_length c.args.b.now (held c.args.memory) in
    let date = dated c.args.b.now.date c.is_none.ensures c.put_if-windows.ensures in
    let readings = rw (c.first.ensures, cut_readings _ _ (within _ _ _ c.requires.0 c.span-span.ensures), c.span-span.ensures) at c.put_readings-close.ensures in
    let l₁ = laid_then _ _ c.put_if-date.ensures (omega (arith, long)) date in
    let l₂ = laid_then _ _ l₁ (omega (arith, long, date)) c.put_entries-instructions.ensures in
    let l₃ = laid_then _ _ l₂ (omega (arith, long, date)) c.put_entries-defaults.ensures in
    let l₄ = laid_then _ _ l₃ (omega (arith, long, date)) c.put_entries-readings.ensures in
    let l₅ = laid_then _ _ l₄ (omega (arith, long, date)) readings in
    laid_then _ _ l₅ (omega (arith, long, date, readings)) c.put_if.ensures
