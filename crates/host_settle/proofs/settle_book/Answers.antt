-- `host_settle::settle_book` meets its contract: the lines fit the memory lent for them, and a refusal alters none.
use borrow.Author.Tests.{lt-ltb}
use Rattle.std.proofs.Common.{◌≡◌, refl, sym, ap, ◌∙◌, ℕ, ℤ, List, ◌++◌, false, ◌<◌, take, drop, length, arith, length-take}
use Rattle.std.proofs.lemmas.Grind.{common_steps}
use Rattle.std.specs.Prelude.{Result, Err, ltb}
use Rattle.commands.specs.Refusals.{number_of}
use Rattle.commands.specs.declared.refusal.Refusal.{Refusal}
use Rattle.rules.specs.declared.statement.Statement.{Statement}
use Rattle.book.specs.declared.Book.{Book}
use Rattle.book_memory.specs.Lent.{held}
use Rattle.book_memory.specs.Meter.{Memory}
use Rattle.host_sums.specs.Sums.{sum_count}
use Rattle.settle_numbers.specs.Numbers.{number_book}
use Rattle.host_settle.specs.SettleInto.{settle_into, settled_book, short_number}
use Rattle.host_settle.proofs.Settled.{few_lines_lem, nothing_written, same_number}
use Rattle.host_settle.proofs.settle_book.Goals as goal
use Rattle.host_settle.proofs.settle_book.Goals.{then-fits, else-fits}

-- a refusal where the sums have room: their memory is as it was
refused_into : (b : Book) (meter : Memory) (lines sums after : List ℤ) (n : ℕ) (r : Refusal) → ltb (length sums) sum_count ≡ false
    → ◌≡◌ {A = Result Statement Refusal} (Err r) (number_book b meter lines).answer → after ≡ (number_book b meter lines).memory → n ≡ number_of r
    → settled_book n after sums ≡ settle_into b meter lines sums
unfolding settle_into
refused_into b meter lines sums after n r room answer lines-after number = rw (room, ← answer, lines-after, number) refl

-- and where they have none: nothing is lent on for lines, so that none is altered
short_into : (b : Book) (meter : Memory) (lines sums numbers : List ℤ) (room n : ℕ) → length sums < sum_count → room ≡ 0
    → numbers ≡ (number_book b meter (take room lines)).memory → n ≡ short_number (number_book b meter (take room lines)).answer
    → settled_book n (numbers ++ drop room lines) sums ≡ settle_into b meter lines sums
unfolding settle_into
short_into b meter lines sums numbers room n short none written number =
    rw (written, number, none, nothing_written b meter, same_number b meter lines, lt-ltb _ _ short) refl

pub put_sums-requires : goal.put_sums-requires
put_sums-requires c =
    let few =
    few_lines_lem c.args.b (held c.args.memory) (take c.if-fits.room c.args.lines.now) c.in-Ok.statement
    (cc (c.in-Ok.is, c.settle_numbers-settled.ensures.value)) in
    (c.if-fits-2.true, omega (arith, few, length-take c.if-fits.room c.args.lines.now), c.requires)

pub returns-in-Err : goal.returns-in-Err
returns-in-Err c =
    let s = c.settle_numbers-settled.ensures in
    elim c.if-fits.branch [
      | then-fits w ↦
          refused_into _ _ _ _ _ _ c.in-Err.refusal (grind (arith, common_steps)) (grind (arith, common_steps)) (grind (arith, common_steps))
          c.number-in-Err.ensures
      | else-fits w ↦
          short_into _ _ _ _ _ _ _ w.if-fits.false w.room-is s.numbers_after (c.number-in-Err.ensures ∙ ap short_number (sym c.in-Err.is ∙ s.value))
    ]

pub returns-in-Ok-2 : goal.returns-in-Ok-2
returns-in-Ok-2 c =
    let s = c.settle_numbers-settled.ensures in
    elim c.if-fits.branch [
      | then-fits w ↦ absurd (omega (arith, w.if-fits.true, c.if-fits-2.false))
      | else-fits w ↦
          short_into _ _ _ _ _ _ _ w.if-fits.false w.room-is s.numbers_after (c.number.ensures ∙ ap short_number (sym c.in-Ok-2.is ∙ s.value))
    ]
