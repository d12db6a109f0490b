-- `file_table::number::number_in` meets its contract: the number is what the bytes passed so far say.
use mathlib.Core.Path.{refl}
use native.Mathlib.Omega.{arith}
use borrow.Author.Rules.{rules}
use Rattle.rules.specs.File.{word_from}
use Rattle.file_table.proofs.Words.{word_next, word_small}
use Rattle.file_table.proofs.number.number_in.Goals as goal

pub loop-b-init : goal.loop-b-init
unfolding word_from
loop-b-init c = refl

pub overflow_mul-number : goal.overflow_mul-number
overflow_mul-number c =
    let small = word_small c.loop-b.b-index c.args.bytes.now (λ k. (c.type_inv.bytes k).fits) (omega arith) in
    omega (arith, c.loop-b.invariant)

pub overflow_add-number : goal.overflow_add-number
overflow_add-number c =
    let small = word_small c.loop-b.b-index c.args.bytes.now (λ k. (c.type_inv.bytes k).fits) (omega arith) in
    omega (arith, c.loop-b.invariant, (c.type_inv.bytes c.loop-b.b-index).fits)

pub loop-b-preserved : goal.loop-b-preserved
loop-b-preserved c = word_next _ _ _ _ (search rules) c.loop-b.invariant c.from.ensures
