-- `file_operands::command::command_of` meets its contract: in each arm the byte is known, and so are the widths that its operands fit.
use mathlib.Core.Path.{◌≡◌, refl, ◌∙◌, ap}
use mathlib.Core.List.{List, [], ◌∷◌}
use mathlib.Core.Option.{some}
use Prim.Native.Nat.{ℕ}
use Rattle.rules.specs.File.{table, widths_of}
use Rattle.file_table.specs.Operands.{Sized}
use Rattle.file_operands.proofs.command.command_of.Goals as goal

-- operands that fit the widths of a byte that is known
sized : {byte known : ℕ} {widths v : List ℕ} → ((ws : List ℕ) → widths_of byte table ≡ some ws → Sized ws v) → byte ≡ known
    → widths_of known table ≡ some widths
    → Sized widths v
sized h e w = h _ (ap (λ b. widths_of b table) e ∙ w)

pub contract_of-requires : goal.contract_of-requires
unfolding table widths_of
contract_of-requires c = sized c.requires c.in-67.is refl

pub date_of-requires : goal.date_of-requires
unfolding table widths_of
date_of-requires c = sized c.requires c.in-84.is refl

pub window_of-requires : goal.window_of-requires
unfolding table widths_of
window_of-requires c = sized c.requires c.in-87.is refl

pub instruction_of-requires : goal.instruction_of-requires
unfolding table widths_of
instruction_of-requires c = sized c.requires c.in-73.is refl

pub default_of-requires : goal.default_of-requires
unfolding table widths_of
default_of-requires c = sized c.requires c.in-68.is refl

pub revision_of-requires : goal.revision_of-requires
unfolding table widths_of
revision_of-requires c = sized c.requires c.in-82.is refl

pub reading_of-requires : goal.reading_of-requires
unfolding table widths_of
reading_of-requires c = let both : Sized (2 ∷ 4 ∷ []) c.args.v = sized c.requires c.in-77.is refl in (both.0, both.1.0)
