-- Laws of operands put one after the other, and of the rows by which a command is written.
use mathlib.Core.Path.{◌≡◌, refl, sym, ap, ◌∙◌}
use mathlib.Core.List.{List, [], ◌∷◌, ◌++◌}
use mathlib.Core.Logic.{◌⊎◌, inl, inr}
use mathlib.Core.Option.{none}
use Prim.Native.Nat.{ℕ, zero, suc, ◌+◌, ◌-◌, ◌≤◌}
use native.Mathlib.Nat.{add-sub_cancel_left}
use native.Mathlib.Omega.{arith}
use lib.ListN.{length, take, drop, length-drop}
use lib.Seq.{length-take-le}
use Rattle.std.proofs.Common.{Option, None, Some, MatchOption, IsSome}
use Rattle.energy.specs.Lists.{put_at}
use Rattle.energy.proofs.Puts.{put_none, put_part, put_put, length_put}
use Rattle.rules.specs.File.{table, widths_of, total, bytes_of, byte_of, operands_of, write_operands, widths_for, write}
use Rattle.rules.proofs.Operands.{write_long}
use Rattle.rules.proofs.Reread.{in_table}
use Rattle.commands.specs.declared.entries.Command.{Command}
use Rattle.commands.specs.declared.entries.Command.TheVariants.{Contract as contractᶜ, Date as dateᶜ, Window as windowᶜ, Instruction as instructionᶜ}
use Rattle.commands.specs.declared.entries.Command.TheVariants.{Default as defaultᶜ, Reading as readingᶜ, Revision as revisionᶜ}
use Rattle.commands.specs.declared.entries.Command.TheVariants.{Close as closeᶜ}
use Rattle.file_table.specs.Table.{RowOf}
use Rattle.file_table.specs.Operands.{padded}
use Rattle.file_table.specs.declared.table.Row.{Row}

-- ---- operands as bytes

length_bytes : (w n : ℕ) → length (bytes_of w n) ≡ w
unfolding bytes_of
length_bytes zero n = refl
length_bytes (suc w) n = ap suc (length_bytes w n)

-- a loop over the operands of a command: those that are left, put from a position on, leave the memory `after`
pub record Left (widths v out : List ℕ) (place : ℕ) (after : List ℕ) : Type 0 where
  pub leaves : put_at (write_operands widths v) out place ≡ after
  pub room : place + total widths ≤ length out

module _ (w n : ℕ) (widths v : List ℕ) {out : List ℕ} {place : ℕ} {after : List ℕ} (l : Left (w ∷ widths) (n ∷ v) out place after) where
  -- the next operand has its place
  pub next_ends : place + w ≤ length out
  unfolding total
  next_ends = omega (arith, l.room)

  -- and is put there, in a part of the memory of its width
  pub put_more : (b : List ℕ) → b ≡ bytes_of (length (take (place + w - place) (drop place out))) n
      → Left widths v (take place out ++ (b ++ drop (place + w - place) (drop place out))) (place + w) after
  unfolding total write_operands
  put_more b e =
      let part : length (take w (drop place out)) ≡ w = length-take-le w (drop place out) (rw length-drop (omega (arith, next_ends))) in
      let long = length_bytes w n in
      let put : place + length (bytes_of w n) ≤ length out = omega (arith, next_ends) in
      rw (e, add-sub_cancel_left, part, put_part (bytes_of w n) out place w long)
      (record {
        leaves = put_put (bytes_of w n) (write_operands widths v) out place (place + w) (omega arith) (omega (arith, next_ends)) ∙ l.leaves;
        room = omega (arith, l.room, length_put (bytes_of w n) out place put);
      })

-- with no widths or no operands left, the memory is that
pub none_left : (widths v out : List ℕ) (place : ℕ) (after : List ℕ) → (length widths ≡ 0) ⊎ (length v ≡ 0) → Left widths v out place after → out ≡ after
unfolding write_operands
none_left [] v out place after h l = sym (put_none out place) ∙ l.leaves
none_left (w ∷ widths) [] out place after h l = sym (put_none out place) ∙ l.leaves
none_left (w ∷ widths) (n ∷ v) out place after h l = elim h [ inl e ↦ absurd (omega arith) | inr e ↦ absurd (omega arith) ]

-- ---- commands

pub has_row : (c : Command) (o : Option Row) (Found : Row → Type 0) → MatchOption o (widths_of (byte_of c) table ≡ none) Found → IsSome o
has_row c None Found h = let e = in_table c in cc
has_row c (Some row) Found h = refl

-- its bytes are that byte and its operands by their widths
encoded : (c : Command) → write c ≡ byte_of c ∷ write_operands (widths_for c) (padded (operands_of c))
unfolding table widths_of total bytes_of write_operands write padded
encoded (contractᶜ k) = refl
encoded (dateᶜ d) = refl
encoded (windowᶜ w) = refl
encoded (instructionᶜ i) = refl
encoded (defaultᶜ d) = refl
encoded (readingᶜ r) = refl
encoded (revisionᶜ v) = refl
encoded closeᶜ = refl

module _ (c : Command) (row : Row) (is : RowOf (byte_of c) row) where
  row_widths : widths_for c ≡ row.widths.now
  row_widths = let k = in_table c in let w = is.widths in cc

  pub row_bytes : write c ≡ row.byte ∷ write_operands row.widths.now (padded (operands_of c))
  row_bytes = rw (is.same, ← row_widths) (encoded c)

  pub row_long : row.length ≡ length (write c)
  row_long = is.length ∙ rw (← row_widths) (sym (write_long c))
