-- `file_read::decode::read_at` meets its contract: each of its answers is one of the four things that can be found at a position.
use mathlib.Core.Path.{◌≡◌, sym}
use mathlib.Core.List.{List}
use mathlib.Core.Option.{Option}
use Prim.Native.Nat.{ℕ, ◌+◌, ◌-◌, ◌≤◌, ◌<◌}
use native.Mathlib.Omega.{arith}
use lib.ListN.{length, get_or, take, drop, length-drop}
use lib.Seq.{get_or-drop, take_all}
use Rattle.commands.specs.declared.entries.Command.{Command}
use Rattle.rules.specs.File.{operands, command_of, read_as, read_at}
use Rattle.file_table.specs.declared.table.Row.{Row}
use Rattle.file_table.specs.Table.{RowOf}
use Rattle.file_table.specs.Operands.{padded}
use Rattle.file_table.proofs.Operands.{command_padded, operands_sized}
use Rattle.file_table.proofs.Rows.{row_narrow}
use Rattle.file_read.proofs.Finds.{ended, unknown, short, entire-reads, found_reads}
use Rattle.file_read.proofs.decode.read_at.Goals as goal
use Rattle.commands.specs.declared.refusal.Refusal.TheVariants.{CutOff}
use Rattle.std.specs.Prelude.{Err}

-- what stands behind the byte
rest : (s : List ℕ) (k : ℕ) → take (length s - k) (drop k s) ≡ drop k s
rest s k = take_all (length s - k) (drop k s) (omega (arith, length-drop k s))

-- a position before the end, and the row of its byte
module _ (s : List ℕ) (at : ℕ) (row : Row) (inside : at < length s) (is : RowOf (get_or s at 0) row) where
  too_short : length s - at < row.length → Err CutOff ≡ read_at s at
  too_short h = sym (found_reads (short inside is.widths (rw is.length at h)))

  -- whatever a whole command says
  whole : {v : List ℕ} {o : Option Command} → row.length ≤ length s - at → v ≡ padded (operands row.widths.now (take (length s - (at + 1)) (drop (at + 1) s)))
      → command_of (get_or s at 0) v ≡ o
      → read_as o (at + row.length) ≡ read_at s at
  whole room read e = rw (← e, read, rest s (at + 1), command_padded, is.length) (entire-reads s at inside row.widths.now is.widths (rw is.length at room))

pub returns-then-s-at : goal.returns-then-s-at
returns-then-s-at c = sym (found_reads (ended c.if-s-at.true))

pub returns-in_default : goal.returns-in_default
returns-in_default c = sym (found_reads (unknown c.if-s-at.false c.in_default.ensures))

pub returns-then-s-at-2 : goal.returns-then-s-at-2
returns-then-s-at-2 c = too_short _ _ _ c.if-s-at.false c.in-Some.ensures (rw c.from-length.ensures at c.if-s-at-2.true)

pub operands_in-v-requires-clause-narrow : goal.operands_in-v-requires-clause-narrow
operands_in-v-requires-clause-narrow c = row_narrow _ _ c.in-Some.ensures.widths

pub command_of-requires : goal.command_of-requires
command_of-requires c =
    λ widths e. let is = c.in-Some.ensures.widths in
    let same : widths ≡ c.in-Some.row.widths.now = cc in
    rw (same, c.operands_in-v.ensures, rest c.args.s.now (c.args.at + 1)) (operands_sized _ _ (λ j. rw get_or-drop (c.type_inv.s (c.args.at + 1 + j)).fits))

pub returns-in-Some-command_of : goal.returns-in-Some-command_of
returns-in-Some-command_of c =
    rw c.from-length.ensures
    (whole _ _ _ c.if-s-at.false c.in-Some.ensures (rw c.from-length.ensures at c.if-s-at-2.false) c.operands_in-v.ensures c.in-Some-command_of.ensures)

pub returns-in-None : goal.returns-in-None
returns-in-None c =
    whole _ _ _ c.if-s-at.false c.in-Some.ensures (rw c.from-length.ensures at c.if-s-at-2.false) c.operands_in-v.ensures c.in-None.ensures
