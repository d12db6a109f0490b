-- `file_write::length::file_length` meets its contract: the lengths of the parts, which are a small number.
use mathlib.Core.Path.{◌≡◌}
use Prim.Native.Nat.{◌+◌, ◌≤◌}
use native.Mathlib.Omega.{arith}
use lib.ListN.{length}
use Rattle.book_memory.specs.Lent.{held}
use Rattle.file_write.specs.Laid.{file_bytes, parts}
use Rattle.file_write.proofs.WrittenParts.{parts_length, parts_short, cut_readings, cut_most, within}
use Rattle.file_write.proofs.length.file_length.Goals as goal

pub first-requires : goal.first-requires
first-requires c = within _ _ _ c.requires c.span-span.ensures

pub readings_length-readings-requires : goal.readings_length-readings-requires
readings_length-readings-requires c =
    rw c.first.ensures
    (cut_most (held c.args.memory) c.span-span.result (within _ _ _ c.requires c.span-span.ensures) (rw c.span-span.ensures c.requires.month))

-- the seven lengths
whole : (c : goal.After-length_if-close)
    → let long = length (file_bytes (parts c.args.b.now (held c.args.memory))) in
    (c.length_if-contract.result + c.length_if-date.result + c.entries_length-windows.result + c.entries_length-instructions.result
    + c.entries_length-defaults.result
    + c.readings_length-readings.result
    + c.length_if-close.result
    ≡ long) × (long ≤ 2000000)
whole c =
    let memory = held c.args.memory in
    omega (
      arith,
      c.length_if-contract.ensures,
      rw c.is_none.ensures at c.length_if-date.ensures,
      c.entries_length-windows.ensures,
      c.entries_length-instructions.ensures,
      c.entries_length-defaults.ensures,
      rw (c.first.ensures, cut_readings memory c.span-span.result (within _ _ _ c.requires c.span-span.ensures), c.span-span.ensures) at c.readings_length-readings.ensures,
      c.length_if-close.ensures,
      parts_length c.args.b.now memory,
      parts_short c.args.b.now memory c.requires,
    )

pub overflow_add-result : goal.overflow_add-result
overflow_add-result c = omega (arith, whole c)

pub overflow_add-result-2 : goal.overflow_add-result-2
overflow_add-result-2 c = omega (arith, whole c)

pub overflow_add-result-3 : goal.overflow_add-result-3
overflow_add-result-3 c = omega (arith, whole c)

pub overflow_add-result-4 : goal.overflow_add-result-4
overflow_add-result-4 c = omega (arith, whole c)

pub overflow_add-result-5 : goal.overflow_add-result-5
overflow_add-result-5 c = omega (arith, whole c)

pub overflow_add-result-6 : goal.overflow_add-result-6
overflow_add-result-6 c = omega (arith, whole c)

pub returns : goal.returns
returns c = (whole c).0
