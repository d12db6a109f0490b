-- `file_readings::near_reading` meets its contract: the minute and the kW are what the bytes of their positions say.
use mathlib.Core.Path.{◌≡◌}
use Prim.Native.Nat.{ℕ, ◌+◌, ◌-◌, ◌^◌, ◌<◌}
use native.Mathlib.Omega.{arith}
use lib.ListN.{take, drop}
use lib.Seq.{get_or-drop}
use mir.Syntax.{w64}
use mir.Facts.{to_z-of_z}
use Rattle.rules.specs.File.{word_from}
use Rattle.file_table.proofs.Words.{word_below}
use Rattle.file_readings.proofs.near_reading.Goals as goal
use Rattle.file_readings.proofs.near_reading.Lts as lts
use Rattle.file_readings.proofs.near_reading.Reads as reads
use Rattle.file_readings.proofs.near_reading.Tie as tie

abbrev After-number_in : Type 0
After-number_in = lts.After-number_in tie.the-claims reads.Pre reads.Post

abbrev After-number_in-2 : Type 0
After-number_in-2 = lts.After-number_in2 tie.the-claims reads.Pre reads.Post

abbrev After-shared_slice_known-1 : Type 0
After-shared_slice_known-1 = lts.After-shared_slice_known tie.the-claims reads.Pre reads.Post

-- what so many bytes from a position on say
below : (i : ℕ) (c : After-shared_slice_known-1) (n : ℕ) → word_from 0 (take i (drop n c.args.s.now)) < 256 ^ i
below i c n = word_below i (drop n c.args.s.now) (λ k. rw get_or-drop (c.shared_slice_known-1.given (n + k)).fits)

minute : (c : After-number_in)
    → let a = c.args in c.number_in.result ≡ word_from 0 (take 2 (drop a.minute a.s.now))
minute c =
    let at = c.args.minute in
    let two : at + 2 - at ≡ 2 = omega arith in
    rw two at c.number_in.ensures

kw : (c : After-number_in-2)
    → let a = c.args in c.number_in-2.result ≡ word_from 0 (take 4 (drop a.kw a.s.now))
kw c =
    let at = c.args.kw in
    let four : at + 4 - at ≡ 4 = omega arith in
    rw four at c.number_in-2.ensures

pub returns : goal.returns
returns c = (
  minute c.before.before.before.before,
  rw (to_z-of_z {w = w64} {z = c.near_kw.result} (record { sfits = c.near_kw.type_inv }), ← kw c.before.before) c.near_kw.ensures,
)

pub overflow_cast-at : goal.overflow_cast-at
overflow_cast-at c = record { fits = rw (minute c.before) (below 2 c.before.before.before c.args.minute) }

pub near_kw-requires : goal.near_kw-requires
near_kw-requires c = rw (kw c.before) (below 4 c.before.before.before.before.before
    c.args.kw)
