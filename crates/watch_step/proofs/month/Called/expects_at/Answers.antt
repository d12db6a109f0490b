-- `watch_step::month::Called::expects_at` meets its contract: one minute of the stage that the times give. Assumes nothing.
use mathlib.Core.Path.{◌≡◌, refl, ◌∙◌, ap}
use mathlib.Core.Bool.{Bool, true, false, cond, ◌&&◌}
use mathlib.Core.List.{List}
use Prim.Native.Nat.{ℕ, ◌*◌, ◌≤◌}
use native.Mathlib.Omega.{arith}
use lib.Dec.{leb, ltb}
use lib.IntN.{pos}
use mir.Syntax.{w32, w64}
use mir.ValLaws.{to_z_pos}
use Rattle.energy.specs.Energy.{expected_in}
use Rattle.watch_step.specs.Month.{kw_at, expiry_at, cease_at}
use Rattle.watch_step.specs.Step.{expects_at}
use Rattle.watch_step.proofs.month.Called.expects_at.Goals as goal

-- one minute, steady or on a ramp
one : (kw : ℕ) (steady : Bool) → expected_in kw steady 1 ≡ cond steady (4 * kw) (2 * kw)
unfolding expected_in
one kw true = omega arith
one kw false = omega arith

most : (kw : ℕ) (steady : Bool) → kw ≤ 500000 → cond steady (4 * kw) (2 * kw) ≤ 2000000
most kw true h = omega arith
most kw false h = omega arith

-- what the minute expects, from the times that were looked up
expects : (month : List ℕ) (n m e f q : ℕ) → e ≡ expiry_at month n → f ≡ cease_at month n → kw_at month ≤ 500000
    → q ≡ expected_in (kw_at month) (leb e m && ltb m f) 1 → (pos q ≡ expects_at month n m) × (q ≤ 2000000)
unfolding expects_at
expects month n m e f q ee ef h eq =
    let steady : Bool = leb (expiry_at month n) m && ltb m (cease_at month n) in
    let value : q ≡ cond steady (4 * kw_at month) (2 * kw_at month) = rw (ee, ef) at eq ∙ one (kw_at month) steady in
    (ap pos value, rw value (most (kw_at month) steady h))

pub returns : goal.returns
returns c =
    let a = c.args in
    let numbers = a.self.month.numbers.now in
    -- the machine reads the contracted kW back as they are
    let kw = to_z_pos w64 (kw_at numbers) (omega arith) in
    let (value, small) = expects numbers a.self.n a.m _ _ c.expected.result c.time_at-expiry.ensures c.time_at-cease.ensures a.self.month.kw
    (rw kw at c.expected.ensures.0) in
    rw (to_z_pos w32 c.expected.result (omega arith)) (value, (small, refl))
