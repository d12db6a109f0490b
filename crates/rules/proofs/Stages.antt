-- What the stage of a minute decides, by the minute's place between expiry e and cease c: what it expects, and whose live window pays for it.
use mathlib.Core.Path.{◌≡◌, refl, sym}
use mathlib.Core.Bool.{Bool, cond, ◌&&◌, ◌||◌, and-true, and-false, or-false, or_self}
use Prim.Native.Nat.{ℕ, ◌≤◌}
use native.Mathlib.Omega.{arith}
use lib.Dec.{leb, ltb}
use lib.IntN.{pos}
use borrow.Author.Tests.{le-leb, lt-leb}
use Rattle.energy.specs.Energy.{steady_quarters, ramp_quarters}
use Rattle.commands.specs.Input.{kw_of}
use Rattle.commands.specs.declared.contract.Contract.{Contract}
use Rattle.rules.specs.Cuts.{stage_at}
use Rattle.rules.specs.Statement.{expects}
use Rattle.rules.specs.declared.statement.Stage.{Stage}
use Rattle.rules.specs.declared.statement.Stage.TheVariants.{Up, Steady, Down}
use Rattle.rules.proofs.Cuts.{split}

-- a steady minute expects the whole, a ramp minute half
pub expects_stage : (k : Contract) (e c m : ℕ) → pos (cond (leb e m && ltb m c) (steady_quarters (kw_of k)) (ramp_quarters (kw_of k))) ≡ expects k (stage_at e c m)
expects_stage k e c m =
    split e c m (λ p q. pos (cond (leb e m && q) (steady_quarters (kw_of k)) (ramp_quarters (kw_of k))) ≡ expects k (cond p Up (cond q Steady Down)))
    (λ l q. rw (lt-leb e m l) refl) (λ a b. rw (le-leb e m a) refl) (λ a b. rw (and-false (leb e m)) refl)

-- the minute's own window pays, or that of its ramp's anchor
pub rate_stage : (here early late : Bool) (e c m : ℕ) → e ≤ c → (at : Stage → Bool) → at Up ≡ early → at Steady ≡ here → at Down ≡ late
    → ((here || (early && ltb m e)) || (late && leb c m)) ≡ (here || at (stage_at e c m))
rate_stage here early late e c m o at u s d =
    split e c m (λ p q. ((here || (early && p)) || (late && leb c m)) ≡ (here || at (cond p Up (cond q Steady Down))))
    (λ l q. rw (lt-leb c m (omega arith), and-true early, and-false late, or-false (here || early), u) refl)
    (λ k l. rw (lt-leb c m l, and-false early, and-false late, or-false here, or-false here, s) (sym (or_self here)))
    (λ k l. rw (le-leb c m l, and-false early, and-true late, or-false here, d) refl)
