-- No amount of a statement is below 0: a line's capped energy by its definition, its pence since rounding keeps to the side of 0, and so do sums.
use mathlib.Core.Path.{sym, subst}
use mathlib.Core.Logic.{⊎_elim}
use mathlib.Core.List.Memᴰ
use mathlib.Core.List.{Memᴰ}
use Prim.Native.Nat.{ℕ, zero, suc, ◌-◌}
use native.Mathlib.Nat.{mul-le-mul_left}
use lib.Dec.{lit<}
use lib.IntN.{ℤ, pos}
use lib.ListN.{length, replicate}
use lib.Signed.{◌≤ℤ◌}
use Rattle.energy.specs.Lists.{sum}
use Rattle.energy.specs.Energy.{kwh, capped}
use Rattle.energy.proofs.Integers.{add_parts, mul-parts, ≤-apart, arith_ℤ}
use Rattle.energy.proofs.Rounding.{nearest_above, payment_above}
use Rattle.energy.proofs.Sums.{sum_above}
use Rattle.rules.specs.Ledger.{Ledger}
use Rattle.rules.specs.Segment.{Segment, segments}
use Rattle.rules.specs.Statement.{expected_of, delivered_of, line_of, lines, paid_periods, period_exact, period_pence, available_of, windows_paid, statement_of}
use Rattle.rules.specs.Statement.{rate_of, nothing}
use Rattle.rules.specs.Floor.{NotBelow0·theorem}
use Rattle.commands.specs.declared.entries.Window.{Window}
use Rattle.rules.specs.declared.statement.Line.{Line}
use Rattle.rules.specs.declared.statement.Available.{Available}

module _ (g : Ledger) where
  -- ---- of a segment's line
  energy_of : (s : Segment) → pos 0 ≤ℤ (line_of g s).capped.0
  unfolding line_of
  energy_of s = omega arith_ℤ

  pence_of_lem : (s : Segment) → pos 0 ≤ℤ (line_of g s).pence.0
  unfolding line_of
  pence_of_lem s = payment_above (capped (kwh (expected_of g s)) (kwh (delivered_of g s))) (rate_of g s) (omega arith_ℤ)

  -- so of each that is listed
  listed : (f : Line → ℤ) → ((s : Segment) → pos 0 ≤ℤ f (line_of g s)) → (l : Line) → Memᴰ l (lines g) → pos 0 ≤ℤ f l
  unfolding lines
  listed f h l m = let (s, q, e) = Memᴰ.of_map (line_of g) (segments g) m in subst (λ l. pos 0 ≤ℤ f l) e (h s)

  -- ---- of a window
  period_above : pos 0 ≤ℤ period_pence g
  unfolding period_pence
  period_above = nearest_above (pos (period_exact g)) 200000 (lit< tt) (omega arith_ℤ)

  window_above : (w : Window) → pos 0 ≤ℤ (available_of g w).pence.0
  unfolding available_of
  window_above w =
      let n : ℕ = length (paid_periods g w) in
      omega (arith_ℤ, period_above, mul-parts (pos n) (period_pence g), mul-le-mul_left n (≤-apart period_above))

  paid_above : (v : Available) → Memᴰ v (windows_paid g) → pos 0 ≤ℤ v.pence.0
  unfolding windows_paid
  paid_above v m = let (w, q, e) = Memᴰ.of_map (available_of g) g.windows m in subst (λ (v : Available). pos 0 ≤ℤ v.pence.0) e (window_above w)

  unpaid_above : (n : ℕ) (v : Available) → Memᴰ v (replicate n nothing) → pos 0 ≤ℤ v.pence.0
  unpaid_above zero v m = absurd (Memᴰ.not-nil m)
  unpaid_above (suc n) v m =
      ⊎_elim (λ e. subst (λ (v : Available). pos 0 ≤ℤ v.pence.0) (sym e) (omega arith_ℤ)) (unpaid_above n v) (Memᴰ.cases_cons m)

pub not_below_0 : NotBelow0·theorem
unfolding statement_of
not_below_0 g =
    let energy = listed g (λ (l : Line). l.capped.0) (energy_of g) in
    let pence = listed g (λ (l : Line). l.pence.0) (pence_of_lem g) in
    let u = sum_above (λ (l : Line). l.pence.0) (lines g) pence in
    let a = sum_above (λ (v : Available). v.pence.0) (windows_paid g) (paid_above g) in
    record {
      line_energy = energy;
      line_pence = pence;
      window_pence = λ v m. ⊎_elim (paid_above g v) (unpaid_above g (128 - length g.windows) v) (Memᴰ.append_cases (windows_paid g) m);
      energy = sum_above (λ (l : Line). l.capped.0) (lines g) energy;
      utilisation = u;
      availability = a;
      total =
          omega (
            arith_ℤ,
            u,
            a,
            add_parts (sum (λ (l : Line). l.pence.0) (lines g)) (sum (λ (v : Available). v.pence.0) (windows_paid g)),
          );
    }
