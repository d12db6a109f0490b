-- How large a line's energy and money can be.
use mathlib.Core.Bool.{Bool, true, false}
use mathlib.Core.List.{List}
use Prim.Native.Nat.{ℕ, ◌-◌, ◌≤◌}
use native.Mathlib.Nat.{mul-le-mul}
use native.Mathlib.Omega.{arith}
use lib.IntN.{ℤ, pos, nat_abs}
use Rattle.energy.specs.Energy.{cell, delivers, kwh, capped, expected_in, delivered_in}
use Rattle.energy.specs.Number.{Within}
use Rattle.energy.proofs.Rounding.{capped-within, payment-within}
use Rattle.energy.proofs.Sums.{delivers-within, sum-within}
use Rattle.commands.specs.declared.entries.Instruction.{Instruction}
use Rattle.rules.specs.declared.statement.Line.{Line}
use Rattle.rules.specs.declared.statement.Rate.{Rate}
use Rattle.rules.specs.declared.statement.Rate.TheVariants.{Utilisation, Optional}
use Rattle.settle_terms.specs.declared.Terms.{Terms}
use Rattle.settle_lines.specs.declared.cursor.Cursor.{Cursor}
use Rattle.settle_lines.specs.Cursor.{rate_by, price_by, steady_at, line_by, cut_by, Plan, Ready}
use Rattle.settle_lines.proofs.Step.{next}

expected_within : (kw n : ℕ) (steady : Bool) → kw ≤ 500000 → n ≤ 30 → Within 120000000 (pos (expected_in kw steady n))
unfolding expected_in
expected_within kw n true h l = omega (arith, mul-le-mul l h)
expected_within kw n false h l = omega (arith, mul-le-mul l h)

price-within : (t : Terms) (r : Rate) → t.utilisation ≤ 1000000 → t.optional ≤ 1000000 → price_by t r ≤ 1000000
price-within t Utilisation h k = h
price-within t Optional h k = k

-- a line's
pub record Bounded (l : Line) : Type 0 where
  pub capped : Within 500000 l.capped.0
  pub pence : Within 500000000 l.pence.0

pub bounded : {t : Terms} {calls : List Instruction} {live : List ℕ} {meter : List ℤ} {c : Cursor} → Plan t calls live meter → Ready t calls live meter c
    → Bounded (line_by t c.active live meter c.at c.minute.0 (cut_by c))
unfolding line_by delivered_in
bounded {t} {calls} {live} {meter} {c} p r =
    let n = next p r in
    let steady : Bool = steady_at c.active.expiry.0 c.active.cease.0 c.minute.0 in
    let E : ℤ = pos (expected_in (nat_abs t.kw.0) steady (cut_by c - c.minute.0)) in
    let D : ℤ = delivered_in t.kind c.active.base meter c.minute.0 (cut_by c) in
    let R : Rate = rate_by c.active live c.minute.0 in
    let x = expected_within (nat_abs t.kw.0) (cut_by c - c.minute.0) steady p.kw.0 (omega (arith, n.readable)) in
    let s = sum-within (λ m. delivers t.kind c.active.base (cell meter m)) 4000000 c.minute.0 (cut_by c)
    (λ m a b. delivers-within t.kind c.active.base (cell meter m) n.base (n.readable.read m a b)) in
    let l : Within 500000 (capped (kwh E) (kwh D)) = capped-within E D x (omega (arith, s, n.readable)) in
    let z : price_by t R ≤ 1000000 = price-within t R p.utilisation p.optional in
    record { capped = l; pence = payment-within (capped (kwh E) (kwh D)) (price_by t R) l z }
