-- `settle_lines::cursor::line_of` meets its contract: the parts of the line are its callees' promises. Assumes nothing.
use Rattle.std.proofs.Common.{◌≡◌, refl, ℕ, ℤ, List, pos, nat_abs, ◌+◌, ◌-◌, ◌/◌, ◌<◌, arith, rules, w32}
use native.Mathlib.Decide.{dec_lt}
use borrow.Author.Tests.{le-leb, le-ltb, lt-leb, lt-ltb}
use denote.Enum.Bare.{sameb}
use mir.Val.{SFits}
use mir.Facts.{to_z-of_z}
use Rattle.energy.specs.Energy.{kwh, capped, payment, expected_in, delivered_in}
use Rattle.rules.specs.Cuts.{stage_at}
use Rattle.rules.specs.contracts.statement.Stage.{the_type}
use Rattle.rules.specs.declared.statement.Line.{Line}
use Rattle.rules.specs.declared.statement.Rate.{Rate}
use Rattle.rules.specs.declared.statement.Stage.{Stage}
use Rattle.rules.specs.declared.statement.Stage.TheVariants.{Steady}
use Rattle.settle_terms.specs.declared.Terms.{Terms}
use Rattle.settle_lines.specs.declared.cursor.Active.{Active}
use Rattle.settle_lines.specs.Cursor.{line_by, price_by, rate_by, steady_at}
use Rattle.settle_lines.proofs.cursor.line_of.Goals as goal

-- a stage is `Steady` between expiry and cease
is_steady : (e c m : ℕ) → Dec (m < e) → Dec (m < c) → sameb the_type (stage_at e c m) Steady ≡ steady_at e c m
is_steady e c m (yes a) b = rw (lt-ltb m e a, lt-leb e m a) refl
is_steady e c m (no a) (yes b) = rw (le-ltb m e (omega (arith, a)), le-leb e m (omega (arith, a)), lt-ltb m c b) refl
is_steady e c m (no a) (no b) = rw (le-ltb m e (omega (arith, a)), le-ltb m c (omega (arith, b)), le-leb e m (omega (arith, a))) refl

-- the line, from its parts
made : (t : Terms) (a : Active) (live : List ℕ) (meter : List ℤ) (j m n place price : ℕ) (stage : Stage) (rate : Rate) (q : ℕ) (x d k p : ℤ)
    → place ≡ m / 30 → stage ≡ stage_at a.expiry.0 a.cease.0 m → rate ≡ rate_by a live m
    → q ≡ expected_in (nat_abs t.kw.0) (steady_at a.expiry.0 a.cease.0 m) (n - m) → x ≡ kwh (pos q)
    → d ≡ kwh (delivered_in t.kind a.base meter m n) → k ≡ capped x d → price ≡ price_by t rate → p ≡ payment k price
    → ◌≡◌ {A = Line}
    (record {
      instruction = j + 1;
      period = place + 1;
      stage = stage;
      rate = rate;
      expected = record { 0 = x };
      delivered = record { 0 = d };
      capped = record { 0 = k };
      pence = record { 0 = p };
    })
    (line_by t a live meter j m n)
unfolding line_by
made t a live meter j m n place price stage rate q x d k p e-place e-stage e-rate e-q e-x e-d e-k e-price e-p =
    rw (e-p, e-price, e-k, e-d, e-x, e-q, e-rate, e-stage, e-place)

pub returns : goal.returns
returns c =
    let s = c.args in
    let a = s.a in
    let q : SFits w32 c.delivered.result = record { sfits = c.delivered.type_inv } in
    let b : SFits w32 a.base = search rules in
    let steady : c.eq-steady.result ≡ steady_at a.expiry.0 a.cease.0 s.from.0 =
    rw (c.eq-steady.ensures, c.stage_of-stage.ensures) (is_steady a.expiry.0 a.cease.0 s.from.0 (dec_lt _ _) (dec_lt _ _)) in (
      made s.t a s.live.now s.meter.now s.at s.from.0 s.to.0 _ _ _ _ _ _ _ _ _ c.place_of.ensures c.stage_of-stage.ensures c.rate_of-rate.ensures
          (rw steady at c.expected.ensures.0) c.expected_kwh-x.ensures.0
          (rw (to_z-of_z q, c.delivered.ensures.0, to_z-of_z b, c.cell_of.ensures, c.cell_of-2.ensures) at c.delivered_kwh-d.ensures.0)
          c.capped_kwh-capped.ensures.0 c.price_of.ensures.0 c.payment_pence-pence.ensures.0,
      c.capped_kwh-capped.ensures.1,
      c.payment_pence-pence.ensures.1,
    )
