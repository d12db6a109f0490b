-- The numbers that settling holds are the rules': a line at the cursor is a line of the rules.
use mathlib.Core.Path.{◌≡◌, refl, sym, ◌∙◌, ap, ap₂}
use mathlib.Core.Bool.{cond, ◌||◌}
use mathlib.Core.List.{List}
use Prim.Native.Nat.{ℕ, ◌+◌, ◌-◌, ◌<◌}
use native.Mathlib.Omega.{arith}
use lib.IntN.{ℤ, pos, nat_abs, pos-*ℤ-pos}
use Rattle.energy.specs.Energy.{cell, steady_quarters, ramp_quarters, delivers, expected_in, delivered_in}
use Rattle.energy.specs.Lists.{sum, between}
use Rattle.energy.specs.Number.{Within}
use Rattle.energy.proofs.Sums.{sum_same, sum_ext}
use Rattle.rules.specs.Ledger.{Ledger, contract_of, span_in, expiry, end_of}
use Rattle.rules.specs.Segment.{base_minutes, stage_of, in_live, anchor, rate_at, price, Segment}
use Rattle.rules.specs.Statement.{expects, reads, base_load, expected_of, delivered_of, line_of}
use Rattle.commands.specs.declared.contract.Contract.{Contract}
use Rattle.commands.specs.declared.entries.Instruction.{Instruction}
use Rattle.rules.specs.declared.statement.Rate.{Rate}
use Rattle.rules.specs.declared.statement.Rate.TheVariants.{Utilisation, Optional}
use Rattle.rules.proofs.Cuts.{cut, segment_at, stage_flat}
use Rattle.rules.proofs.Stages.{expects_stage, rate_stage}
use Rattle.rules.specs.Cuts.{stage_at}
use Rattle.settle_terms.specs.declared.Terms.{Terms}
use Rattle.settle_lines.specs.declared.cursor.Active.{Active}
use Rattle.settle_lines.specs.declared.cursor.Cursor.{Cursor}
use Rattle.settle_terms.specs.Terms.{issue_of}
use Rattle.settle_lines.specs.Cursor.{live_at, active_of, rate_by, price_by, steady_at, line_by, cut_by, Planned, Plan, Ready}
use Rattle.settle_lines.proofs.Step.{Next, next}
use Rattle.settle.proofs.LedgerTables.{TimesOf, TermsOf, instruction_at}

-- the plan of a ledger: each of its numbers is the rules'
pub record Tied (g : Ledger) (t : Terms) (calls : List Instruction) (live : List ℕ) (meter : List ℤ) : Type 0 where
  pub plan : Plan t calls live meter
  pub terms : TermsOf g t calls
  pub kw : t.kw ≡ (contract_of g).contracted
  pub kind : t.kind ≡ (contract_of g).kind
  pub utilisation : t.utilisation ≡ (contract_of g).utilisation
  pub optional : t.optional ≡ (contract_of g).optional
  pub periods : (m : ℕ) → live_at live m ≡ in_live g m
  pub reading : (m : ℕ) → m < span_in g → Within 500000 (cell meter m) → reads g m ≡ cell meter m

module _ {g : Ledger} {t : Terms} {calls : List Instruction} {live : List ℕ} {meter : List ℤ} {c : Cursor} (T : Tied g t calls live meter)
    (r : Ready t calls live meter c) where
  abbrev k : Contract
  k = contract_of g

  abbrev i : Instruction
  i = instruction_at g c.at

  abbrev n : Next t calls live meter c
  n = next T.plan r

  abbrev q : Planned t calls live meter c.at
  q = T.plan.each c.at r.more

  abbrev here : TimesOf g t calls c.at
  here = T.terms.each c.at r.more

  expiry_is : c.active.expiry.0 ≡ expiry k i
  expiry_is = n.expiry ∙ here.expiry

  cease_is : c.active.cease.0 ≡ i.cease.0
  cease_is = n.cease ∙ here.cease

  pub end_is : c.active.end.0 ≡ end_of k i
  end_is = n.end ∙ here.end

  pub cut_is : cut_by c ≡ cut k i c.minute.0
  cut_is = rw (expiry_is, cease_is, end_is) refl

  stage_is : (m : ℕ) → stage_at c.active.expiry.0 c.active.cease.0 m ≡ stage_of k i m
  unfolding stage_of
  stage_is m = rw (expiry_is, cease_is) refl

  abbrev seg : Segment
  seg = segment_at k (c.at + 1) i c.minute.0

  rate_is : rate_by c.active live c.minute.0 ≡ rate_at g i c.minute.0
  unfolding rate_by rate_at active_of
  rate_is =
      let early : c.active.early ≡ in_live g (expiry k i) =
      ap (λ (z : Active). z.early) r.active ∙ T.periods _ ∙ ap (in_live g) here.expiry in
      let late : c.active.late ≡ in_live g (i.cease.0 - 1) =
      ap (λ (z : Active). z.late) r.active ∙ T.periods _ ∙ ap (λ z. in_live g (z - 1)) here.cease in
      let h : live_at live c.minute.0 ≡ in_live g c.minute.0 = T.periods c.minute.0 in
      ap (λ b. cond b Utilisation Optional)
      (rate_stage (live_at live c.minute.0) c.active.early c.active.late c.active.expiry.0 c.active.cease.0 c.minute.0
      (omega (arith, n.expiry, n.cease, q.steady)) (λ s. in_live g (anchor k i s c.minute.0)) (sym early) (sym h) (sym late)
      ∙ ap₂ ◌||◌ h (ap (λ s. in_live g (anchor k i s c.minute.0)) (stage_is c.minute.0)))

  price_is : (p : Rate) → price_by t p ≡ price k p
  price_is Utilisation = T.utilisation
  price_is Optional = T.optional

  abbrev kw : ℕ
  kw = nat_abs t.kw.0

  -- a minute's expectation is the stage's
  abbrev each : ℕ → ℕ
  each m = cond (steady_at c.active.expiry.0 c.active.cease.0 m) (steady_quarters kw) (ramp_quarters kw)

  expects_is : (m : ℕ) → pos (each m) ≡ expects k (stage_at c.active.expiry.0 c.active.cease.0 m)
  expects_is m = rw T.kw (expects_stage k c.active.expiry.0 c.active.cease.0 m)

  expected_is : pos (expected_in kw (steady_at c.active.expiry.0 c.active.cease.0 c.minute.0) (cut_by c - c.minute.0)) ≡ expected_of g seg
  unfolding expected_in expected_of
  expected_is =
      sym (pos-*ℤ-pos (cut_by c - c.minute.0) (each c.minute.0))
      ∙ sym (sum_same (λ m. expects k (stage_of k i m)) (pos (each c.minute.0)) c.minute.0 (cut_by c)
      (λ m a b. ap (expects k) (sym (stage_is m) ∙ stage_flat c.active.expiry.0 c.active.cease.0 c.active.end.0 c.minute.0 m a b)
      ∙ sym (expects_is c.minute.0)))
      ∙ ap (λ z. sum (λ m. expects k (stage_of k i m)) (between c.minute.0 z)) cut_is

  base_is : c.active.base ≡ base_load g i
  unfolding base_load base_minutes active_of
  base_is =
      ap (λ (z : Active). z.base) r.active
      ∙ sum_ext (cell meter) (reads g) (issue_of calls c.at - 3) (issue_of calls c.at + 1)
      (λ m a b. sym (T.reading m (omega (arith, q, here.spanned)) (q.base m a b)))
      ∙ ap (λ z. sum (reads g) (between (z - 3) (z + 1))) here.issue

  delivered_is : delivered_in t.kind c.active.base meter c.minute.0 (cut_by c) ≡ delivered_of g seg
  unfolding delivered_in delivered_of
  delivered_is =
      rw (T.kind, base_is)
      (sum_ext (λ m. delivers k.kind (base_load g i) (cell meter m)) (λ m. delivers k.kind (base_load g i) (reads g m)) c.minute.0 (cut_by c)
      (λ m a b. ap (delivers k.kind (base_load g i)) (sym (T.reading m (omega (arith, n.inside, here.spanned)) (n.readable.read m a b))))
      ∙ ap (λ z. sum (λ m. delivers k.kind (base_load g i) (reads g m)) (between c.minute.0 z)) cut_is)

  -- the line of the segment at the cursor
  pub line_tied : line_by t c.active live meter c.at c.minute.0 (cut_by c) ≡ line_of g seg
  unfolding line_by line_of
  line_tied = rw (rate_is, price_is (rate_at g i c.minute.0), expected_is, delivered_is, stage_is c.minute.0) refl
