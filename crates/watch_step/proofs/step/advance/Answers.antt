-- `watch_step::step::advance` meets its contract: the sums stay in their ranges, and the parts of the totals are its callees' promises. Assumes nothing.
use mathlib.Core.Path.{◌≡◌, refl}
use mathlib.Core.Bool.{Bool, true, false, cond, ◌||◌}
use mathlib.Core.List.{List}
use Prim.Native.Nat.{ℕ, ◌+◌, ◌%◌, ◌≤◌, ◌<◌}
use native.Mathlib.Omega.{arith}
use lib.Dec.{eqb}
use lib.IntN.{ℤ, pos, ◌+ℤ◌}
use borrow.Author.Tests.{eqb-false}
use mir.Syntax.{w32}
use mir.Val.{SFits, to_z, of_z}
use mir.Facts.{to_z-of_z}
use Rattle.energy.specs.Energy.{kwh, capped, delivers, payment}
use Rattle.energy.specs.Number.{Within, Upto}
use Rattle.energy.proofs.Integers.{abs-parts, add_parts, fits_parts}
use Rattle.energy.proofs.Tests.{off_or}
use Rattle.watch_step.specs.Month.{kind_at, expiry_at, cease_at, end_at}
use Rattle.watch_step.specs.Step.{advanced, cut_before, expects_at, price_at, totals_fit}
use Rattle.watch_step.specs.declared.totals.Totals.{Totals}
use Rattle.watch_step.proofs.Fits.{TotalsFit, totals_fit_lem}
use Rattle.watch_step.proofs.step.advance.Goals as goal

-- ---- the sums
-- a segment that goes on into a minute has had 29 at most
room : (month : List ℕ) (s : Totals) (n m : ℕ) (new cut : Bool) → TotalsFit s → (new ≡ false → m ≡ s.minute.0 + 1) → cut ≡ cut_before month n m
    → (new || cut) ≡ false → Upto 58000000 s.expected × Within 116000000 s.delivered
unfolding cut_before
room month s n m new cut f on e-cut e =
    let (off-new, off-cut) = off_or new cut e in
    let next = on off-new in
    let (three, off-end) = off_or (eqb (m % 30) 0 || eqb m (expiry_at month n) || eqb m (cease_at month n)) (eqb m (end_at month n)) (rw e-cut at off-cut) in
    let (two, off-cease) = off_or (eqb (m % 30) 0 || eqb m (expiry_at month n)) (eqb m (cease_at month n)) three in
    let (off-period, off-expiry) = off_or (eqb (m % 30) 0) (eqb m (expiry_at month n)) two in
    let inside : s.minute.0 % 30 + 1 ≤ 29 = omega (arith, eqb-false (m % 30) 0 off-period) in
    omega (arith, f.expected, f.delivered)

-- what the two sums come to: a period's at most
record Sums (x d : ℤ) : Type 0 where
  expected : Upto 60000000 x
  delivered : Within 120000000 d

sums : (fresh : Bool) (a b p q x d : ℤ) → (fresh ≡ false → Upto 58000000 a × Within 116000000 b) → Upto 2000000 p → Within 4000000 q
    → x ≡ cond fresh (pos 0) a +ℤ p → d ≡ cond fresh (pos 0) b +ℤ q → Sums x d
sums true a b p q x d h hp hq ex ed =
    rw (ex, ed)
    (record {
      expected = omega (arith, add_parts (pos 0) p, abs-parts p, abs-parts (pos 0 +ℤ p));
      delivered = omega (arith, add_parts (pos 0) q);
    })
sums false a b p q x d h hp hq ex ed =
    let k = h refl in
    rw (ex, ed)
    (record {
      expected = omega (arith, add_parts a p, abs-parts a, abs-parts p, abs-parts (a +ℤ p));
      delivered = omega (arith, add_parts b q);
    })

held : (n : ℕ) (z : ℤ) → SFits w32 z → Within n z → Within n (to_z w32 (of_z w32 z))
held n z f h = rw (to_z-of_z f) h

up-held : (n : ℕ) (z : ℤ) → SFits w32 z → Upto n z → Upto n (to_z w32 (of_z w32 z))
up-held n z f h = rw (to_z-of_z f) h

within-up : (n : ℕ) (z : ℤ) → Upto n z → Within n z
within-up n z h = omega (arith, abs-parts z)

wider : (n k : ℕ) (z : ℤ) → n ≤ k → Within n z → Within k z
wider n k z l h = omega arith

sum_told : (fresh : Bool) (a b x : ℤ) → SFits w32 a → SFits w32 b → x ≡ cond fresh (pos 0) (to_z w32 (of_z w32 a)) +ℤ to_z w32 (of_z w32 b)
    → x ≡ cond fresh (pos 0) a +ℤ b
sum_told fresh a b x fa fb e = rw (to_z-of_z fa, to_z-of_z fb) at e

-- totals of a month's minutes are small enough to be added to
small : (s : Totals) → s.minute.0 < 65536 → TotalsFit s → Within 100000000000000 s.capped.0 × Within 100000000000000 s.pence.0
small s h f = omega (arith, f.capped, f.pence)

-- ---- the totals, from their parts
-- the pence of a line that is there
of-line : (ends : Bool) (c : ℤ) (price : ℕ) → cond ends (payment (cond ends c (pos 0)) price) (pos 0) ≡ cond ends (payment c price) (pos 0)
of-line true c price = refl
of-line false c price = refl

made : (month : List ℕ) (new : Bool) (s : Totals) (n m : ℕ) (kw S : ℤ) (cut ends : Bool) (ex de x d k p cap pen : ℤ)
    → cut ≡ cut_before month n m → ends ≡ cut_before month n (m + 1) → ex ≡ expects_at month n m → de ≡ delivers (kind_at month) S kw
    → x ≡ cond (new || cut) (pos 0) s.expected +ℤ ex → d ≡ cond (new || cut) (pos 0) s.delivered +ℤ de
    → k ≡ cond ends (capped (kwh x) (kwh d)) (pos 0) → p ≡ cond ends (payment k (price_at month n m)) (pos 0) → cap ≡ s.capped.0 +ℤ k
    → pen ≡ s.pence.0 +ℤ p
    → ◌≡◌ {A = Totals}
    (record {
      instruction = n;
      minute = record { 0 = m };
      base = S;
      expected = x;
      delivered = d;
      capped = record { 0 = cap };
      pence = record { 0 = pen };
    })
    (advanced month new s n m kw S)
unfolding advanced
made month new s n m kw S cut ends ex de x d k p cap pen e-cut e-ends e-ex e-de e-x e-d e-k e-p e-cap e-pen =
    rw (e-pen, e-cap, e-p, e-k, of-line, e-d, e-x, e-de, e-ex, e-ends, e-cut)

-- ---- the answers
-- the sums so far fit, whatever they are
record Fit (s : Totals) : Type 0 where
  expected : SFits w32 s.expected
  delivered : SFits w32 s.delivered

so_far : (s : Totals) → TotalsFit s → Fit s
so_far s f =
    record {
      expected = fits_parts w32 s.expected (omega (arith, f.expected, abs-parts s.expected));
      delivered = fits_parts w32 s.delivered (omega (arith, f.delivered));
    }

pub sum_with-x-requires : goal.sum_with-x-requires
sum_with-x-requires c =
    let a = c.args in
    let t = totals_fit_lem a.s c.requires.fit in
    let f = so_far a.s t in
    let r = c.expects_at in
    let small = within-up 2000000 r.result r.ensures.1 in (
      λ e. held 116000000 a.s.expected f.expected
          (wider 58000000 116000000 a.s.expected (omega arith)
          (within-up 58000000 a.s.expected (room a.i.month.numbers.now a.s a.i.n a.r.minute.0 a.new c.cut_before.result t c.requires.minute_value c.cut_before.ensures e).0)),
      held 4000000 r.result (record { sfits = r.type_inv }) (wider 2000000 4000000 r.result (omega arith) small),
    )

pub sum_with-d-requires : goal.sum_with-d-requires
sum_with-d-requires c =
    let a = c.args in
    let t = totals_fit_lem a.s c.requires.fit in
    let f = so_far a.s t in
    let r = c.delivered_in in (
      λ e. held 116000000 a.s.delivered f.delivered
          (room a.i.month.numbers.now a.s a.i.n a.r.minute.0 a.new c.cut_before.result t c.requires.minute_value c.cut_before.ensures e).1,
      held 4000000 r.result (record { sfits = r.type_inv }) r.ensures.1,
    )

-- what each sum is, and how large
both : (month : List ℕ) (s : Totals) (n m : ℕ) (new cut : Bool) (p q x d : ℤ) → totals_fit s ≡ true → (new ≡ false → m ≡ s.minute.0 + 1)
    → cut ≡ cut_before month n m → SFits w32 p → SFits w32 q → Upto 2000000 p → Within 4000000 q
    → x ≡ cond (new || cut) (pos 0) (to_z w32 (of_z w32 s.expected)) +ℤ to_z w32 (of_z w32 p)
    → d ≡ cond (new || cut) (pos 0) (to_z w32 (of_z w32 s.delivered)) +ℤ to_z w32 (of_z w32 q) → Sums x d
both month s n m new cut p q x d ft on e-cut fp fq hp hq ex ed =
    let t = totals_fit_lem s ft in
    let f = so_far s t in
    sums (new || cut) s.expected s.delivered p q x d (room month s n m new cut t on e-cut) hp hq
    (sum_told (new || cut) s.expected p x f.expected fp ex) (sum_told (new || cut) s.delivered q d f.delivered fq ed)

pub line_kwh-line-requires : goal.line_kwh-line-requires
line_kwh-line-requires c =
    let a = c.args in
    let x = c.sum_with-x in
    let d = c.sum_with-d in
    let p = c.expects_at in
    let q = c.delivered_in in
    let b = both a.i.month.numbers.now a.s a.i.n a.r.minute.0 a.new c.cut_before.result p.result q.result x.result d.result
    c.requires.fit c.requires.minute_value c.cut_before.ensures (record { sfits = p.type_inv })
    (record { sfits = q.type_inv }) p.ensures.1 q.ensures.1 x.ensures d.ensures in (
      up-held 60000000 x.result (record { sfits = x.type_inv }) b.expected,
      held 120000000 d.result (record { sfits = d.type_inv }) b.delivered,
    )

pub add-capped-requires : goal.add-capped-requires
add-capped-requires c =
    let s = c.args.s in (
      (small s (omega arith) (totals_fit_lem s c.requires.fit)).0,
      wider 500000 100000000000000 c.line_kwh-line.result.0 (omega arith) c.line_kwh-line.ensures.1,
    )

pub add-pence-requires : goal.add-pence-requires
add-pence-requires c =
    let s = c.args.s in (
      (small s (omega arith) (totals_fit_lem s c.requires.fit)).1,
      wider 500000000 100000000000000 c.line_pence-paid.result.0 (omega arith) c.line_pence-paid.ensures.1,
    )

pub returns : goal.returns
returns c =
    let a = c.args in
    let x = c.sum_with-x in
    let d = c.sum_with-d in
    let p = c.expects_at in
    let q = c.delivered_in in
    let k = c.line_kwh-line in
    let f = so_far a.s (totals_fit_lem a.s c.requires.fit) in
    let fp : SFits w32 p.result = record { sfits = p.type_inv } in
    let fq : SFits w32 q.result = record { sfits = q.type_inv } in
    let fx : SFits w32 x.result = record { sfits = x.type_inv } in
    let fd : SFits w32 d.result = record { sfits = d.type_inv } in
    let fs : SFits w32 a.base = c.ranges.base in
    rw (to_z-of_z fx, to_z-of_z fd, to_z-of_z fs)
    (made a.i.month.numbers.now a.new a.s a.i.n a.r.minute.0 a.r.kw.0 a.base c.cut_before.result
    c.cut_before-ends.result p.result q.result x.result d.result
    k.result.0 c.line_pence-paid.result.0 c.add-capped.result.0 c.add-pence.result.0 c.cut_before.ensures
    c.cut_before-ends.ensures p.ensures.0
    (rw (to_z-of_z fs) at q.ensures.0) (sum_told (a.new || c.cut_before.result) a.s.expected p.result x.result f.expected fp x.ensures)
    (sum_told (a.new || c.cut_before.result) a.s.delivered q.result d.result f.delivered fq d.ensures)
    (rw (to_z-of_z fx, to_z-of_z fd) at k.ensures.0) c.line_pence-paid.ensures.0 c.add-capped.ensures c.add-pence.ensures)
