-- What line memory holds after so many lines, and what follows for the segment at the cursor.
use mathlib.Core.Path.{◌≡◌, refl, sym, ◌∙◌, ap, subst}
use mathlib.Core.List.{List, ◌++◌, map, append-nil}
use Prim.Native.Nat.{ℕ, zero, suc, ◌+◌, ◌-◌, ◌*◌, ◌/◌, ◌≤◌, ◌<◌}
use native.Mathlib.Omega.{arith}
use lib.IntN.{ℤ}
use lib.ListN.{length, take, drop, length-set, drop_of_length-le}
use lib.Seq.{length-take-le}
use Rattle.energy.specs.Energy.{cell, Readable}
use Rattle.energy.specs.Lists.{sum, between}
use Rattle.energy.specs.Number.{Within}
use Rattle.energy.proofs.Sums.{sum-within}
use Rattle.commands.specs.declared.entries.Instruction.{Instruction}
use Rattle.rules.specs.declared.statement.Line.{Line}
use Rattle.rules.proofs.Cuts.{rises}
use Rattle.rules.specs.Cuts.{cut_of}
use Rattle.settle_terms.specs.declared.Terms.{Terms}
use Rattle.settle_lines.specs.declared.cursor.Active.{Active}
use Rattle.settle_lines.specs.declared.cursor.Cursor.{Cursor}
use Rattle.settle_terms.specs.Terms.{issue_of, cease_of}
use Rattle.settle_lines.specs.Cursor.{active_of, cut_by, stored, Plan, Ready}
use Rattle.settle_lines.proofs.First.{sets_first}

pub length-stored : (f : ℕ → Line) (n : ℕ) (ys : List Line) → length (stored f n ys) ≡ length ys
length-stored f zero ys = refl
length-stored f (suc n) ys = length-set (stored f n ys) n (f n) ∙ length-stored f n ys

-- the first n lines stand before the records that are as they were
pub stored-first : (f : ℕ → Line) (n : ℕ) (ys : List Line) → n ≤ length ys → stored f n ys ≡ map f (between 0 n) ++ drop n ys
stored-first f n ys = sets_first f (λ m. stored f m ys) (λ m. refl) n

-- stored into a part that is lent, and the records after it
pub stored_part : (f : ℕ → Line) (n : ℕ) (ys : List Line) → n ≤ length ys → stored f n (take n ys) ++ drop n ys ≡ stored f n ys
stored_part f n ys h =
    let l : length (take n ys) ≡ n = length-take-le n ys h in
    let k : length (take n ys) ≤ n = omega arith in
    let e : stored f n (take n ys) ≡ map f (between 0 n) =
    stored-first f n (take n ys) (omega arith) ∙ rw (drop_of_length-le (take n ys) k) (append-nil (map f (between 0 n))) in
    rw e (sym (stored-first f n ys h))

-- ---- the segment at the cursor
pub record Next (t : Terms) (calls : List Instruction) (live : List ℕ) (meter : List ℤ) (c : Cursor) : Type 0 where
  pub expiry : c.active.expiry.0 ≡ issue_of calls c.at + t.response.0
  pub cease : c.active.cease.0 ≡ cease_of calls c.at
  pub end : c.active.end.0 ≡ cease_of calls c.at + t.downminutes.0
  pub above : c.minute.0 < cut_by c
  pub inside : cut_by c ≤ cease_of calls c.at + t.downminutes.0
  pub base : Within 2000000 c.active.base
  pub readable : Readable meter c.minute.0 (cut_by c)

pub next : {t : Terms} {calls : List Instruction} {live : List ℕ} {meter : List ℤ} {c : Cursor} → Plan t calls live meter → Ready t calls live meter c
    → Next t calls live meter c
unfolding active_of cut_of
next {t} {calls} {live} {meter} {c} p r =
    let q = p.each c.at r.more in
    let ee : c.active.expiry.0 ≡ issue_of calls c.at + t.response.0 = ap (λ (z : Active). z.expiry.0) r.active in
    let ec : c.active.cease.0 ≡ cease_of calls c.at = ap (λ (z : Active). z.cease.0) r.active in
    let ef : c.active.end.0 ≡ cease_of calls c.at + t.downminutes.0 = ap (λ (z : Active). z.end.0) r.active in
    let eb : c.active.base ≡ sum (cell meter) (between (issue_of calls c.at - 3) (issue_of calls c.at + 1)) =
    ap (λ (z : Active). z.base) r.active in
    let R = rises c.active.expiry.0 c.active.cease.0 c.active.end.0 (omega arith) (omega arith) in
    let b : c.minute.0 < c.active.end.0 = omega arith in
    let a : c.minute.0 < cut_by c = R.above c.minute.0 b in
    let i : cut_by c ≤ c.active.end.0 = R.inside c.minute.0 b in
    let short : cut_by c ≤ 30 * (c.minute.0 / 30) + 30 = omega arith in
    record {
      expiry = ee;
      cease = ec;
      end = ef;
      above = a;
      inside = omega arith;
      base =
          subst (λ z. Within 2000000 z) (sym eb) (omega (
            arith,
            sum-within (cell meter) 500000 (issue_of calls c.at - 3) (issue_of calls c.at + 1)
                q.base,
          ));
      readable = record { order = omega arith; short = omega arith; inside = omega arith; read = λ m x y. q.read m (omega arith) (omega arith) };
    }
