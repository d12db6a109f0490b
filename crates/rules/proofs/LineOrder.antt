-- Segments go by rising minute: each is the minutes from its head up to its cut, and each instruction's active minutes are after those of the
-- instructions before it.
use mathlib.Core.Path.{refl, sym, ◌≡◌, subst}
use mathlib.Core.Logic.{⊎_elim}
use mathlib.Core.List.Memᴰ
use mathlib.Core.List.{List, [], ◌∷◌, ◌++◌, Memᴰ}
use Prim.Native.Nat.{ℕ, zero, suc, ◌+◌, ◌-◌, ◌≤◌, ◌<◌}
use native.Mathlib.Nat.{le_refl}
use native.Mathlib.Omega.{arith}
use lib.Dec.{T, ltb}
use borrow.Author.Tests.{ltb-true}
use Rattle.energy.specs.Lists.{between}
use Rattle.energy.proofs.Sums.{between_cons}
use Rattle.energy.proofs.Tests.{either}
use Rattle.commands.specs.Input.{up_minutes}
use Rattle.rules.specs.Ledger.{Ledger, ledger_of, contract_of, span_in, expiry, ramp_start, end_of}
use Rattle.rules.specs.Refusal.{taken}
use Rattle.rules.specs.Segment.{Segment, segments_from, segments}
use Rattle.rules.specs.Reached.{instructions_sound, Reached}
use Rattle.rules.specs.Reached.Reached.{untouched, agreed}
use Rattle.rules.specs.Lines.{InOrder, Rising·theorem}
use Rattle.commands.specs.declared.contract.Contract.{Contract}
use Rattle.commands.specs.declared.entries.Instruction.{Instruction}
use Rattle.rules.proofs.Lists.{in_between}
use Rattle.rules.proofs.Cuts.{rises, cut, cuts_from, segments_cuts, Timed}
use Rattle.rules.proofs.Tables.{instructions_cons}
use Rattle.rules.proofs.Reached.{parts_of, terms_of_lem, reached}

-- ---- segments one after the other

-- a segment from minute e on: it is the minutes from its head up to an end
record Stands (e : ℕ) (s : Segment) : Type 0 where
  from : e ≤ s.head
  end : ℕ
  begun : s.head < end
  minutes : s.minutes ≡ between s.head end

in_segment : {e : ℕ} {s : Segment} (t : Stands e s) (m : ℕ) → Memᴰ m s.minutes → (s.head ≤ m) × (m < t.end)
in_segment {s = s} t m h = in_between s.head t.end m (subst (λ l. Memᴰ m l) t.minutes h)

-- each from the end of the one before it on
abbrev Rise : ℕ → List Segment → Type 0
Rise e [] = Unit {0}
Rise e (s ∷ ss) = (t : Stands e s) × Rise t.end ss

-- so from any earlier minute on
sooner : {e e' : ℕ} {s : Segment} → e ≤ e' → Stands e' s → Stands e s
sooner l t = record { from = omega (arith, t.from); end = t.end; begun = t.begun; minutes = t.minutes }

rise_sooner : {e e' : ℕ} (ss : List Segment) → e ≤ e' → Rise e' ss → Rise e ss
unfolding sooner
rise_sooner [] l r = tt
rise_sooner (s ∷ ss) l (t, rest) = (sooner l t, rest)

stands : (e : ℕ) (ss : List Segment) → Rise e ss → (s : Segment) → Memᴰ s ss → Stands e s
stands e [] r s h = absurd (Memᴰ.not-nil h)
stands e (x ∷ ss) (t, rest) s h =
    ⊎_elim (λ q. subst (Stands e) (sym q) t) (λ q. sooner (omega (arith, t.from, t.begun)) (stands t.end ss rest s q)) (Memᴰ.cases_cons h)

rise_order : (e : ℕ) (ss : List Segment) → Rise e ss → InOrder ss
unfolding InOrder
rise_order e [] r = tt
rise_order e (s ∷ ss) (t, rest) = (
  λ u q m n a b. let v = stands t.end ss rest u q in omega (arith, in_segment t m a, in_segment v n b, v.from),
  rise_order t.end ss rest,
)

-- ---- the segments of one instruction, and others after its end

rise_cuts : (k : Contract) (n : ℕ) (i : Instruction) → Timed k i → (ss : List Segment) → Rise (end_of k i) ss → (u m : ℕ) → m ≤ end_of k i
    → Rise m (cuts_from k n i u m ++ ss)
unfolding cuts_from
rise_cuts k n i t ss r zero m h = rise_sooner ss h r
rise_cuts k n i t ss r (suc u) m h =
    let R = rises (expiry k i) i.cease.0 (end_of k i) t.steady (omega arith) in
    either (ltb m (end_of k i))
    (λ e.
    let l = ltb-true m (end_of k i) e in
    rw e (record { from = le_refl m; end = cut k i m; begun = R.above m l; minutes = refl }, rise_cuts k n i t ss r u (cut k i m) (R.inside m l)))
    (λ e. rw e (rise_sooner ss h r))

-- ---- over all instructions

module _ (k : Contract) (span : ℕ) (u : up_minutes k ≤ k.response.0) where
  rise_from : (is : List Instruction) (n e : ℕ) → T (instructions_sound k span e is) → Rise e (segments_from k n is)
  unfolding segments_from
  rise_from [] n e t = tt
  rise_from (i ∷ is) n e t =
      let (f, rest) = instructions_cons k span e i is t in
      let after = segments_from k (suc n) is in
      let later : Rise (end_of k i) after = rise_sooner after (omega arith) (rise_from is (suc n) (end_of k i + k.recovery.0) rest) in
      let timed : Timed k i = record { starts = omega arith; steady = f.ceased } in
      let begins : e ≤ ramp_start k i = omega arith in
      let turns = end_of k i - ramp_start k i in
      rw (segments_cuts k n i timed)
      (rise_sooner (cuts_from k n i turns (ramp_start k i) ++ after) begins (rise_cuts k n i timed after later turns (ramp_start k i) (omega arith)))

-- ---- what commands leave

rise : {size : ℕ} (g : Ledger) → Reached size g → Rise 0 (segments g)
unfolding segments segments_from
rise g (untouched u) = subst (λ is. Rise 0 (segments_from (contract_of g) 1 is)) (sym u.instructions) tt
rise g (agreed a) = rise_from (contract_of g) (span_in g) (terms_of_lem a).up.1 g.instructions 1 0 (parts_of a).instructions

pub rising : Rising·theorem
rising size cs =
    let g : Ledger = ledger_of (taken size cs) in
    let r : Rise 0 (segments g) = rise g (reached size cs) in
    record {
      has = λ s h. let t = stands 0 (segments g) r s h in rw (t.minutes, between_cons s.head t.end t.begun) (Memᴰ.head refl);
      first = λ s h m q. (in_segment (stands 0 (segments g) r s h) m q).0;
      order = rise_order 0 (segments g) r;
    }
