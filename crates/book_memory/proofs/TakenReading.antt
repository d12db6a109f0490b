-- A reading that is taken into lent memory: what is known of it, by its revision.
use mathlib.Core.Path.{◌≡◌, refl, sym, ◌∙◌}
use mathlib.Core.Logic.{◌≢◌}
use mathlib.Core.Bool.{Bool, true, false, not, ◌&&◌, ◌||◌, and-true, and-false}
use Prim.Native.Nat.{ℕ, ◌<◌, zero, suc}
use lib.Dec.{T, eqb, ltb}
use borrow.Author.Tests.{ltb-true, not-true, eq-eqb, ne_eqb, eqb-true}
use Rattle.energy.proofs.Tests.{to-T, on_and, T_and}
use Rattle.commands.specs.Command.{revised_as, always, on_revision}
use Rattle.commands.specs.Input.{from_to, is_reading, in_range, meterable, ramp_too_long, bad_window, no_such_date, input_refusal, most_minute}
use Rattle.commands.specs.declared.entries.Reading.{Reading}
use Rattle.commands.specs.declared.entries.Revision.{Revision}
use Rattle.commands.specs.declared.entries.Command.{Command}
use Rattle.commands.specs.declared.entries.Command.TheVariants.{Revision as revisionᶜ}
use Rattle.commands.proofs.ByKind.{on-revised, revised_is, metered_or_not}
use Rattle.commands.proofs.Input.{input_none}
use Rattle.commands.proofs.Terms.{bounds}
use Rattle.rules.specs.Refusal.{not_above}
use Rattle.book_memory.specs.Meter.{Memory, room_in, metered_at, written_at, put_meter, takes_reading}

-- ---- the tests

-- what is asked of a reading of revision n; input: its operands are in range
abbrev pub takes : ℕ → Memory → Bool → ℕ → Reading → Bool
takes span m input n r = input && ltb r.minute.0 span && ltb r.minute.0 (room_in m) && not (not_above n (metered_at m r.minute.0))

pub takes_revised : (span : ℕ) (m : Memory) (n : ℕ) (r : Reading) → takes_reading span m (revised_as n r) ≡ takes span m
    (eqb (input_refusal (revised_as n r)) 0) n r
unfolding takes_reading
takes_revised span m n r = on-revised (takes span m (eqb (input_refusal (revised_as n r)) 0)) (always false) n r

-- without room it is not taken; with it, and its operands in range, the others decide
module _ (span : ℕ) (m : Memory) (n : ℕ) (r : Reading) where
  pub no_room : ltb r.minute.0 (room_in m) ≡ false → false ≡ takes_reading span m (revised_as n r)
  no_room e = sym (takes_revised span m n r ∙ rw (e, and-false))

  pub by_others : input_refusal (revised_as n r) ≡ 0 → ltb r.minute.0 (room_in m) ≡ true
      → (ltb r.minute.0 span && not (not_above n (metered_at m r.minute.0))) ≡ takes_reading span m (revised_as n r)
  by_others i e = sym (takes_revised span m n r ∙ rw (eq-eqb (input_refusal (revised_as n r)) 0 i, e, and-true))

pub record Tests (span : ℕ) (m : Memory) (fits : Bool) (n : ℕ) (r : Reading) : Type 0 where
  pub input : fits ≡ true
  pub inside : r.minute.0 < span
  pub held : r.minute.0 < room_in m
  pub above : not_above n (metered_at m r.minute.0) ≡ false

pub tests : (span : ℕ) (m : Memory) (input : Bool) (n : ℕ) (r : Reading) → takes span m input n r ≡ true → Tests span m input n r
tests span m input n r t =
    let i : ℕ = r.minute.0 in
    let p = on_and (input && ltb i span && ltb i (room_in m)) (not (not_above n (metered_at m i))) t in
    let q = on_and (input && ltb i span) (ltb i (room_in m)) p.0 in
    let o = on_and input (ltb i span) q.0 in
    record { input = o.0; inside = ltb-true i span o.1; held = ltb-true i (room_in m) q.1; above = not-true (not_above n (metered_at m i)) p.1 }

-- operands that are turned down: it is not taken, of either kind
pub refused_not : (span : ℕ) (m : Memory) (c : Command) (n : ℕ) → input_refusal c ≡ n → n ≢ 0 → false ≡ takes_reading span m c
unfolding takes_reading
refused_not span m c n e h =
    metered_or_not (λ c. input_refusal c ≡ n → false ≡ takes_reading span m c) (λ r e. rw (e, ne_eqb n 0 h)) (λ v e. rw (e, ne_eqb n 0 h))
    (λ c r v e.
    let plain : Reading → Bool = takes span m (eqb (input_refusal c) 0) 0 in
    let revised : Revision → Bool = λ w. takes span m (eqb (input_refusal c) 0) w.number w.reading in
    sym (r Bool plain (on_revision {A = Bool} revised (always false)) ∙ v Bool revised (always false)))
    c e

-- a revision that is taken has its operands in range
pub taken_input : (span : ℕ) (m : Memory) (v : Revision) → takes_reading span m (revisionᶜ v) ≡ true → input_refusal (revisionᶜ v) ≡ 0
unfolding takes_reading
taken_input span m v t =
    eqb-true (input_refusal (revisionᶜ v)) 0 (tests span m (eqb (input_refusal (revisionᶜ v)) 0) v.number v.reading t).input

-- ---- operands in range

-- a command whose operands are not turned down has them in their ranges
pub input_fits : (c : Command) → input_refusal c ≡ 0 → in_range c ≡ true
input_fits c e =
    (on_and (in_range c) (not (ramp_too_long c) && not (no_such_date c || bad_window c)) (sym (input_none c) ∙ eq-eqb (input_refusal c) 0 e)).0

-- so a revision is made of its number and its reading
pub revision_is : (v : Revision) → input_refusal (revisionᶜ v) ≡ 0 → revised_as v.number v.reading ≡ revisionᶜ v
revision_is v e = revised_is v (bounds 1 255 v.number (T_and (from_to 1 255 v.number) (meterable v.reading) (to-T (input_fits (revisionᶜ v) e))).0).0

-- so the kW of a reading of any revision
pub revised_fits : (n : ℕ) (r : Reading) → input_refusal (revised_as n r) ≡ 0 → T (is_reading r.kw.0)
revised_fits zero r e = (T_and (from_to 0 most_minute r.minute.0) (is_reading r.kw.0) (to-T (input_fits (revised_as zero r) e))).1
revised_fits (suc n) r e =
    let p = T_and (from_to 1 255 (suc n)) (meterable r) (to-T (input_fits (revised_as (suc n) r) e)) in
    (T_and (from_to 0 most_minute r.minute.0) (is_reading r.kw.0) p.1).1

-- ---- what it puts

pub put_revised : (m : Memory) (n : ℕ) (r : Reading) → put_meter m (revised_as n r) ≡ written_at r.minute.0 r.kw.0 n m
put_revised m zero r = refl
put_revised m (suc n) r = refl
