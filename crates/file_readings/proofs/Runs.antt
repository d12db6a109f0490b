-- Readings one after the other: how a run of them goes on, that lent memory keeps its room, and where it ends.
use mathlib.Core.Path.{◌≡◌, refl, sym, ap, ◌∙◌, subst}
use mathlib.Core.Logic.{◌≢◌}
use mathlib.Core.Bool.{Bool, true, false, cond, ◌&&◌, true≢false}
use mathlib.Core.List.{List, []}
use mathlib.Core.Option.{Option}
use Prim.Native.Nat.{ℕ, zero, suc, ◌+◌, ◌-◌, ◌≤◌, ◌<◌}
use native.Mathlib.Nat.{zero-add, suc-add}
use native.Mathlib.Omega.{arith}
use borrow.Author.Tests.{leb-true, ltb-true, eqb-true, lt-ltb, le-leb, eq-eqb}
use lib.Dec.{eqb, leb, ltb}
use lib.ListN.{length, get_or, drop}
use Rattle.energy.specs.Lists.{else}
use Rattle.energy.proofs.Tests.{on_and, either, either-le}
use Rattle.commands.specs.declared.entries.Command.{Command}
use Rattle.commands.specs.declared.entries.Command.TheVariants.{Reading as readingᶜ, Revision as revisionᶜ}
use Rattle.commands.specs.declared.entries.Reading.{Reading}
use Rattle.commands.specs.declared.entries.Revision.{Revision}
use Rattle.commands.specs.Command.{always, on_revision}
use Rattle.commands.specs.Input.{input_refusal}
use Rattle.commands.proofs.ByKind.{metered_or_not}
use Rattle.rules.specs.File.{table, widths_of, total, operands, byte_of, read_at}
use Rattle.book_memory.specs.Meter.{put_meter, written_at, takes_reading, Memory, room_in}
use Rattle.book_memory.proofs.Lengths.{written_room}
use Rattle.book_memory.proofs.TakenReading.{takes}
use Rattle.file_read.proofs.Finds.{Found, ended, unknown, short, entire, found}
use Rattle.file_read.proofs.Steps.{got_within, byte_back}
use Rattle.file_readings.specs.Run.{Stand, stand_by, stand_at, stands, Still, Run, stands_whole}
use Rattle.rules.specs.Answer.{Read, Got, End}
use Rattle.std.specs.Prelude.{Err}

-- what is known where a command with this byte stands whole
pub whole : (s : List ℕ) (at byte n : ℕ) → stands_whole s at byte n ≡ true → (at < length s) × (at + n ≤ length s) × (get_or s at 0 ≡ byte)
unfolding stands_whole
whole s at byte n t =
    let p = on_and (ltb at (length s) && eqb (get_or s at 0) byte) (leb n (length s - at)) t in
    let q = on_and (ltb at (length s)) (eqb (get_or s at 0) byte) p.0 in
    let l = ltb-true at (length s) q.0 in
    (l, omega (arith, leb-true n (length s - at) p.1), eqb-true (get_or s at 0) byte q.1)

-- ---- a run of them

stand_is : (x : Stand) (at : ℕ) (meter : Memory) → x.at ≡ at → x.meter ≡ meter → x ≡ record { at = at; meter = meter }
stand_is x at meter e f = rw (← e, ← f) refl

-- a turn goes on to behind a command, or stands still
pub record Moves (s : List ℕ) (at next : ℕ) : Type 0 where
  pub forward : at ≤ next
  pub inside : at < next → next ≤ length s

pub moves : (span : ℕ) (s : List ℕ) (at : ℕ) (meter : Memory) → Moves s at (stand_at span s at meter).at
unfolding stand_at
moves span s at meter = go (read_at s at) refl
  where
    stays : Moves s at at
    stays = record { forward = omega arith; inside = λ h. absurd (omega (arith, h)) }

    answered : (x : Bool) (y : Stand) → (at < y.at) × (y.at ≤ length s) → let z : Stand = cond x y (record { at = at; meter = meter }) in Moves s at z.at
    answered true y l = record { forward = omega (arith, l.0); inside = λ h. l.1 }
    answered false y l = stays

    go : (r : Read) → read_at s at ≡ r → Moves s at (stand_by span at meter r).at
    go (Got c next) e = answered (takes_reading span meter c) (record { at = next; meter = put_meter meter c }) (got_within s at e)
    go (Err n) e = stays
    go End e = stays

-- of two stretches each ends within the bytes, so do both
both_inside : (s : List ℕ) {a b c : ℕ} → a ≤ b → (a < b → b ≤ length s) → b ≤ c → (b < c → c ≤ length s) → a < c → c ≤ length s
both_inside s {a} {b} {c} p q r t h =
    either-le c b (λ l. let same : b ≡ c = omega arith in subst (λ x. x ≤ length s) same (q (omega arith))) (λ l. t l)

-- so many turns, and then so many more
stands_join : (span : ℕ) (s : List ℕ) (x : Stand) (n m : ℕ) → stands (n + m) span s x ≡ stands n span s (stands m span s x)
unfolding stands
stands_join span s x zero m = rw zero-add
stands_join span s x (suc n) m = rw (suc-add n m, stands_join span s x n m)

module _ (span : ℕ) (s : List ℕ) (start : ℕ) (meter₀ : Memory) where
  pub run_none : Run span s start meter₀ start meter₀
  unfolding stands
  run_none = record { turns = 0; reached = refl; forward = omega arith; inside = λ h. absurd (omega (arith, h)) }

  -- a turn more
  pub run_more : (at next : ℕ) (meter after : Memory) → Run span s start meter₀ at meter
      → (next ≡ (stand_at span s at meter).at) × (after ≡ (stand_at span s at meter).meter) → Run span s start meter₀ next after
  unfolding stands
  run_more at next meter after r e =
      let m : Moves s at next = rw e.0 (moves span s at meter) in
      record {
        turns = suc r.turns;
        reached = rw r.reached (stand_is _ _ _ (sym e.0) (sym e.1));
        forward = omega (arith, r.forward, m.forward);
        inside = λ h. both_inside s r.forward r.inside m.forward m.inside h;
      }

  -- another run behind it
  pub run_join : (at next : ℕ) (meter after : Memory) → Run span s start meter₀ at meter → Run span s at meter next after → Run span s start meter₀ next after
  run_join at next meter after p q =
      record {
        turns = q.turns + p.turns;
        reached = stands_join span s (record { at = start; meter = meter₀ }) q.turns p.turns ∙ ap (stands q.turns span s) p.reached ∙ q.reached;
        forward = omega (arith, p.forward, q.forward);
        inside = λ h. both_inside s p.forward p.inside q.forward q.inside h;
      }

-- ---- lent memory

-- a command read is a reading that is taken, or it is left
abbrev pub chosen : Bool → ℕ → ℕ → Memory → Command → Stand
chosen x at next meter c = cond x (record { at = next; meter = put_meter meter c }) (record { at = at; meter = meter })

module _ (span : ℕ) (s : List ℕ) where
  -- lent memory has the room that it had
  stand_room : (at : ℕ) (meter : Memory) → room_in (stand_at span s at meter).meter ≡ room_in meter
  unfolding stand_at takes_reading
  stand_room at meter = go (read_at s at)
    where
      answered : (x : Bool) (next : ℕ) (c : Command) (n : ℕ) (r : Reading) → put_meter meter c ≡ written_at r.minute.0 r.kw.0 n meter
          → room_in (chosen x at next meter c).meter ≡ room_in meter
      answered true next c n r e = ap room_in e ∙ written_room meter r.minute.0 r.kw.0 n
      answered false next c n r e = refl

      go : (r : Read) → room_in (stand_by span at meter r).meter ≡ room_in meter
      go (Got c next) =
          metered_or_not (λ c. room_in (chosen (takes_reading span meter c) at next meter c).meter ≡ room_in meter)
          (λ r. answered (takes_reading span meter (readingᶜ r)) next (readingᶜ r) 0 r refl)
          (λ v. answered (takes_reading span meter (revisionᶜ v)) next (revisionᶜ v) v.number v.reading refl)
          (λ c r v. rw (r _ _ _, v _ _ (always false)) refl) c
      go (Err n) = refl
      go End = refl

  pub stands_room : (x : Stand) (n : ℕ) → room_in (stands n span s x).meter ≡ room_in x.meter
  unfolding stands
  stands_room x zero = refl
  stands_room x (suc n) = stand_room (stands n span s x).at (stands n span s x).meter ∙ stands_room x n

-- ---- where it ends

module _ (span : ℕ) (s : List ℕ) (at : ℕ) (meter : Memory) where
  -- a command that is not taken
  abbrev Left : Command → Type 0
  Left c = takes_reading span meter c ≡ false

  -- no reading is taken of a command with another byte
  other_byte : (c : Command) → byte_of c ≢ 0x4D → byte_of c ≢ 0x52 → Left c
  unfolding takes_reading
  other_byte =
      metered_or_not (λ c. byte_of c ≢ 0x4D → byte_of c ≢ 0x52 → Left c) (λ r p q. absurd (p refl)) (λ v p q. absurd (q refl))
      (λ c r v p q.
      let plain : Reading → Bool = takes span meter (eqb (input_refusal c) 0) 0 in
      let revised : Revision → Bool = λ w. takes span meter (eqb (input_refusal c) 0) w.number w.reading in
      r Bool plain (on_revision {A = Bool} revised (always false)) ∙ v Bool revised (always false))

  -- a command that is there whole has another byte than one that does not stand there whole
  not_whole : (byte n : ℕ) (ws : List ℕ) → stands_whole s at byte n ≡ false → at < length s → 1 + total ws ≤ length s - at
      → (get_or s at 0 ≡ byte → n ≡ 1 + total ws) → get_or s at 0 ≢ byte
  unfolding stands_whole
  not_whole byte n ws w h k e b =
      let there : true ≡ false = rw (lt-ltb at (length s) h, eq-eqb (get_or s at 0) byte b, le-leb n (length s - at) (omega (arith, e b))) at w in
      true≢false there

  -- where no whole reading stands, of either kind, nothing is taken
  pub no_reading : stands_whole s at 0x4D 7 ≡ false → stands_whole s at 0x52 8 ≡ false → stand_at span s at meter ≡ record { at = at; meter = meter }
  unfolding stand_at table widths_of total else
  no_reading p q = go (found s at)
    where
      go : {r : Read} → Found s at r → stand_by span at meter r ≡ record { at = at; meter = meter }
      go (ended h) = refl
      go (unknown h e) = refl
      go (short h e k) = refl
      go (entire {ws} {c} h e k g) =
          let size : Option (List ℕ) → ℕ = λ o. 1 + total (else o []) in
          let same : byte_of c ≡ get_or s at 0 = byte_back (get_or s at 0) (operands ws (drop (at + 1) s)) c g in
          let plain = not_whole 0x4D 7 ws p h k (λ b. ap size (rw b at e)) in
          let revised = not_whole 0x52 8 ws q h k (λ b. ap size (rw b at e)) in
          rw (other_byte c (rw same plain) (rw same revised))

  -- where a turn stands still, lent memory is as it was
  unmoved : (stand_at span s at meter).at ≡ at → (stand_at span s at meter).meter ≡ meter
  unfolding stand_at
  unmoved = go (read_at s at) refl
    where
      answered : (x : Bool) (y : Stand) → at < y.at → (cond x y (record { at = at; meter = meter })).at ≡ at
          → (cond x y (record { at = at; meter = meter })).meter ≡ meter
      answered true y l h = absurd (omega (arith, l, h))
      answered false y l h = refl

      go : (r : Read) → read_at s at ≡ r → (stand_by span at meter r).at ≡ at → (stand_by span at meter r).meter ≡ meter
      go (Got c next) e h = answered (takes_reading span meter c) _ (got_within s at e).0 h
      go (Err n) e h = refl
      go End e h = refl

  -- and another turn stands still too
  pub still : (after : Memory) → (at ≡ (stand_at span s at meter).at) × (after ≡ (stand_at span s at meter).meter)
      → stand_at span s at after ≡ record { at = at; meter = after }
  still after e =
      let same : after ≡ meter = e.1 ∙ unmoved (sym e.0) in
      rw same (stand_is _ _ _ (sym e.0) (unmoved (sym e.0)))

-- ---- runs that take nothing

module _ (span : ℕ) (s : List ℕ) (at : ℕ) (meter : Memory) where
  abbrev here : Stand
  here = record { at = at; meter = meter }

  -- so many turns end no earlier than they start, and where they end there, lent memory is as it was
  turns_still : (n : ℕ) → (at ≤ (stands n span s here).at) × ((stands n span s here).at ≡ at → (stands n span s here).meter ≡ meter)
  unfolding stands
  turns_still zero = (omega arith, λ e. refl)
  turns_still (suc n) =
      let x : Stand = stands n span s here in
      let before = turns_still n in
      let m = moves span s x.at x.meter in (
        omega (arith, before.0, m.forward),
        λ e.
            let same : x.at ≡ at = omega (arith, before.0, m.forward, e) in
            unmoved span s x.at x.meter (e ∙ sym same) ∙ before.1 same,
      )

  pub run_still : (after : Memory) → Run span s at meter at after → after ≡ meter
  run_still after r =
      ap (λ (x : Stand). x.meter) (sym r.reached) ∙ (turns_still r.turns).1 (ap (λ (x : Stand). x.at) r.reached)

-- where neither kind takes one, nothing is taken
pub neither : (span : ℕ) (s : List ℕ) (at : ℕ) (meter : Memory) → (stands_whole s at 0x4D 7 ≡ true → Still span s at meter)
    → (stands_whole s at 0x52 8 ≡ true → Still span s at meter) → Still span s at meter
neither span s at meter p r =
    either (stands_whole s at 0x4D 7) p (λ e. either (stands_whole s at 0x52 8) r (λ f. no_reading span s at meter e f))

-- two runs, of one kind and then of the other, that come back to where they started
pub both_still : (span : ℕ) (s : List ℕ) (at plain next : ℕ) (before between after : Memory) → Run span s at before plain between
    → Run span s plain between next after → next ≡ at → (stands_whole s plain 0x4D 7 ≡ true → Still span s plain between)
    → (stands_whole s next 0x52 8 ≡ true → Still span s next after) → Still span s at after
both_still span s at plain next before between after p q e first second =
    let same : plain ≡ at = omega (arith, p.forward, q.forward, e) in
    let none : after ≡ between = run_still span s plain between after (subst (λ x. Run span s plain between x after) (e ∙ sym same) q) in
    neither span s at after (rw (← same, none) first) (rw (← e) second)

-- a run from within the bytes ends within them
pub stays_inside : {span : ℕ} {s : List ℕ} {at next : ℕ} {meter after : Memory} → Run span s at meter next after → at ≤ length s → next ≤ length s
stays_inside {s = s} {at} {next} r h = either-le next at (λ l. omega (arith, r.forward)) (λ l. r.inside l)
