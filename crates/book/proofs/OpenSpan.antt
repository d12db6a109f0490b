-- A reading that is taken by its book's open span: what is known of it, and that entering it does the same.
use mathlib.Core.Path.{◌≡◌, refl, sym, ◌∙◌, subst}
use mathlib.Core.Bool.{Bool, true, false, not, ◌&&◌, false≢true}
use Prim.Native.Nat.{ℕ, ◌≤◌, ◌<◌}
use native.Mathlib.Omega.{arith}
use lib.Dec.{eqb, leb, ltb}
use borrow.Author.Tests.{not-true, leb-true, lt-ltb, le-ltb, lt-leb}
use Rattle.book.specs.Book.{book_span, book_cells}
use Rattle.commands.specs.Command.{revised_as, always, on_reading, on_revision, on_metered}
use Rattle.commands.specs.Input.{input_refusal}
use Rattle.energy.proofs.Tests.{on_and}
use Rattle.commands.proofs.Chain.{true_or_false}
use Rattle.commands.proofs.ByKind.{Not, metered_or_not}
use Rattle.commands.specs.declared.entries.Reading.{Reading}
use Rattle.commands.specs.declared.entries.Command.{Command}
use Rattle.rules.specs.Refusal.{not_above}
use Rattle.book_memory.specs.Meter.{put_meter, written_at, metered_at, takes_reading, Memory, room_in}
use Rattle.book.specs.Enter.{Enters, enter_book, taken_as}
use Rattle.book_refusal.specs.Refusals.{any_refusal, reading_refusal}
use Rattle.book.specs.Readings.{open_span}
use Rattle.book.specs.Sound.{sound}
use Rattle.book.specs.declared.Book.{Book}
use Rattle.book.proofs.Refusals.{any_of, own_of}
use Rattle.book.proofs.MeteredEntry.{any-revised, revised_number, takes}
use Rattle.book.proofs.Asked.{by_own, past_any}
use Rattle.commands.specs.Refusals.{outcome}
use Rattle.std.specs.Prelude.{Ok}
use Rattle.rules.specs.Answer.{Answer}
use Rattle.book_memory.proofs.TakenReading.{takes_revised, tests, revision_is, taken_input, put_revised}

-- ---- the open span

record Open (b : Book) (room : ℕ) : Type 0 where
  agreed : b.agreed ≡ true
  unclosed : b.closed ≡ false
  fits : book_cells b ≤ room
  whole : open_span b room ≡ book_span b

-- a span with a minute in it is the contract's
opened : (b : Book) (room m : ℕ) → m < open_span b room → Open b room
unfolding open_span
opened b room m h =
    true_or_false (b.agreed && not b.closed && leb (book_cells b) room)
    (λ t.
    let p = on_and (b.agreed && not b.closed) (leb (book_cells b) room) t in
    let q = on_and b.agreed (not b.closed) p.0 in
    record { agreed = q.0; unclosed = not-true b.closed q.1; fits = leb-true (book_cells b) room p.1; whole = rw t })
    (λ t. let none : m < 0 = rw t at h in absurd (omega arith))

-- ---- entering

none_met : (input : ℕ) (sound closed agreed short : Bool) → eqb input 0 ≡ true → sound ≡ true → closed ≡ false → agreed ≡ true → short ≡ false
    → any_refusal input sound closed agreed false short ≡ 0
unfolding any_refusal
none_met input sound closed agreed short p q r s t = rw (p, q, r, s, t)

none_answered : (n : ℕ) → n ≡ 0 → ◌≡◌ {A = Answer} (Ok tt) (outcome n)
unfolding outcome
none_answered n e = rw e refl

module _ (b : Book) (meter : Memory) (s : sound b ≡ true) (n : ℕ) (r : Reading)
    (t : takes_reading (open_span b (room_in meter)) meter (revised_as n r) ≡ true) where
  -- it is taken: no condition holds of it
  taken : Enters b meter (revised_as n r) (taken_as b) (written_at r.minute.0 r.kw.0 n meter)
  unfolding reading_refusal
  taken =
      let fits : Bool = eqb (input_refusal (revised_as n r)) 0 in
      let p = tests (open_span b (room_in meter)) meter fits n r (sym (takes_revised (open_span b (room_in meter)) meter n r) ∙ t) in
      let o = opened b (room_in meter) r.minute.0 p.inside in
      let any : any_of b (room_in meter) (revised_as n r) ≡ 0 =
      any-revised b (room_in meter) n r
      ∙ none_met (input_refusal (revised_as n r)) (sound b) b.closed b.agreed (ltb (room_in meter) (book_cells b)) p.input s o.unclosed o.agreed
      (le-ltb (room_in meter) (book_cells b) o.fits) in
      let below : r.minute.0 < book_span b = omega (arith, p.inside, o.whole) in
      let p' = past_any b (room_in meter) (revised_as n r) any in
      let own : own_of b meter (revised_as n r) ≡ 0 =
      sym (revised_number b meter n r (book_span b) p' refl)
      ∙ rw (lt-leb (book_span b) r.minute.0 below, lt-ltb r.minute.0 (book_span b) below, p.above) refl in
      takes b meter n r (by_own b (room_in meter) (revised_as n r) p' meter refl (none_answered (own_of b meter (revised_as n r)) own)) refl

  enters : enter_book b meter (revised_as n r) ≡ record { entry = taken_as b; meter = put_meter meter (revised_as n r) }
  enters i = record { entry = sym taken.entry i; meter = sym (put_revised meter n r ∙ taken.meter) i }

-- a sound book takes it, and is as it was
Entering : Book → Memory → Command → Type 0
Entering b meter c =
    sound b ≡ true → takes_reading (open_span b (room_in meter)) meter c ≡ true → enter_book b meter c ≡ record { entry = taken_as b; meter = put_meter meter c }

-- it takes readings alone
neither : {A : Type 0} (f : ℕ → Reading → A) (g : Command → A) (c : Command) → Not (λ A. on_reading) c → Not (λ A. on_revision) c → on_metered f g c ≡ g c
neither {A} f g c o q = o A (f 0) (on_revision (λ v. f v.number v.reading) g) ∙ q A (λ v. f v.number v.reading) g

none_other : (span : ℕ) (meter : Memory) (c : Command) → Not (λ A. on_reading) c → Not (λ A. on_revision) c → takes_reading span meter c ≡ false
unfolding takes_reading
none_other span meter c o q =
    neither (λ n r. eqb (input_refusal c) 0 && ltb r.minute.0 span && ltb r.minute.0 (room_in meter) && not (not_above n (metered_at meter r.minute.0)))
    (always false) c o q

pub reading_enters : (b : Book) (meter : Memory) (c : Command) → sound b ≡ true → takes_reading (open_span b (room_in meter)) meter c ≡ true
    → enter_book b meter c ≡ record { entry = taken_as b; meter = put_meter meter c }
unfolding Entering
reading_enters b meter =
    metered_or_not (Entering b meter) (λ r s t. enters b meter s 0 r t)
    (λ v s t. subst (Entering b meter) (revision_is v (taken_input (open_span b (room_in meter)) meter v t))
    (λ s t. enters b meter s v.number v.reading t) s t)
    (λ c o q s t. absurd (false≢true (sym (none_other (open_span b (room_in meter)) meter c o q) ∙ t)))
