-- A turn of the loop over a file: what is left of the file after it, and that the loop ends.
use mathlib.Core.Path.{◌≡◌, refl, sym, ap, ◌∙◌}
use mathlib.Core.Bool.{Bool, true, false}
use mathlib.Core.List.{List}
use Prim.Native.Nat.{ℕ, zero, suc, ◌≤◌, ◌<◌}
use lib.ListN.{length}
use Rattle.rules.specs.File.{read_at}
use Rattle.commands.specs.declared.entries.Command.{Command}
use Rattle.book_memory.specs.Meter.{takes_reading, Memory, room_in}
use Rattle.book.specs.Enter.{enter_book, Entered}
use Rattle.book.specs.Readings.{open_span}
use Rattle.book.specs.Sound.{sound}
use Rattle.book.specs.declared.Book.{Book}
use Rattle.book.proofs.StaysSound.{Kept, kept}
use Rattle.book.proofs.OpenSpan.{reading_enters}
use Rattle.file_read.proofs.Steps.{got_within}
use Rattle.file_load.specs.Load.{LoadedFile, ended_at, carries_on, loads_on}
use Rattle.file_readings.specs.Run.{Stand, stand_by, stand_at, stands, Run}
use Rattle.file_readings.proofs.Runs.{chosen, stands_room, stays_inside}
use Rattle.file_load.specs.Turn.{Turn, goes_by, turn_by, turn_at}
use Rattle.file_load.proofs.From.{from, from_step}
use Rattle.rules.specs.Answer.{Answer, Taken, Read, Got, End}
use Rattle.std.specs.Prelude.{Ok, Err, Some, None, ⊤}

-- what is left of a file after a turn: the commands from the next position on, or what the loop ended with, at the turn's own position
abbrev pub rest : List ℕ → ℕ → Turn → Book → Memory → LoadedFile
rest s at (Ok (Some next)) b meter = from s next b meter
rest s at (Ok None) b meter = ended_at at Taken b meter
rest s at (Err r) b meter = ended_at at (Err r) b meter

-- where a turn leads from a position within the file: further on in the file, or to the end
abbrev pub Leads : List ℕ → ℕ → Turn → Type 0
Leads s at (Ok (Some next)) = (at < next) × (next ≤ length s)
Leads s at (Ok None) = ⊤
Leads s at (Err r) = ⊤

-- what is known of a turn t at a position with a sound book, where f was left of the file: its rest is that, and the book is sound again
pub record After (s : List ℕ) (at : ℕ) (f : LoadedFile) (t : Turn) (b : Book) (after : Memory) : Type 0 where
  pub again : f ≡ rest s at t b after
  pub leads : Leads s at t
  pub kept : Kept b

module _ (s : List ℕ) (at : ℕ) (b : Book) (meter : Memory) (k : Kept b) where
  -- a turn of the loop, as the code has it
  pub turned : {t : Turn} {b' : Book} {after : Memory} → (t ≡ (turn_at s at b meter).turn) × (b' ≡ (turn_at s at b meter).book)
      × (after ≡ (turn_at s at b meter).meter)
      → After s at (from s at b meter) t b' after
  unfolding turn_at
  turned e = rw (e.0, e.1, e.2, from_step s at b meter) (go (read_at s at) refl)
    where
      answered : (next : ℕ) (a : Answer) (e : Entered) → (at < next) × (next ≤ length s) → Kept e.entry.book
          → After s at (carries_on (λ b m. from s next b m) at a e) (goes_by next a) e.entry.book e.meter
      answered next Taken e h k = record { again = refl; leads = h; kept = k }
      answered next (Err r) e h k = record { again = refl; leads = tt; kept = k }

      go : (r : Read) → read_at s at ≡ r
          → After s at (loads_on (λ next b m. from s next b m) at b meter r) (turn_by b meter r).turn (turn_by b meter r).book (turn_by b meter r).meter
      go (Got c next) e = answered next (enter_book b meter c).entry.answer (enter_book b meter c) (got_within s at e) (kept b meter c k)
      go (Err r) e = record { again = refl; leads = tt; kept = k }
      go End e = record { again = refl; leads = tt; kept = k }

-- ---- a turn without the book

module _ (span : ℕ) (s : List ℕ) (at : ℕ) (meter : Memory) where
  -- what is left from there is what was left before it, for a sound book whose open span it is
  stand_rest : (b : Book) → sound b ≡ true → span ≡ open_span b (room_in meter)
      → from s at b meter ≡ from s (stand_at span s at meter).at b (stand_at span s at meter).meter
  unfolding stand_at
  stand_rest b k o = go (read_at s at) refl
    where
      answered : (c : Command) (next : ℕ) (x : Bool) → read_at s at ≡ Got c next → takes_reading span meter c ≡ x
          → from s at b meter ≡ from s (chosen x at next meter c).at b (chosen x at next meter c).meter
      answered c next true e t =
          from_step s at b meter ∙ ap (loads_on (λ next b m. from s next b m) at b meter) e
          ∙ ap (λ (x : Entered). carries_on (λ b m. from s next b m) at x.entry.answer x)
          (reading_enters b meter c k (ap (λ n. takes_reading n meter c) (sym o) ∙ t))
      answered c next false e t = refl

      go : (r : Read) → read_at s at ≡ r → from s at b meter ≡ from s (stand_by span at meter r).at b (stand_by span at meter r).meter
      go (Got c next) e = answered c next (takes_reading span meter c) e refl
      go (Err n) e = refl
      go End e = refl

-- so many turns without the book: what is left then is what was left before them
module _ (span : ℕ) (s : List ℕ) (x : Stand) where
  stands_rest : (b : Book) → sound b ≡ true → span ≡ open_span b (room_in x.meter) → (n : ℕ)
      → from s x.at b x.meter ≡ from s (stands n span s x).at b (stands n span s x).meter
  unfolding stands
  stands_rest b k o zero = refl
  stands_rest b k o (suc n) =
      stands_rest b k o n
      ∙ stand_rest span s (stands n span s x).at (stands n span s x).meter b k (o ∙ ap (open_span b) (sym (stands_room span s x n)))

-- a run of turns without the book, as the code has it
pub run_again : (s : List ℕ) (at : ℕ) (b : Book) (span : ℕ) (meter : Memory) (next : ℕ) (after : Memory) → Run span s at meter next after → Kept b
    → span ≡ open_span b (room_in meter) → from s at b meter ≡ from s next b after
run_again s at b span meter next after r k o =
    let x : Stand = record { at = at; meter = meter } in
    rw r.reached at (stands_rest span s x b k.sound o r.turns)

-- ---- readings without the book, and the turn behind them: what is left then is what was left before both
pub record Led (s : List ℕ) (at : ℕ) (b : Book) (meter : Memory) (here : ℕ) (t : Turn) (b' : Book) (after : Memory) : Type 0 where
  pub again : from s at b meter ≡ rest s here t b' after
  pub forward : at ≤ here
  pub inside : here ≤ length s
  pub leads : Leads s here t
  pub kept : Kept b'

pub led : (s : List ℕ) (at : ℕ) (b : Book) (meter : Memory) {span room here : ℕ} {passed after : Memory} {t : Turn} {b' : Book} → Kept b → at ≤ length s
    → room ≡ room_in meter
    → span ≡ open_span b room
    → Run span s at meter here passed
    → t ≡ (turn_at s here b passed).turn
    → b' ≡ (turn_at s here b passed).book
    → after ≡ (turn_at s here b passed).meter
    → Led s at b meter here t b' after
led s at b meter {here = here} {passed} k inside asked o run value book memory =
    let turn = turned s here b passed k (value, book, memory) in
    record {
      again = run_again s at b _ meter here passed run k (o ∙ ap (open_span b) asked) ∙ turn.again;
      forward = run.forward;
      inside = stays_inside run inside;
      leads = turn.leads;
      kept = turn.kept;
    }
