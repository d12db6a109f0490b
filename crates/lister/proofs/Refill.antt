-- Pieces of the lister's input. A step over the bytes that were kept and those read behind them is entering all bytes together, by the theorem on pieces
-- of a file; so the loop's invariant is that entering stands as all bytes so far say, and a full buffer moves the offset on, up to the most that is taken.
use mathlib.Core.Path.{◌≡◌, refl, sym, ap, ◌∙◌}
use mathlib.Core.Bool.{Bool, true, false, ◌&&◌, false≢true}
use mathlib.Core.List.{List, [], ◌++◌}
use Prim.Native.Nat.{ℕ, ◌+◌, ◌-◌, ◌≤◌, ◌<◌}
use native.Mathlib.Omega.{arith}
use borrow.Author.Tests.{eqb-true, eqb-false}
use lib.Dec.{T, eqb}
use lib.ListN.{length, take, drop, length-append, length-drop, take-append-drop}
use lib.Seq.{length-take-le, take-take, drop-append-le, drop-drop}
use Rattle.energy.specs.Lists.{Laid}
use Rattle.book_memory.specs.Meter.{Memory, room_in}
use Rattle.rules.specs.FileLength.{most_taken}
use Rattle.book.specs.Book.{empty_book}
use Rattle.book.specs.declared.Book.{Book}
use Rattle.file_load.specs.Load.{LoadedFile, load, load_from}
use Rattle.demands.specs.Pieces.{unfinished, Pieces·theorem}
use Rattle.demands.proofs.Pieces.{pieces, inside, unread}
use Rattle.demands.proofs.Files.{stops_within}
use Rattle.lister.specs.Printed.{printed}
use Rattle.lister.specs.Input.{Standing, standing, step, listing_of, Steps·theorem, EntersPiece, ListedInput}
use Rattle.lister.specs.declared.piece.Ended.{Ended}
use Rattle.lister.specs.declared.piece.Piece.{Piece}
use Rattle.rules.specs.Answer.{Taken}

-- ---- steps over a file

-- the reader stays within the file
within_file : (file : List ℕ) (b : Book) (before : Memory) → (load file b before).loaded.at ≤ length file
unfolding load
within_file file b before = inside (length file) file 0 b before (omega arith)

pub steps : Steps·theorem
unfolding Steps·theorem standing step listing_of Pieces·theorem
steps file new before =
    let whole = pieces file new empty_book before in
    let k : ℕ = (load file empty_book before).loaded.at in
    let l : LoadedFile = load (drop k file ++ new) (load file empty_book before).loaded.book (load file empty_book before).meter in
    let kept : drop l.loaded.at (drop k file ++ new) ≡ drop (k + l.loaded.at) (file ++ new) =
    ap (drop l.loaded.at) (sym (drop-append-le k file new (within_file file empty_book before))) ∙ drop-drop l.loaded.at k (file ++ new) in
    record { goes_on = λ u. rw (whole.goes_on u, kept); ends = λ u. rw (whole.ends u) }

-- what entering a file comes to: it stops within the file, not past the room for commands, and near its end where more bytes can change it
record Known (file : List ℕ) (before : Memory) (x : Standing) : Type 0 where
  within : x.ended.offset ≤ length file
  most : x.ended.offset ≤ most_taken (room_in before)
  near : T (unfinished x.ended.answer) → length file < x.ended.offset + 32
  rest : x.kept ≡ drop x.ended.offset file

known : (file : List ℕ) (before : Memory) → Known file before (standing file before)
unfolding standing
known file before =
    record { within = within_file file empty_book before; most = stops_within file before; near = unread file empty_book before; rest = refl }

-- ---- the loop

-- the bytes so far, entered as one file from lent memory `before`, stand like this, and more bytes can change it
pub record SoFar (before : Memory) (e : Ended) (meter : Memory) (kept : List ℕ) : Type 0 where
  pub file : List ℕ
  pub stands : standing file before ≡ record { ended = e; meter = meter; kept = kept }
  pub goes_on : T (unfinished e.answer)

pub begins : (before : Memory) (b : Book) → b ≡ empty_book → SoFar before (record { answer = Taken; offset = 0; book = b }) before []
unfolding standing load load_from
begins before b e = record { file = []; stands = rw e; goes_on = tt }

-- how far entering can have come
pub far : {before : Memory} {e : Ended} {meter : Memory} {kept : List ℕ} → SoFar before e meter kept → e.offset ≤ most_taken (room_in before)
far {before} s = (rw s.stands at (known s.file before)).most

-- the bytes that the buffer holds, as a part of all bytes: a step over them is entering all
pub record Held (before : Memory) (e : Ended) (meter : Memory) (buffer : List ℕ) (have : ℕ) : Type 0 where
  pub all : List ℕ
  pub whole : step e meter (take have buffer) ≡ standing all before
  pub long : length all ≡ e.offset + have
  pub room : have ≤ length buffer

-- they are read behind n that were kept
pub held : {before : Memory} {e : Ended} {meter : Memory} {kept : List ℕ} → SoFar before e meter kept → (buffer : List ℕ) (n have : ℕ) → take n buffer ≡ kept
    → n ≤ have → have ≤ length buffer → Held before e meter buffer have
unfolding Steps·theorem
held {before} {e} {meter} {kept} s buffer n have stay more room =
    let new : List ℕ = drop n (take have buffer) in
    let parts : take have buffer ≡ kept ++ new =
    sym (take-append-drop n (take have buffer)) ∙ ap (λ x. x ++ new) (take-take n have buffer more ∙ stay) in
    let k = rw s.stands at (known s.file before) in
    record {
      all = s.file ++ new;
      whole = ap (step e meter) parts ∙ (rw s.stands at (steps s.file new before).goes_on) s.goes_on;
      long = omega (
        arith,
        k.within,
        ap length stay,
        length-take-le n buffer (omega arith),
        ap length k.rest,
        length-drop e.offset s.file,
        length-append s.file new,
        length-drop n (take have buffer),
        length-take-le have buffer room,
      );
      room = room;
    }

-- ---- a turn

-- it is left where more bytes change nothing, or the buffer is not full
left_short : (a : Bool) (have size : ℕ) → have ≤ size → (a && eqb have size) ≡ false → T a → have < size
left_short false have size h e t = absurd t
left_short true have size h e t = let differ : have ≡ size → ⊥ = eqb-false have size e in omega arith

goes_full : (a : Bool) (have size : ℕ) → (a && eqb have size) ≡ true → T a × (have ≡ size)
goes_full false have size e = absurd (false≢true e)
goes_full true have size e = (tt, eqb-true have size e)

-- all bytes, as a piece entered behind the others leaves them
module _ {before : Memory} {e : Ended} {meter : Memory} {buffer : List ℕ} {have : ℕ} (h : Held before e meter buffer have) {p : Piece} {after : Memory}
    {left : List ℕ} (t : EntersPiece e meter buffer have p after left) where
  stands : standing h.all before ≡ record { ended = p.ended; meter = after; kept = take p.kept left }
  stands = sym (t.stands ∙ h.whole)

  all_known : Known h.all before (record { ended = p.ended; meter = after; kept = take p.kept left })
  all_known = rw stands at (known h.all before)

  moved : e.offset ≤ p.ended.offset
  unfolding step
  moved = omega (arith, ap (λ x. x.ended.offset) t.stands)

  -- the loop ends here
  pub listed : (unfinished p.ended.answer && eqb have (length buffer)) ≡ false → length left ≡ length buffer → {rows out : List ℕ} {n : ℕ}
      → Laid (printed p.ended after) rows 0 out n → ListedInput before left rows out n
  unfolding listing_of Steps·theorem
  listed g same {rows} {out} {n} l =
      let size : length h.all - p.ended.offset ≡ p.kept =
      omega (arith, ap length all_known.rest, length-drop p.ended.offset h.all, length-take-le p.kept left t.fits) in
      let full = left_short (unfinished p.ended.answer) have (length buffer) h.room g in
      record {
        file = h.all;
        prints = rw stands l;
        decided = λ u more. (steps h.all more before).ends u;
        from = e.offset;
        unread = rw stands moved;
        short = rw stands (λ u. omega (arith, h.long, same, full u));
        last = rw (stands, size);
      }

  -- or it goes on with what is kept
  module _ (g : (unfinished p.ended.answer && eqb have (length buffer)) ≡ true) where
    full : T (unfinished p.ended.answer) × (have ≡ length buffer)
    full = goes_full (unfinished p.ended.answer) have (length buffer) g

    pub again : SoFar before p.ended after (take p.kept left)
    again = record { file = h.all; stands = stands; goes_on = full.0 }

    -- a full buffer moves the offset on, and not past the room for commands
    pub forward : 32 ≤ length buffer → (e.offset < p.ended.offset) × (p.ended.offset ≤ most_taken (room_in before))
    forward r = (omega (arith, all_known.near full.0, h.long, full.1), all_known.most)
