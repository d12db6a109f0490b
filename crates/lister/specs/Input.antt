-- "The lister": what entering standard input comes to, whose bytes come into one buffer, one read after the other.
use Rattle.std.specs.Prelude.{◌≡◌, true, false, ◌&&◌, List, ◌++◌, ℕ, ◌+◌, ◌-◌, ◌≤◌, ◌<◌, T, eqb, length, take, drop}
use Rattle.energy.specs.Lists.{Laid}
use Rattle.book_memory.specs.Meter.{Memory}
use Rattle.book.specs.Book.{empty_book}
use Rattle.book.specs.Sound.{sound}
use Rattle.file_load.specs.Load.{LoadedFile, load}
use Rattle.demands.specs.Pieces.{unfinished}
use Rattle.lister.specs.Printed.{printed}
use Rattle.lister.specs.declared.piece.Ended.{Ended}
use Rattle.lister.specs.declared.piece.Piece.{Piece}
use Rattle.lister.specs.declared.turn.Turn.{Turn}
use Rattle.lister.specs.declared.turn.Turn.TheVariants.{Next, Listed}

-- how entering stands: how it ended, lent memory then, and the bytes that were not entered
pub record Standing : Type 0 where
  pub ended : Ended
  pub meter : Memory
  pub kept : List ℕ

-- so it stands at an offset where the bytes in hand were entered like this
abbrev pub stands_at : ℕ → List ℕ → LoadedFile → Standing
stands_at offset held l =
    record {
      ended = record { answer = l.loaded.answer; offset = offset; book = l.loaded.book };
      meter = l.meter;
      kept = drop l.loaded.at held;
    }

-- a file entered from the empty book
unfoldable pub standing : List ℕ → Memory → Standing
standing file before = let l : LoadedFile = load file empty_book before in stands_at l.loaded.at file l

-- a step: the bytes in hand, those kept and those read behind them, are entered into what the bytes before them left
unfoldable pub step : Ended → Memory → List ℕ → Standing
step e meter held = let l : LoadedFile = load held e.book meter in stands_at (e.offset + l.loaded.at) held l

-- the listing of a file: the rows of how entering it ended
unfoldable pub listing_of : List ℕ → Memory → List ℕ
listing_of file before = printed (standing file before).ended (standing file before).meter

-- ---- pieces of a file

-- a file so far, and new bytes behind it
pub record Steps (file new : List ℕ) (before : Memory) : Type 0 where
  -- while more bytes can change how it ended, a step over those kept and the new ones is entering the file followed by the new ones
  pub goes_on :
      T (unfinished (standing file before).ended.answer)
      → step (standing file before).ended (standing file before).meter ((standing file before).kept ++ new) ≡ standing (file ++ new) before
  -- where none can, the longer file has the same listing
  pub ends : unfinished (standing file before).ended.answer ≡ false → listing_of (file ++ new) before ≡ listing_of file before

-- the steps over all pieces of a file do what entering it does
unfoldable pub Steps·theorem : Type 0
Steps·theorem = (file new : List ℕ) (before : Memory) → Steps file new before

-- ---- what the lister's functions promise

-- the first `have` bytes of a buffer are entered; the piece, lent memory and the buffer after it
pub record EntersPiece (e : Ended) (before : Memory) (buffer : List ℕ) (have : ℕ) (p : Piece) (after : Memory) (left : List ℕ) : Type 0 where
  -- it stands as the step says, and what is kept is in front of the buffer
  pub stands : record { ended = p.ended; meter = after; kept = take p.kept left } ≡ step e before (take have buffer)
  -- what the next turn asks: a sound book, and that the kept bytes fit
  pub keeps : sound p.ended.book ≡ true
  pub fits : p.kept ≤ length left

-- a turn enters a piece. There is another one to read where more bytes can change how this one ended, and these fill the buffer: then no rows are put.
-- Else it is the last one, and the rows of how entering ended are put
abbrev pub ListsPiece : Ended → Memory → List ℕ → ℕ → Memory → List ℕ → List ℕ → List ℕ → Turn → Type 0
ListsPiece e before buffer have after left rows out (Next p) =
    EntersPiece e before buffer have p after left
    × ((unfinished p.ended.answer && eqb have (length buffer)) ≡ true)
    × (out ≡ rows)
ListsPiece e before buffer have after left rows out (Listed n) =
    (p : Piece)
    × EntersPiece e before buffer have p after left
    × ((unfinished p.ended.answer && eqb have (length buffer)) ≡ false)
    × Laid (printed p.ended after) rows 0 out n

-- bytes that came read by read: the listing of all of them is put, so many bytes long; and the buffer after the last turn
pub record ListedInput (before : Memory) (buffer rows out : List ℕ) (n : ℕ) : Type 0 where
  -- all bytes that came
  pub file : List ℕ
  -- their listing, as of one file
  pub prints : Laid (listing_of file before) rows 0 out n
  -- where entering them ended for good, no bytes behind them would change it, so none need be read
  pub decided : unfinished (standing file before).ended.answer ≡ false → (more : List ℕ) → listing_of (file ++ more) before ≡ listing_of file before
  -- where more bytes could change it, those of the last piece, which are all from this position on, do not fill the buffer: the last read came short
  pub from : ℕ
  pub unread : from ≤ (standing file before).ended.offset
  pub short : T (unfinished (standing file before).ended.answer) → length file < from + length buffer
  -- the buffer holds those that were not entered
  pub last : take (length file - (standing file before).ended.offset) buffer ≡ (standing file before).kept
