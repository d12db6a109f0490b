-- Proved of the rules: which cells hold a reading, which revision counts, and what commands put, by example.
use Rattle.std.specs.Prelude.{◌≡◌, [], ◌∷◌, pos, negsuc}
use Rattle.std.proofs.Math.Option.{none, some}
use Rattle.rules.specs.Examples.{metered, revised}
use Rattle.book_memory.specs.Meter.{missing, cell_reading, Memory, lent, room_in, metered_at, marked_to, marked_from, put_meter}

-- a cell counts by its range, not by its mark, and a byte where its cell counts
pub record CellExamples : Type 0 where
  -- the mark is no reading, whatever the byte
  pub mark : cell_reading missing 9 ≡ none
  -- nor is anything else outside the range, on either side
  pub above : cell_reading (pos 500001) 0 ≡ none
  pub below : cell_reading (negsuc 500000) 0 ≡ none
  -- the ends of the range are
  pub most : cell_reading (pos 500000) 0 ≡ some (record { kw = pos 500000; revision = 0 })
  pub least : cell_reading (negsuc 499999) 9 ≡ some (record { kw = negsuc 499999; revision = 9 })
  -- a minute past the end of memory has none
  pub past_end : metered_at (lent (pos 7 ∷ []) (1 ∷ 2 ∷ [])) 1 ≡ none
  -- the shorter of the two decides how much room there is
  pub few_bytes : room_in (lent (pos 7 ∷ pos 8 ∷ []) (1 ∷ [])) ≡ 1
  pub few_cells : room_in (lent (pos 7 ∷ []) (1 ∷ 2 ∷ [])) ≡ 1

-- three minutes, each read and sent again
abbrev pub three : Memory
three = lent (pos 7 ∷ pos 8 ∷ pos 9 ∷ []) (1 ∷ 2 ∷ 3 ∷ [])

-- what is written, and what is not
pub record PutExamples : Type 0 where
  -- a contract marks the cells of its span and clears their bytes, and leaves those after it
  pub contract : marked_to 2 three ≡ lent (missing ∷ missing ∷ pos 9 ∷ []) (0 ∷ 0 ∷ 3 ∷ [])
  -- an hour that a month gains is marked and cleared from a place on, and leaves what is before it and after it
  pub hour : marked_from 1 1 three ≡ lent (pos 7 ∷ missing ∷ pos 9 ∷ []) (1 ∷ 0 ∷ 3 ∷ [])
  -- and where none is gained nothing is written
  pub no_hour : marked_from 1 0 three ≡ three
  -- a plain reading writes its cell and a 0, whatever the byte held
  pub plain : put_meter three (metered 1 (pos 5)) ≡ lent (pos 7 ∷ pos 5 ∷ pos 9 ∷ []) (1 ∷ 0 ∷ 3 ∷ [])
  -- a revision writes its cell and its number
  pub again : put_meter three (revised 1 9 (pos 5)) ≡ lent (pos 7 ∷ pos 5 ∷ pos 9 ∷ []) (1 ∷ 9 ∷ 3 ∷ [])
