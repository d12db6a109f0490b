-- Inner, and proved equal to the rules: settling into records of its own: what a caller gets that lends none.
use Rattle.std.specs.Prelude.{List, pos, replicate, Result, Ok, Err}
use Rattle.book_memory.specs.Meter.{Memory}
use Rattle.commands.specs.declared.refusal.Refusal.{Refusal}
use Rattle.rules.specs.declared.statement.Line.{Line}
use Rattle.rules.specs.declared.statement.Stage.TheVariants.{Up}
use Rattle.rules.specs.declared.statement.Rate.TheVariants.{Utilisation}
use Rattle.rules.specs.declared.statement.Statement.{Statement}
use Rattle.book.specs.declared.Book.{Book}
use Rattle.settle.specs.Settle.{Settled, settle_book}
use Rattle.settle_records.specs.declared.Listing.{Listing}

-- a record before it holds a line
abbrev pub no_line : Line
no_line =
    record {
      instruction = 0;
      period = 0;
      stage = Up;
      rate = Utilisation;
      expected = record { 0 = pos 0 };
      delivered = record { 0 = pos 0 };
      capped = record { 0 = pos 0 };
      pence = record { 0 = pos 0 };
    }

-- a statement with what line memory holds, or a refusal
abbrev pub listing_of : Result Statement Refusal → List Line → Result Listing Refusal
listing_of (Ok s) lines = Ok (record { statement = s; lines = lines })
listing_of (Err r) lines = Err r

-- settling a book into 719 records of its own: what `listed` promises
unfoldable pub list_book : Book → Memory → Result Listing Refusal
list_book b meter = let s : Settled = settle_book b meter (replicate 719 no_line) in listing_of s.answer s.memory
