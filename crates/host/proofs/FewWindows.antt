-- The windows of a book that a call settles are few, whether a file leaves it or tables say it.
use Rattle.std.proofs.Common.{◌≡◌, Bool, true, false, cond, ◌^◌, ◌<◌, length, arith}
use Rattle.std.specs.Prelude.{Ok, Err}
use Rattle.commands.specs.declared.refusal.Refusal.TheVariants.{NotReached}
use Rattle.book.specs.Sound.{sound}
use Rattle.book.specs.declared.Book.{Book}
use Rattle.book.proofs.SoundTests.{sound-parts}
use Rattle.host_tables.specs.Tables.{Tables, book_of, entire, said}

pub of_sound : (b : Book) → sound b ≡ true → b.nwindows < 2 ^ 63
of_sound b e = omega (arith, (sound-parts b e).tables.windows)

whole : (e : Bool) (b b' : Book) → Ok b ≡ cond e (Ok b') (Err NotReached) → b ≡ b'
whole true b b' e = cc
whole false b b' e = cc

pub of_tables : (t : Tables) (b : Book) → Ok b ≡ said t → length t.windows < 2 ^ 64 → b.nwindows < 2 ^ 63
unfolding book_of
of_tables t b e h = rw (whole (entire t) b (book_of t) e) (omega arith)
