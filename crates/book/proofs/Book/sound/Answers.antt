-- `Book::sound` meets its contract: past the test of the tables the counts are within them.
use Rattle.std.proofs.Common.{sym, ◌∙◌}
use Rattle.energy.proofs.Tests.{to-T}
use Rattle.book.proofs.SoundTests.{tables_of}
use Rattle.book.proofs.Book.sound.Goals as goal

pub shared_ref_as_front-agreed_sound : goal.shared_ref_as_front-agreed_sound
shared_ref_as_front-agreed_sound c = (tables_of c.args.self (to-T (sym c.tables_sound.ensures ∙ c.if-not-tables_sound.false))).windows

pub shared_ref_as_front-agreed_sound-2 : goal.shared_ref_as_front-agreed_sound-2
shared_ref_as_front-agreed_sound-2 c = (tables_of c.args.self (to-T (sym c.tables_sound.ensures ∙ c.if-not-tables_sound.false))).instructions

pub shared_ref_as_front-agreed_sound-3 : goal.shared_ref_as_front-agreed_sound-3
shared_ref_as_front-agreed_sound-3 c = (tables_of c.args.self (to-T (sym c.tables_sound.ensures ∙ c.if-not-tables_sound.false))).defaults
