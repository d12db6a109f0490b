-- `book_sound::agreed_sound` meets its contract: each test is asked where those before it passed.
use Rattle.std.proofs.Common.{arith}
use Rattle.energy.proofs.Tests.{to-T}
use Rattle.book_sound.proofs.Search.{in_order}
use Rattle.book_sound.proofs.Walks.{contract_fits, agreed_apart}
use Rattle.book_sound.proofs.agreed.agreed_sound.Goals as goal

pub instructions_sound-requires : goal.instructions_sound-requires
instructions_sound-requires c = contract_fits c.args.k (grind arith)

pub defaults_sound-requires : goal.defaults_sound-requires
defaults_sound-requires c = in_order c.args.k c.args.span 0 c.args.windows.now (to-T (grind arith))

pub returns-then-instructions_sound : goal.returns-then-instructions_sound
returns-then-instructions_sound c = let defaults = c.defaults_sound.ensures c.args.k in grind (arith, agreed_apart)
