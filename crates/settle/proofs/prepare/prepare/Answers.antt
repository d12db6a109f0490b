-- `settle::prepare::prepare` meets its contract: what is laid out of a book that is not refused is what is prepared of it. Assumes nothing.
use Rattle.std.proofs.Common.{rules}
use Rattle.rules.proofs.Folds.{length_mapped}
use Rattle.settle.proofs.Outcome.{laid_out, sound_agreed}
use Rattle.settle.proofs.prepare.prepare.Goals as goal

pub lay_out-requires : goal.lay_out-requires
lay_out-requires c = let s = sound_agreed c.in_ok-n.ensures in (s.0, s.1, search (length_mapped, rules))

pub returns : goal.returns
returns c = laid_out (search (length_mapped, rules)) c.in_ok-n.ensures c.lay_out.ensures
