-- Appendix 2 by demand 3: its bytes are its commands, its commands are all taken, and the statement of the rules pays 416,400 pence.
use mathlib.Core.Path.{◌≡◌, refl, sym, ap, ◌∙◌, subst}
use mathlib.Core.List.{List, []}
use mathlib.Core.Option.{some}
use Prim.Native.Nat.{◌≤◌}
use lib.ListN.{length, replicate, length-replicate, get_elem?}
use Rattle.book_memory.specs.Meter.{room_in, lent}
use Rattle.rules.specs.Ledger.{Ledger, ledger_of}
use Rattle.rules.specs.Refusal.{taken}
use Rattle.rules.specs.Statement.{lines}
use Rattle.rules.specs.Examples.{appendix2, appendix2_file, ledger}
use Rattle.rules.proofs.Figures.{figures}
use Rattle.rules.proofs.Appendix2.{appendix2-read}
use Rattle.demands.specs.Steps.{Step, read, settled, start, outcomes, reads_to}
use Rattle.demands.specs.Demand3.{SettlementRight, Demand3·theorem}
use Rattle.demands.specs.Appendix2.{steps, Appendix2·theorem}
use Rattle.demands.proofs.Settled.{complete_given, Settleable, settleable}
use Rattle.demands.proofs.Demand3.{demand3}

-- its bytes are its commands
entered : (reads_to appendix2_file (length appendix2_file)).commands ≡ appendix2
unfolding Demand3·theorem
entered = (demand3 appendix2_file (lent [] []) []).whole_file ∙ appendix2-read

-- its book is closed and complete
met : Settleable 6 (ledger appendix2)
met = settleable 1440 6 (ledger appendix2) figures.F1-settled

pub appendix2-paid : Appendix2·theorem
unfolding Appendix2·theorem Demand3·theorem ledger
appendix2-paid memory records e h =
    let g : Ledger = ledger_of (taken 1440 appendix2) in
    let before : List Step = replicate (length appendix2_file) read in
    let d = (demand3 appendix2_file memory (steps records)).settlements before [] records refl in
    let r : SettlementRight 1440 (taken 1440 appendix2) records d.0 =
    subst (λ n. SettlementRight n (taken n appendix2) records d.0) e
    (subst (λ cs. SettlementRight (room_in memory) (taken (room_in memory) cs) records d.0) entered d.2) in
    let six : length (lines g) ≡ 6 = ap length figures.F1-lines in
    let answered = r.answered.1 (met.closed, (complete_given g).0 met.whole, subst (λ n. n ≤ length records) (sym six) h) in
    record {
      result = d.0;
      statement = answered.0;
      outcome =
          subst (λ n. get_elem? (outcomes appendix2_file (start memory) (steps records)) n ≡ some (settled d.0))
          (length-replicate (length appendix2_file) read) d.1;
      answer = answered.1;
      total = ap (λ s. s.total.0) ((r.statement answered.0 answered.1).ruled ∙ figures.F1-statement);
    }
