-- Demand 3: along a list the calls keep to the rules (Along), a settlement for the commands taken is right (Settled), and a file's reads enter the commands
-- of its bytes (FileReads). Here these are put together for one place of the list: what stands there, and what the step there leaves.
use mathlib.Core.Path.{◌≡◌, refl, ap, ◌∙◌}
use mathlib.Core.Bool.{not}
use mathlib.Core.List.{List, [], ◌∷◌, ◌++◌}
use mathlib.Core.Option.{Option, none, some}
use Prim.Native.Nat.{ℕ}
use lib.ListN.{length, get_elem?}
use Rattle.book_memory.specs.Meter.{room_in}
use Rattle.rules.specs.Refusal.{refusal}
use Rattle.book.specs.Book.{ledger_in}
use Rattle.book.specs.Sound.{sound}
use Rattle.book.specs.Enter.{enter_book, entered_by}
use Rattle.settle.specs.Settle.{settle_book}
use Rattle.demands.specs.Steps.{Step, settle, Call, command, stop, settlement, call_at, State, start, after, says, after_all, outcomes}
use Rattle.demands.specs.Steps.{entered, outset, place_from}
use Rattle.demands.specs.Demand3.{Demand3·theorem}
use Rattle.demands.proofs.Along.{At, at_start, at_place, by_rules, state_left}
use Rattle.demands.proofs.Settled.{settlement_right}
use Rattle.demands.proofs.FileReads.{entered_list_lem, whole_file_lem}
use Rattle.rules.specs.Answer.{Taken}

-- ---- one place of a list

module _ (file : List ℕ) where
  -- what the step there is answered
  at_outcome : (s : State) (before : List Step) (x : Step) (rest : List Step)
      → get_elem? (outcomes file s (before ++ x ∷ rest)) (length before) ≡ some (says (after_all file s before) (call_at file (after_all file s before).at x))
  unfolding outcomes after_all
  at_outcome s [] x rest = refl
  at_outcome s (y ∷ before) x rest = at_outcome (after s (call_at file s.at y)) before x rest

  -- and the state after it
  after-step : (s : State) (before : List Step) (x : Step)
      → after_all file s (before ++ x ∷ []) ≡ after (after_all file s before) (call_at file (after_all file s before).at x)
  unfolding after_all
  after-step s [] x = refl
  after-step s (y ∷ before) x = after-step (after s (call_at file s.at y)) before x

-- ---- what is not taken leaves book and lent memory

Same : State → State → Type 0
Same s u = (s.book ≡ u.book) × (s.memory ≡ u.memory)

not_taken : (s : State) (k : Call) → (says s k ≡ entered Taken → ⊥) → Same (after s k) s
unfolding enter_book Same
not_taken s (command c next) h = go (refusal (not (sound s.book)) (room_in s.memory) (ledger_in s.book s.memory) c) (λ e. h (ap entered e))
  where
    go : (o : Option ℕ) → ((entered_by o s.book s.memory c).entry.answer ≡ Taken → ⊥)
        → ((entered_by o s.book s.memory c).entry.book ≡ s.book) × ((entered_by o s.book s.memory c).meter ≡ s.memory)
    go none h = absurd (h refl)
    go (some n) h = (refl, refl)
not_taken s (stop r) h = (refl, refl)
not_taken s (settlement records) h = (refl, refl)

-- ---- the whole list

pub demand3 : Demand3·theorem
unfolding Demand3·theorem Same
demand3 file memory steps =
    record {
      outcome = by_rules file outset (start memory) steps (at_start memory);
      left = state_left (place_from file outset steps) (after_all file (start memory) steps) (at_place file outset (start memory) steps (at_start memory));
      settlements = λ before rest records e.
          let s : State = after_all file (start memory) before in
          let h : At memory (place_from file outset before) s = at_place file outset (start memory) before (at_start memory) in (
            settle_book s.book s.memory records,
            ap (λ l. get_elem? (outcomes file (start memory) l) (length before)) e ∙ at_outcome file (start memory) before (settle records) rest,
            settlement_right records h.along,
          );
      untouched = λ before rest x e n.
          let s : State = after_all file (start memory) before in
          let k : Call = call_at file s.at x in
          let there = ap (λ l. get_elem? (outcomes file (start memory) l) (length before)) e ∙ at_outcome file (start memory) before x rest in
          let same : Same (after s k) s = not_taken s k (λ t. n (there ∙ ap some t)) in (
            ap (λ u. u.book) (after-step file (start memory) before x) ∙ same.0,
            ap (λ u. u.memory) (after-step file (start memory) before x) ∙ same.1,
          );
      entered_list = entered_list_lem file;
      whole_file = whole_file_lem file;
    }
