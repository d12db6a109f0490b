-- Settling a book into numbers: the lines of its statement fit the memory lent for them. Where the sums have no room, no line memory is lent on: then no
-- line is written, and the number differs from that of settling into all lines only where it would be 26 or none, which are both answered 26.
use mathlib.Core.Path.{◌≡◌, refl}
use mathlib.Core.Bool.{Bool, true, false, not}
use mathlib.Core.List.{List, [], ◌∷◌, ◌++◌}
use mathlib.Core.Option.{Option, none, some}
use Prim.Native.Nat.{ℕ, ◌*◌, ◌/◌, ◌≤◌}
use native.Mathlib.Omega.{arith}
use lib.IntN.{ℤ}
use lib.ListN.{length, drop}
use Rattle.book_memory.specs.Meter.{Memory}
use Rattle.energy.specs.Lists.{concat_map}
use Rattle.rules.specs.Ledger.{Ledger}
use Rattle.commands.specs.Refusals.{refusal_of}
use Rattle.commands.specs.Input.{◌when◌, first_met}
use Rattle.rules.specs.Segment.{segments}
use Rattle.rules.specs.Statement.{lines, settle_conditions, settle_refusal, statement_of}
use Rattle.rules.specs.declared.statement.Line.{Line}
use Rattle.rules.proofs.LineBound.{lines-segments}
use Rattle.book.specs.Book.{ledger_in}
use Rattle.rules.specs.declared.statement.Statement.{Statement}
use Rattle.book.specs.Sound.{sound}
use Rattle.book.specs.declared.Book.{Book}
use Rattle.settle.specs.Settle.{refusal_for}
use Rattle.settle.proofs.Refusal.{open_for}
use Rattle.std.specs.Prelude.{Ok}
use Rattle.settle_numbers.specs.Numbers.{numbers_of, number_book, numbered_by}
use Rattle.host_settle.specs.SettleInto.{short_number}

-- a statement's lines fit the memory lent for them: else it gets 26
few_by : (o : Option ℕ) (g : Ledger) (memory : List ℤ) (room : ℕ) (s : Statement) → (o ≡ none → length (segments g) ≤ room)
    → Ok s ≡ (numbered_by o g memory).answer → s.lines ≤ room
unfolding statement_of
few_by none g memory room s h e = let same : s.lines ≡ length (lines g) = cc e in omega (arith, h refl, lines-segments g, same)
few_by (some n) g memory room s h e = cc

pub few_lines_lem : (b : Book) (meter : Memory) (memory : List ℤ) (s : Statement) → Ok s ≡ (number_book b meter memory).answer → s.lines ≤ length memory / 8
unfolding number_book
few_lines_lem b meter memory s = few_by (refusal_for b meter (length memory / 8)) (ledger_in b meter) memory (length memory / 8) s (λ e. (open_for e).few)

-- ---- no room for a line

empty : (ls : List Line) → length ls ≤ 0 → concat_map numbers_of ls ++ drop (8 * length ls) [] ≡ []
unfolding concat_map
empty [] h = refl
empty (l ∷ ls) h = absurd (omega arith)

nothing_by : (o : Option ℕ) (g : Ledger) → (o ≡ none → length (segments g) ≤ 0) → (numbered_by o g []).memory ≡ []
nothing_by none g h = empty (lines g) (omega (arith, h refl, lines-segments g))
nothing_by (some n) g h = refl

-- nothing is written where nothing is lent
pub nothing_written : (b : Book) (meter : Memory) → (number_book b meter []).memory ≡ []
unfolding number_book
nothing_written b meter = nothing_by (refusal_for b meter 0) (ledger_in b meter) (λ e. (open_for e).few)

number_by :
    (u m c k r q : Bool) (g : Ledger) (ys : List ℤ)
    → short_number (numbered_by (first_met ((11 when u) ∷ (15 when m) ∷ (24 when c) ∷ (25 when k) ∷ (26 when r) ∷ [])) g []).answer
    ≡ short_number (numbered_by (first_met ((11 when u) ∷ (15 when m) ∷ (24 when c) ∷ (25 when k) ∷ (26 when q) ∷ [])) g ys).answer
unfolding first_met refusal_of
number_by true m c k r q g ys = refl
number_by false true c k r q g ys = refl
number_by false false true k r q g ys = refl
number_by false false false true r q g ys = refl
number_by false false false false true true g ys = refl
number_by false false false false true false g ys = refl
number_by false false false false false true g ys = refl
number_by false false false false false false g ys = refl

-- without room for the sums the number does not depend on the room for lines
pub same_number : (b : Book) (meter : Memory) (memory : List ℤ)
    → short_number (number_book b meter []).answer ≡ short_number (number_book b meter memory).answer
unfolding number_book settle_refusal settle_conditions
same_number b meter memory = number_by (not (sound b)) _ _ _ _ _ (ledger_in b meter) memory
