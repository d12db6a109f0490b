-- `settle::prepare::check_book` meets its contract: each refusal is the first that applies (`Refusal`), and the survey is the rules' (`SurveyRules`).
-- Assumes nothing.
use Rattle.std.proofs.Common.{◌≡◌, ◌∙◌, ◌≤◌, refl, sym, ap, Bool, true, false, true≢false, not, ℕ, ◌<◌, ltb, length, arith}
use borrow.Author.Tests.{ltb-true, ltb-false}
use Rattle.book_memory.specs.Lent.{held}
use Rattle.book_memory.specs.Meter.{Memory, room_in}
use Rattle.book_memory.proofs.Lengths.{room_cells}
use Rattle.energy.specs.Number.{down}
use Rattle.energy.proofs.Tests.{off_not, of_T}
use Rattle.commands.proofs.Outcomes.{passed_by}
use Rattle.rules.specs.Segment.{complete, segments}
use Rattle.book.specs.Book.{book_cells, ledger_in}
use Rattle.book.specs.Sound.{Shaped, sound}
use Rattle.book.specs.declared.Book.{Book}
use Rattle.settle_survey.specs.declared.Survey.{Survey}
use Rattle.settle_terms.specs.declared.Terms.{Terms}
use Rattle.settle_terms.specs.Terms.{terms_of}
use Rattle.settle_survey.specs.Survey.{survey_to}
use Rattle.settle.specs.Prepared.{calls_of}
use Rattle.settle.proofs.SurveyRules.{survey_complete, survey_count}
use Rattle.settle.proofs.BookPlan.{Grounds, grounds, surveyed}
use Rattle.settle.proofs.Refusal.{met, is_11, is_15, is_24, is_25, is_26, is_taken}
use Rattle.commands.specs.declared.refusal.Refusal.TheVariants.{NotReached, ShortMemory, NotClosed, MissingReading, NoRoom}
use Rattle.settle.proofs.prepare.check_book.Goals as goal

-- a test that holds and one that fails, of what is equal to it
on : {s t : Bool} → s ≡ t → not s ≡ false → t ≡ true
on {s} e n = sym e ∙ of_T s (off_not s n)

off : {s t : Bool} → s ≡ t → not s ≡ true → t ≡ false
off {s = true} e n = absurd (true≢false (sym n))
off {s = false} e n = sym e

less : {m n r c : ℕ} → m ≡ r → n ≡ c → ltb m n ≡ true → r < c
less {m} {n} e f t = omega (arith, e, f, ltb-true m n t)

enough : {m n r c : ℕ} → m ≡ r → n ≡ c → ltb m n ≡ false → c ≤ r
enough {m} {n} e f t = omega (arith, e, f, ltb-false m n t)

-- what stands where the book is asked for its lines
record Standing (b : Book) (m : Memory) : Type 0 where
  S : sound b ≡ true
  R : book_cells b ≤ room_in m
  C : b.closed ≡ true
  G : Grounds b m

standing : {b : Book} {m : Memory} {s : Bool} → (s ≡ sound b) × Shaped b → not s ≡ false → book_cells b ≤ room_in m → not b.closed ≡ false → Standing b m
standing {b} {m} h s r c =
    let S = on h.0 s in
    let C = of_T b.closed (off_not b.closed c) in
    record { S = S; R = r; C = C; G = grounds b m S C h.1 (omega (arith, r, room_cells m)) }

-- the survey is the rules'
told : {b : Book} {meter : Memory} {t : Terms} {s : Survey} → Grounds b meter → t ≡ terms_of b.contract
    → s ≡ survey_to t (calls_of b) meter.cells (length (calls_of b))
    → (s.complete ≡ complete (ledger_in b meter)) × (s.count ≡ length (segments (ledger_in b meter)))
told {s = s} G et es =
    let e = rw et at es in
    let r = surveyed G in
    (ap (λ (z : Survey). z.complete) e ∙ survey_complete r, ap (λ (z : Survey). z.count) e ∙ survey_count r)

pub returns-in_err-refuse_if : goal.returns-in_err-refuse_if
returns-in_err-refuse_if c =
    let a = c.args in
    met _ NotReached _ c.from_residual.ensures.1 (c.in_err-refuse_if.ensures {u = tt})
    (λ t. is_11 a.b.now (held a.memory) a.room (off c.requires.0 t))

pub returns-in_err-refuse_if-2 : goal.returns-in_err-refuse_if-2
returns-in_err-refuse_if-2 c =
    let a = c.args in
    let S = on c.requires.0 (passed_by NotReached (c.in_ok-refuse_if.ensures {u = tt})) in
    met _ ShortMemory _ c.from_residual-in_err-refuse_if-2.ensures.1 (c.in_err-refuse_if-2.ensures {u = tt})
    (λ t. is_15 a.b.now (held a.memory) a.room S (less c.room-minutes.ensures c.cells.ensures t))

pub returns-in_err-refuse_if-3 : goal.returns-in_err-refuse_if-3
returns-in_err-refuse_if-3 c =
    let a = c.args in
    let S = on c.requires.0 (passed_by NotReached (c.in_ok-refuse_if.ensures {u = tt})) in
    let R = enough c.room-minutes.ensures c.cells.ensures (passed_by ShortMemory (c.in_ok-refuse_if-2.ensures {u = tt})) in
    met _ NotClosed _ c.from_residual-in_err-refuse_if-3.ensures.1 (c.in_err-refuse_if-3.ensures {u = tt})
    (λ t. is_24 a.b.now (held a.memory) a.room S R (off refl t))

pub shared_ref_as_front-instructions : goal.shared_ref_as_front-instructions
shared_ref_as_front-instructions c =
    let s =
    standing {m = held c.args.memory} c.requires (passed_by NotReached (c.in_ok-refuse_if.ensures {u = tt}))
    (enough c.room-minutes.ensures c.cells.ensures (passed_by ShortMemory (c.in_ok-refuse_if-2.ensures {u = tt})))
    (passed_by NotClosed (c.in_ok-refuse_if-3.ensures {u = tt})) in
    s.G.sound.counts.1

pub terms_of-requires : goal.terms_of-requires
terms_of-requires c =
    let s =
    standing {m = held c.args.memory} c.requires (passed_by NotReached (c.in_ok-refuse_if.ensures {u = tt}))
    (enough c.room-minutes.ensures c.cells.ensures (passed_by ShortMemory (c.in_ok-refuse_if-2.ensures {u = tt})))
    (passed_by NotClosed (c.in_ok-refuse_if-3.ensures {u = tt})) in
    let k = s.G.sound.contract in
    ((k.kw.1, ap down k.plain), omega (arith, k.ramp_start, k.response), k.fall)

pub survey_all-s-requires : goal.survey_all-s-requires
survey_all-s-requires c =
    let s =
    standing {m = held c.args.memory} c.requires (passed_by NotReached (c.in_ok-refuse_if.ensures {u = tt}))
    (enough c.room-minutes.ensures c.cells.ensures (passed_by ShortMemory (c.in_ok-refuse_if-2.ensures {u = tt})))
    (passed_by NotClosed (c.in_ok-refuse_if-3.ensures {u = tt})) in
    rw c.terms_of.ensures (surveyed s.G).laid

pub returns-in_err-refuse_if-4 : goal.returns-in_err-refuse_if-4
returns-in_err-refuse_if-4 c =
    let a = c.args in
    let s =
    standing {m = held c.args.memory} c.requires (passed_by NotReached (c.in_ok-refuse_if.ensures {u = tt}))
    (enough c.room-minutes.ensures c.cells.ensures (passed_by ShortMemory (c.in_ok-refuse_if-2.ensures {u = tt})))
    (passed_by NotClosed (c.in_ok-refuse_if-3.ensures {u = tt})) in
    let t = told s.G c.terms_of.ensures c.survey_all-s.ensures in
    met _ MissingReading _ c.from_residual-in_err-refuse_if-4.ensures.1 (c.in_err-refuse_if-4.ensures {u = tt})
    (λ h. is_25 a.b.now (held a.memory) a.room s.S s.R s.C (off t.0 h))

pub returns-in_err-refuse_if-5 : goal.returns-in_err-refuse_if-5
returns-in_err-refuse_if-5 c =
    let a = c.args in
    let s =
    standing {m = held c.args.memory} c.requires (passed_by NotReached (c.in_ok-refuse_if.ensures {u = tt}))
    (enough c.room-minutes.ensures c.cells.ensures (passed_by ShortMemory (c.in_ok-refuse_if-2.ensures {u = tt})))
    (passed_by NotClosed (c.in_ok-refuse_if-3.ensures {u = tt})) in
    let t = told s.G c.terms_of.ensures c.survey_all-s.ensures in
    let K = on t.0 (passed_by MissingReading (c.in_ok-refuse_if-4.ensures {u = tt})) in
    met _ NoRoom _ c.from_residual-in_err-refuse_if-5.ensures.1 (c.in_err-refuse_if-5.ensures {u = tt})
    (λ h. is_26 a.b.now (held a.memory) a.room s.S s.R s.C K (less refl t.1 h))

pub returns : goal.returns
returns c =
    let a = c.args in
    let s =
    standing {m = held c.args.memory} c.requires (passed_by NotReached (c.in_ok-refuse_if.ensures {u = tt}))
    (enough c.room-minutes.ensures c.cells.ensures (passed_by ShortMemory (c.in_ok-refuse_if-2.ensures {u = tt})))
    (passed_by NotClosed (c.in_ok-refuse_if-3.ensures {u = tt})) in
    let t = told s.G c.terms_of.ensures c.survey_all-s.ensures in
    let K = on t.0 (passed_by MissingReading (c.in_ok-refuse_if-4.ensures {u = tt})) in
    let few = enough refl t.1 (passed_by NoRoom (c.in_ok-refuse_if-5.ensures {u = tt})) in
    record { taken = is_taken a.b.now (held a.memory) a.room s.S s.R s.C K few; lines = t.1; few = omega (arith, t.1, few); calls = s.G.sound.counts.1 }
