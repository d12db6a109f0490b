-- Laws of what is answered for a number: a refusal that a condition decides on, and what `?` leaves of it. Assumes nothing.
use mathlib.Core.Bool.{Bool, true, false, cond}
use mathlib.Core.Logic.{◌≢◌}
use mathlib.Core.Path.{◌≡◌, refl, sym, ap, ◌∙◌}
use native.Mathlib.Omega.{arith}
use borrow.Author.Tests.{ne_eqb}
use Prim.Native.Nat.{ℕ, zero, suc}
use Rattle.std.specs.Prelude.{Result, Ok, Err, is_ok, is_err}
use Rattle.std.specs.Result.{IsErrAnd}
use lib.Dec.{eqb}
use Rattle.commands.specs.Refusals.{number_of, outcome, refusal_of}
use Rattle.commands.specs.declared.refusal.Refusal.{Refusal}
use Rattle.commands.specs.declared.refusal.Refusal.TheVariants.{UnknownCommand, CutOff, OutOfRange, RampTooLong, BadWindow, NotReached, Closed, NoContract, SecondContract}
use Rattle.commands.specs.declared.refusal.Refusal.TheVariants.{ShortMemory, BeyondSpan, RejectedWindow, OverlappingWindow, CeasedEarly, IssuedEarly, OutsideWindows, SecondReading, FullTable}
use Rattle.commands.specs.declared.refusal.Refusal.TheVariants.{NotClosed, MissingReading, NoRoom, RevisionHeld, NoSuchDate, LateDate, OtherMonth}

-- what is answered, where nothing is handed back but that
abbrev pub Answered : Type 0
Answered = Result (Unit {0}) Refusal

-- a refusal under a condition that holds, and none under one that does not
pub refused_by : {b : Bool} {r e : Refusal} → ◌≡◌ {A = Answered} (Err e) (cond b (Err r) (Ok tt)) → (b ≡ true) × (e ≡ r)
refused_by {b = true} q = (refl, cc)
refused_by {b = false} q = cc

pub passed_by : {b : Bool} (r : Refusal) {u : Unit {0}} → ◌≡◌ {A = Answered} (Ok u) (cond b (Err r) (Ok tt)) → b ≡ false
passed_by {b = true} r q = cc
passed_by {b = false} r q = refl

-- of two numbers a condition decides
pub outcome-cond : (b : Bool) (n m : ℕ) → outcome (cond b n m) ≡ cond b (outcome n) (outcome m)
outcome-cond true n m = refl
outcome-cond false n m = refl

-- no number, no refusal
pub outcome_taken : (n : ℕ) → n ≡ 0 → ◌≡◌ {A = Answered} (Ok tt) (outcome n)
unfolding outcome
outcome_taken n e = rw e refl

pub outcome_none : {n : ℕ} {u : Unit {0}} → outcome n ≡ Ok u → n ≡ 0
unfolding outcome
outcome_none {n = zero} q = refl
outcome_none {n = suc n} q = cc

pub outcome_ok : (n : ℕ) → is_ok (outcome n) ≡ eqb n 0
unfolding outcome
outcome_ok zero = refl
outcome_ok (suc n) = sym (ne_eqb (suc n) 0 (λ q. omega arith))

-- what a test of an answer says of its number
pub outcome_err : (n : ℕ) {r : Answered} {b : Bool} → r ≡ outcome n → b ≡ is_err r → b ≡ true → n ≢ 0
unfolding outcome
outcome_err zero e f g = cc
outcome_err (suc n) e f g = λ q. omega arith

pub outcome_clear : (n : ℕ) {r : Answered} {b : Bool} → r ≡ outcome n → b ≡ is_err r → b ≡ false → n ≡ 0
unfolding outcome
outcome_clear zero e f g = refl
outcome_clear (suc n) e f g = cc

-- ---- a number for each refusal, and a refusal for each number

pub refusal_back : (r : Refusal) → refusal_of (number_of r) ≡ r
unfolding refusal_of
refusal_back UnknownCommand = refl
refusal_back CutOff = refl
refusal_back OutOfRange = refl
refusal_back RampTooLong = refl
refusal_back BadWindow = refl
refusal_back NotReached = refl
refusal_back Closed = refl
refusal_back NoContract = refl
refusal_back SecondContract = refl
refusal_back ShortMemory = refl
refusal_back BeyondSpan = refl
refusal_back RejectedWindow = refl
refusal_back OverlappingWindow = refl
refusal_back CeasedEarly = refl
refusal_back IssuedEarly = refl
refusal_back OutsideWindows = refl
refusal_back SecondReading = refl
refusal_back FullTable = refl
refusal_back NotClosed = refl
refusal_back MissingReading = refl
refusal_back NoRoom = refl
refusal_back RevisionHeld = refl
refusal_back NoSuchDate = refl
refusal_back LateDate = refl
refusal_back OtherMonth = refl

pub numbered_as : (r : Refusal) → outcome (number_of r) ≡ Err r
unfolding outcome refusal_of
numbered_as UnknownCommand = refl
numbered_as CutOff = refl
numbered_as OutOfRange = refl
numbered_as RampTooLong = refl
numbered_as BadWindow = refl
numbered_as NotReached = refl
numbered_as Closed = refl
numbered_as NoContract = refl
numbered_as SecondContract = refl
numbered_as ShortMemory = refl
numbered_as BeyondSpan = refl
numbered_as RejectedWindow = refl
numbered_as OverlappingWindow = refl
numbered_as CeasedEarly = refl
numbered_as IssuedEarly = refl
numbered_as OutsideWindows = refl
numbered_as SecondReading = refl
numbered_as FullTable = refl
numbered_as NotClosed = refl
numbered_as MissingReading = refl
numbered_as NoRoom = refl
numbered_as RevisionHeld = refl
numbered_as NoSuchDate = refl
numbered_as LateDate = refl
numbered_as OtherMonth = refl

-- what `?` hands on is the refusal that it met
pub handed_on : {r : Answered} (e : Refusal) {x : Answered} → IsErrAnd r (λ y. y ≡ e) → Err e ≡ x → r ≡ x
handed_on {r = Ok u} e f g = absurd f
handed_on {r = Err d} e f g = ap Err f ∙ g
