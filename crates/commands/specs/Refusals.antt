-- "When a command or call is turned down": the refusals and their numbers.
use Rattle.std.specs.Prelude.{cond, List, [], ◌∷◌, ℕ, zero, suc, ◌-◌, ltb, get_or, Result, Ok, Err}
use Rattle.commands.specs.declared.refusal.Refusal.{Refusal}
use Rattle.commands.specs.declared.refusal.Refusal.TheVariants.{UnknownCommand, CutOff, OutOfRange, RampTooLong, BadWindow, NotReached, Closed, NoContract, SecondContract}
use Rattle.commands.specs.declared.refusal.Refusal.TheVariants.{ShortMemory, BeyondSpan, RejectedWindow, OverlappingWindow, CeasedEarly, IssuedEarly, OutsideWindows}
use Rattle.commands.specs.declared.refusal.Refusal.TheVariants.{SecondReading, FullTable, NotClosed, MissingReading, NoRoom, RevisionHeld, NoSuchDate, LateDate, OtherMonth}

-- the number of a refusal
abbrev pub number_of : Refusal → ℕ
number_of UnknownCommand = 1
number_of CutOff = 2
number_of OutOfRange = 3
number_of RampTooLong = 4
number_of BadWindow = 5
number_of NotReached = 11
number_of Closed = 12
number_of NoContract = 13
number_of SecondContract = 14
number_of ShortMemory = 15
number_of BeyondSpan = 16
number_of RejectedWindow = 17
number_of OverlappingWindow = 18
number_of CeasedEarly = 19
number_of IssuedEarly = 20
number_of OutsideWindows = 21
number_of SecondReading = 22
number_of FullTable = 23
number_of NotClosed = 24
number_of MissingReading = 25
number_of NoRoom = 26
number_of RevisionHeld = 27
number_of NoSuchDate = 28
number_of LateDate = 29
number_of OtherMonth = 30

-- the refusals from number 1 to 5, and those from 11 on
abbrev pub first_refusals : List Refusal
first_refusals = UnknownCommand ∷ CutOff ∷ OutOfRange ∷ RampTooLong ∷ BadWindow ∷ []

abbrev pub later_refusals : List Refusal
later_refusals =
    NotReached ∷ Closed ∷ NoContract ∷ SecondContract ∷ ShortMemory ∷ BeyondSpan ∷ RejectedWindow ∷ OverlappingWindow ∷ CeasedEarly ∷ IssuedEarly
    ∷ OutsideWindows ∷ SecondReading ∷ FullTable ∷ NotClosed ∷ MissingReading ∷ NoRoom ∷ RevisionHeld ∷ NoSuchDate ∷ LateDate ∷ OtherMonth ∷ []

-- the refusal with a number; a number that none has gives one all the same
unfoldable pub refusal_of : ℕ → Refusal
refusal_of n = cond (ltb n 11) (get_or first_refusals (n - 1) OutOfRange) (get_or later_refusals (n - 11) OutOfRange)

-- what is answered for a number, where 0 stands for none
unfoldable pub outcome : ℕ → Result (Unit {0}) Refusal
outcome zero = Ok tt
outcome (suc n) = Err (refusal_of (suc n))
