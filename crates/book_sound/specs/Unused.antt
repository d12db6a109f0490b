-- Inner, and proved equal to the rules: the tests for zeros: unused entries of the tables, and no contract.
use Rattle.std.specs.Prelude.{Bool, false, ◌&&◌, List, [], ◌∷◌, ℤ, pos, negsuc, eqb}
use Rattle.commands.specs.declared.contract.Contract.{Contract}
use Rattle.commands.specs.declared.entries.Window.{Window}
use Rattle.commands.specs.declared.entries.Instruction.{Instruction}
use Rattle.commands.specs.declared.entries.Default.{Default}

-- an unused entry of windows
abbrev pub is_no_window : Window → Bool
is_no_window w = eqb w.start.0 0 && eqb w.end.0 0 && eqb w.verdict 0

-- an unused entry of instructions
abbrev pub is_no_instruction : Instruction → Bool
is_no_instruction i = eqb i.issue.0 0 && eqb i.cease.0 0

-- an unused entry of defaults
abbrev pub is_no_default : Default → Bool
is_no_default d = eqb d.minute.0 0 && eqb d.kind 0 && eqb d.reach 0

-- a signed number is 0
abbrev pub is_zero : ℤ → Bool
is_zero (pos n) = eqb n 0
is_zero (negsuc n) = false

-- no contract: zeros
unfoldable pub no_contract_tests : Contract → List Bool
no_contract_tests k =
    eqb k.days 0
    ∷ eqb k.kind 0
    ∷ eqb k.service 0
    ∷ is_zero k.contracted.0
    ∷ eqb k.rampup 0
    ∷ eqb k.rampdown 0
    ∷ eqb k.response.0 0
    ∷ eqb k.recovery.0 0
    ∷ eqb k.availability 0
    ∷ eqb k.utilisation 0
    ∷ eqb k.optional 0
    ∷ []
