-- Inner, and for hosts: what a call answers, as one number.
use Rattle.std.specs.Prelude.{ℕ, ◌+◌, ◌*◌, min, Result, Ok, Err}
use Rattle.commands.specs.declared.refusal.Refusal.{Refusal}
use Rattle.commands.specs.Refusals.{number_of as number_of_refusal}

-- the number of an answer, with whatever it hands back: 0 for taken
abbrev pub number_of : {A : Type 0} → Result A Refusal → ℕ
number_of (Ok x) = 0
number_of (Err r) = number_of_refusal r

-- a number, and 256 times an offset. An offset of 2^56 or more, which no memory reaches, stands as 2^56 − 1
unfoldable pub packed : ℕ → ℕ → ℕ
packed number offset = number + 256 * min offset 72057594037927935
