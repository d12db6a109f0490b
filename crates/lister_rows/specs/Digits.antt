-- Proved of the rules: "The lister": a number's digits are its decimal numeral.
use Rattle.std.specs.Prelude.{◌≡◌, Bool, true, false, not, ◌&&◌, List, [], ◌∷◌, ℕ, ◌+◌, ◌-◌, ◌*◌, T, eqb, leb}
use Prim.Native.Char.{code}
use Rattle.energy.specs.Lists.{all}
use Rattle.lister_rows.specs.Rows.{digits}

-- a byte is one of `0` to `9`
abbrev pub is_digit : ℕ → Bool
is_digit b = leb (code "0") b && leb b (code "9")

-- there is a first byte, and it is `0` only where it is the only one
unfoldable pub no_leading_zero : List ℕ → Bool
no_leading_zero [] = false
no_leading_zero (b ∷ []) = true
no_leading_zero (b ∷ c ∷ bs) = not (eqb b (code "0"))

-- what digits say after digits that said n
unfoldable pub digits_after : ℕ → List ℕ → ℕ
digits_after n [] = n
digits_after n (b ∷ bs) = digits_after (10 * n + (b - code "0")) bs

-- these bytes are the decimal numeral of n
pub record Numeral (n : ℕ) (bs : List ℕ) : Type 0 where
  pub reads : digits_after 0 bs ≡ n
  pub decimal : T (all is_digit bs)
  pub shortest : T (no_leading_zero bs)

-- the digits of every number are its numeral
unfoldable pub Digits·theorem : Type 0
Digits·theorem = (n : ℕ) → Numeral n (digits n)
