-- Inner, and proved equal to the rules: operands as numbers in eleven places, and what a decoder and an encoder ask of widths and numbers.
use Rattle.std.specs.Prelude.{List, [], ◌∷◌, ◌++◌, ℕ, ◌+◌, ◌-◌, ◌^◌, ◌≤◌, ◌<◌, length, get_or, replicate}

-- numbers in eleven places, zeros after them
unfoldable pub padded : List ℕ → List ℕ
padded xs = xs ++ replicate (11 - length xs) 0

-- at most eleven operands, none of them wider than four bytes
pub record Narrow (widths : List ℕ) : Type 0 where
  pub few : length widths ≤ 11
  pub narrow : (k : ℕ) → get_or widths k 0 ≤ 4

-- each number from a place on fits its width
abbrev pub sized_from : ℕ → List ℕ → List ℕ → Type 0
sized_from k [] v = Unit {0}
sized_from k (w ∷ ws) v = (get_or v k 0 < 256 ^ w) × sized_from (k + 1) ws v

-- each number fits its width
abbrev pub Sized : List ℕ → List ℕ → Type 0
Sized widths v = sized_from 0 widths v
