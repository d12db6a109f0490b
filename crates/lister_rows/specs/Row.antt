-- Inner, and proved equal to the rules: what appending to a row does.
use Rattle.std.specs.Prelude.{List, ◌++◌, ℕ, take}

-- a row with these bytes more, as far as there is room
unfoldable pub appended_to : List ℕ → List ℕ → List ℕ
appended_to row bs = take 128 (row ++ bs)
