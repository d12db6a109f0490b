-- Inner, and proved equal to the rules: rows of a list, one after the other.
use Rattle.std.specs.Prelude.{List, [], ◌∷◌, ◌++◌, ℕ, suc}

-- the rows that f gives of elements and their numbers, which start at n
unfoldable pub rows_of : {T : Type 0} → (ℕ → T → List ℕ) → ℕ → List T → List ℕ
rows_of f n [] = []
rows_of f n (x ∷ xs) = f n x ++ rows_of f (suc n) xs
