-- Inner, and for the examples: texts as the bytes that are printed, for the examples.
use Rattle.std.specs.Prelude.{List, [], ◌∷◌, ℕ}
use Prim.Native.Char.{code}
use Prim.Native.String.{String, [] as end, ◌∷◌ as ◌then◌}

-- the bytes of a text
unfoldable pub text : String → List ℕ
text end = []
text (c then s) = code c ∷ text s
