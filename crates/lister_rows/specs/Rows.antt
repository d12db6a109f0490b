-- "The lister": its rows as bytes. Fields stand one space apart, and a line feed ends each row.
use Rattle.std.specs.Prelude.{true, false, List, [], ◌∷◌, ◌++◌, ℕ, zero, suc, ◌+◌, ◌/◌, ◌%◌, ltb, ℤ, pos, negsuc, take}
use Prim.Native.Char.{code}
use Rattle.energy.specs.Lists.{concat_map}
use Rattle.rules.specs.declared.statement.Stage.{Stage}
use Rattle.rules.specs.declared.statement.Stage.TheVariants.{Up, Steady, Down}
use Rattle.rules.specs.declared.statement.Rate.{Rate}
use Rattle.rules.specs.declared.statement.Rate.TheVariants.{Utilisation, Optional}
use Rattle.rules.specs.declared.statement.Line.{Line}
use Rattle.rules.specs.declared.statement.Available.{Available}
use Rattle.rules.specs.declared.statement.Statement.{Statement}

-- ---- numbers

-- a digit as a byte
abbrev pub digit : ℕ → ℕ
digit d = code "0" + d

-- the decimal digits of n, the most significant first, if there are at most k
unfoldable pub digits_in : ℕ → ℕ → List ℕ
digits_in zero n = []
digits_in (suc k) n = elim (ltb n 10) [ true ↦ digit n ∷ [] | false ↦ digits_in k (n / 10) ++ (digit (n % 10) ∷ []) ]

-- the decimal digits of n: there are at most n + 1
unfoldable pub digits : ℕ → List ℕ
digits n = digits_in (suc n) n

-- a minus sign goes before a negative number
unfoldable pub signed_digits : ℤ → List ℕ
signed_digits (pos n) = digits n
signed_digits (negsuc n) = code "-" ∷ digits (suc n)

-- ---- rows

-- what stands between fields
abbrev pub space : ℕ
space = code " "

-- what ends a row
abbrev pub line_feed : ℕ
line_feed = code "\n"

-- the fields after a row's letter, a space before each, and a line feed
unfoldable pub fields_of : List (List ℕ) → List ℕ
fields_of [] = line_feed ∷ []
fields_of (f ∷ fs) = (space ∷ f) ++ fields_of fs

-- a row: its letter and its fields
unfoldable pub row : ℕ → List (List ℕ) → List ℕ
row letter fs = letter ∷ fields_of fs

-- a stage's letter
abbrev pub stage_letter : Stage → ℕ
stage_letter Up = code "U"
stage_letter Steady = code "S"
stage_letter Down = code "D"

-- a rate's letter
abbrev pub rate_letter : Rate → ℕ
rate_letter Utilisation = code "C"
rate_letter Optional = code "O"

-- an L row: instruction, period, stage, rate, expected, delivered and capped kWh, pence
unfoldable pub line_row : Line → List ℕ
line_row l =
    row (code "L")
    (digits l.instruction
    ∷ digits l.period
    ∷ (stage_letter l.stage ∷ [])
    ∷ (rate_letter l.rate ∷ [])
    ∷ signed_digits l.expected.0
    ∷ signed_digits l.delivered.0
    ∷ signed_digits l.capped.0
    ∷ signed_digits l.pence.0
    ∷ [])

-- the A row of window n: its number, paid periods, pence
unfoldable pub window_row : ℕ → Available → List ℕ
window_row n a = row (code "A") (digits n ∷ digits a.periods ∷ signed_digits a.pence.0 ∷ [])

-- the T row: capped kWh, utilisation pence, availability pence, all pence
unfoldable pub totals_row : Statement → List ℕ
totals_row s =
    row (code "T")
    (signed_digits s.capped.0
    ∷ signed_digits s.utilisation.0
    ∷ signed_digits s.availability.0
    ∷ signed_digits s.total.0
    ∷ [])

-- the R row of a refusal: its number, and the offset of the command or the file's length
unfoldable pub refusal_row : ℕ → ℕ → List ℕ
refusal_row number offset = row (code "R") (digits number ∷ digits offset ∷ [])

-- ---- a listing

-- the A rows of windows whose numbers start at n
unfoldable pub window_rows : ℕ → List Available → List ℕ
window_rows n [] = []
window_rows n (a ∷ rest) = window_row n a ++ window_rows (suc n) rest

-- the listing of a statement with its lines, where so many windows were entered: all L rows, an A row for each window, the T row
unfoldable pub listing : Statement → List Line → ℕ → List ℕ
listing s lines windows = concat_map line_row lines ++ window_rows 1 (take windows s.windows) ++ totals_row s
