-- Laws of rows laid one after the other.
use mathlib.Core.Path.{◌≡◌, refl, ap, ◌∙◌}
use mathlib.Core.List.{List, [], ◌∷◌, ◌++◌, append-nil, append_assoc}
use Prim.Native.Nat.{ℕ, suc, ◌+◌, ◌-◌, ◌<◌, min}
use native.Mathlib.Nat.{add-zero}
use native.Mathlib.Numerals.{add-one}
use native.Mathlib.Omega.{arith}
use borrow.Rule.Slice.PartMut.{put_mid}
use lib.ListN.{length, get_or, take}
use lib.Seq.{length-take-le, take-suc}
use Rattle.std.proofs.lemmas.List.{take_min}
use Rattle.energy.specs.Lists.{concat_map, Laid}
use Rattle.energy.proofs.Puts.{put_part}
use Rattle.rules.specs.declared.statement.Line.{Line}
use Rattle.rules.specs.declared.statement.Available.{Available}
use Rattle.lister_rows.specs.Rows.{line_row, window_row, window_rows}
use Rattle.lister_page.specs.Page.{rows_of}

-- a row copied into its part of memory
pub laid_part : (row m bytes part : List ℕ) (at : ℕ) → bytes ≡ row → part ≡ bytes
    → Laid row m at (put_mid at (at + length bytes - at) m part) (at + length bytes)
laid_part row m bytes part at e copied =
    let size : length part ≡ at + length bytes - at = ap length copied ∙ omega arith in
    record { ends = rw e; holds = rw (put_part part m at (at + length bytes - at) size, copied, e) }

-- a count held to a list's length takes the same
pub take_most : {A : Type 0} (r n : ℕ) {most : ℕ} (xs : List A) → length xs ≡ most → r ≡ min n most → take r xs ≡ take n xs
take_most r n xs long e = rw (e, ← long) (take_min n xs)

-- ---- which rows they are

pub lines_are : (n : ℕ) (lines : List Line) → rows_of (λ i l. line_row l) n lines ≡ concat_map line_row lines
unfolding rows_of concat_map
lines_are n [] = refl
lines_are n (l ∷ ls) = ap (λ x. line_row l ++ x) (lines_are (suc n) ls)

pub windows_are : (n : ℕ) (windows : List Available) → rows_of window_row n windows ≡ window_rows n windows
unfolding rows_of window_rows
windows_are n [] = refl
windows_are n (a ∷ rest) = ap (λ x. window_row n a ++ x) (windows_are (suc n) rest)

module _ {T : Type 0} (f : ℕ → T → List ℕ) where
  rows-append : (n : ℕ) (xs : List T) (x : T) → rows_of f n (xs ++ (x ∷ [])) ≡ rows_of f n xs ++ f (n + length xs) x
  unfolding rows_of
  rows-append n [] x = rw (add-zero n) (append-nil (f n x))
  rows-append n (y ∷ ys) x =
      let next : suc n + length ys ≡ n + suc (length ys) = omega arith in
      rw (rows-append (suc n) ys x, next, append_assoc)

  -- one more
  pub rows_more : (xs : List T) (i : ℕ) (x : T) → i < length xs → x ≡ get_or xs i x → rows_of f 1 (take (i + 1) xs) ≡ rows_of f 1 (take i xs) ++ f (i + 1) x
  rows_more xs i x h e =
      let count : 1 + length (take i xs) ≡ i + 1 = omega (arith, length-take-le i xs (omega arith)) in
      ap (rows_of f 1) (rw (add-one i, take-suc xs i x h, ← e)) ∙ rows-append 1 (take i xs) x ∙ ap (λ n. rows_of f 1 (take i xs) ++ f n x) count
