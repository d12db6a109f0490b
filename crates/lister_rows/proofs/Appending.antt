-- Laws of a row and of appending: what it holds before and after it.
use mathlib.Core.Path.{◌≡◌, refl, sym, ap, ◌∙◌}
use mathlib.Core.List.{List, [], ◌∷◌, ◌++◌, append_assoc}
use Prim.Native.Nat.{ℕ, zero, suc, ◌+◌, ◌-◌, ◌≤◌, min}
use native.Mathlib.Omega.{arith}
use borrow.Rule.Slice.PartMut.{put_mid}
use lib.ListN.{length, take, drop, replicate, length-append}
use lib.Seq.{length-take-le, take-append-add}
use Rattle.std.proofs.lemmas.List.{length-take, take_all, take_min, drop-drop, drop-replicate}
use Rattle.std.proofs.lemmas.Slice.{take-put_mid, drop-put_mid}
use Rattle.lister_rows.specs.Row.{appended_to}
use Rattle.lister_rows.specs.Rows.{fields_of, line_feed, row, space}

-- what is put behind the bytes that count leaves zeros behind it
pub zeros_put : (bytes part : List ℕ) (at k n : ℕ) → length bytes ≡ 128 → at + n ≤ 128 → k ≡ n → length part ≡ n
    → drop at bytes ≡ replicate (128 - at) 0 → drop (at + n) (put_mid at k bytes part) ≡ replicate (128 - (at + n)) 0
zeros_put bytes part at k n size fits same long zeros =
    drop-put_mid at k bytes part (at + n) (omega (arith, same)) (omega (arith, size)) (long ∙ sym same)
    ∙ sym (drop-drop n at bytes) ∙ ap (drop n) zeros ∙ drop-replicate n (128 - at) 0 ∙ ap (λ m. replicate m 0) (omega arith)

-- ---- appending

-- the bytes that count, once as many as there is room for stand behind them
pub text_put : (bytes more part : List ℕ) (at k n : ℕ) → length bytes ≡ 128 → at ≤ 128 → n ≡ min (128 - at) (length more) → part ≡ take n more
    → take (at + n) (put_mid at k bytes part) ≡ appended_to (take at bytes) more
unfolding appended_to
text_put bytes more part at k n long h fits e =
    let put : length part ≡ n = ap length e ∙ length-take n more ∙ omega arith in
    let front : length (take at bytes) ≡ at = length-take-le at bytes (omega arith) in
    let whole : length (take at bytes) + (128 - at) ≡ 128 = omega arith in
    take-put_mid at k bytes part (at + n) (omega arith) (omega arith)
    ∙ ap (λ x. take at bytes ++ x) (e ∙ rw fits (take_min (128 - at) more))
    ∙ sym (rw whole at (take-append-add (take at bytes) more (128 - at)))

take_twice : (n : ℕ) (xs ys : List ℕ) → take n (take n xs ++ ys) ≡ take n (xs ++ ys)
take_twice zero xs ys = refl
take_twice (suc n) [] ys = refl
take_twice (suc n) (x ∷ xs) ys = ap (λ l. x ∷ l) (take_twice n xs ys)

-- bytes put in two parts
pub appended_twice : (r xs ys : List ℕ) → appended_to (appended_to r xs) ys ≡ appended_to r (xs ++ ys)
unfolding appended_to
appended_twice r xs ys = take_twice 128 (r ++ xs) ys ∙ ap (take 128) (append_assoc r xs ys)

-- ---- fields

-- a row with these fields more
abbrev pub put_fields : List ℕ → List (List ℕ) → List ℕ
put_fields r [] = r
put_fields r (f ∷ fs) = put_fields (appended_to r (space ∷ f)) fs

fields_on : (r : List ℕ) (fs : List (List ℕ)) → appended_to (put_fields r fs) (line_feed ∷ []) ≡ appended_to r (fields_of fs)
unfolding fields_of
fields_on r [] = refl
fields_on r (f ∷ fs) = fields_on (appended_to r (space ∷ f)) fs ∙ appended_twice r (space ∷ f) (fields_of fs)

-- the bytes of fields and of what stands around them
abbrev pub fields_length : List (List ℕ) → ℕ
fields_length [] = 1
fields_length (f ∷ fs) = suc (length f) + fields_length fs

fields_length_lem : (fs : List (List ℕ)) → length (fields_of fs) ≡ fields_length fs
unfolding fields_of
fields_length_lem [] = refl
fields_length_lem (f ∷ fs) = length-append (space ∷ f) (fields_of fs) ∙ ap (λ n. suc (length f) + n) (fields_length_lem fs)

-- a letter, its fields and a line feed are the row of that letter and these fields
pub row_put : {r : List ℕ} (letter : ℕ) (fs : List (List ℕ)) → suc (fields_length fs) ≤ 128
    → r ≡ appended_to (put_fields (appended_to [] (letter ∷ [])) fs) (line_feed ∷ []) → r ≡ row letter fs
unfolding row appended_to
row_put letter fs h e =
    e ∙ fields_on (appended_to [] (letter ∷ [])) fs ∙ appended_twice [] (letter ∷ []) (fields_of fs)
    ∙ take_all 128 (letter ∷ fields_of fs) (omega (arith, fields_length_lem fs))
