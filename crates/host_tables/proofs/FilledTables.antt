-- Tables that are filled from the front: the entries of the first rows, and behind them, in the places that are not filled yet, that of no numbers.
-- Each store fills the next place; where the numbers end before every place behind, a table filled up to there is whole.
use mathlib.Core.Path.{◌≡◌, refl, sym, ◌∙◌, ap}
use mathlib.Core.List.{List, [], ◌∷◌, ◌++◌, map, append-nil}
use Prim.Native.Nat.{ℕ, zero, suc, ◌+◌, ◌-◌, ◌*◌, ◌/◌, ◌≤◌, ◌<◌}
use native.Mathlib.Nat.{sub-zero, mul_comm, le_of_lt, div-lt_iff_lt-mul}
use native.Mathlib.Omega.{arith}
use lib.ListN.{length, drop, set, replicate, drop_of_length-le}
use lib.Seq.{append_snoc, set_at}
use Rattle.energy.specs.Lists.{run, between}
use Rattle.rules.proofs.Folds.{length-first, first-snoc}
use Rattle.host_tables.specs.Tables.{entry_at, entries_of}

-- the first i places hold the entries of the first i rows, and places after them that of no numbers
pub record Rows {A : Type 0} (entry : List ℕ → A) (numbers : ℕ) (table : List ℕ) (places i : ℕ) (r : List A) : Type 0 where
  pub filled : r ≡ map (entry_at entry numbers table) (between 0 i) ++ replicate (places - i) (entry [])

-- a row after that which the numbers end in has none
pub past_end : (size numbers j : ℕ) → 0 < numbers → size / numbers < j → size ≤ numbers * j
past_end size numbers j h l = le_of_lt (rw (mul_comm numbers j) ((div-lt_iff_lt-mul {k = numbers} {x = size} {y = j} h).0 l))

module _ {A : Type 0} {entry : List ℕ → A} {numbers : ℕ} {table : List ℕ} {places : ℕ} where
  pub rows_none : Rows entry numbers table places 0 (replicate places (entry []))
  unfolding between run
  rows_none = record { filled = rw sub-zero refl }

  -- one row more
  pub rows_next : {i : ℕ} {r : List A} {v : A} → i < places → v ≡ entry_at entry numbers table i → Rows entry numbers table places i r
      → Rows entry numbers table places (i + 1) (set r i v)
  rows_next {i} {r} {v} h e t =
      let f : ℕ → A = entry_at entry numbers table in
      let left : places - i ≡ suc (places - (i + 1)) = omega arith in
      record {
        filled =
            rw (t.filled, left, e, first-snoc f i)
            (set_at (map f (between 0 i)) (entry []) (replicate (places - (i + 1)) (entry [])) (f i) i (length-first f i)
            ∙ sym (append_snoc (map f (between 0 i)) (f i) (replicate (places - (i + 1)) (entry []))));
      }

  -- all rows, where the numbers end before every place after them
  pub rows_all : {i : ℕ} {r : List A} → i ≤ places → ((j : ℕ) → i ≤ j → j < places → length table ≤ numbers * j) → Rows entry numbers table places i r
      → r ≡ entries_of entry numbers places table
  unfolding entries_of
  rows_all {i} h past t = t.filled ∙ on (places - i) i (omega arith) past
    where
      f : ℕ → A
      f = entry_at entry numbers table

      on : (k i : ℕ) → i + k ≡ places → ((j : ℕ) → i ≤ j → j < places → length table ≤ numbers * j)
          → map f (between 0 i) ++ replicate k (entry []) ≡ map f (between 0 places)
      on zero i e past = let same : i ≡ places = omega arith in rw same (append-nil _)
      on (suc k) i e past =
          let next : entry [] ≡ f i = sym (ap entry (drop_of_length-le table (past i (omega arith) (omega arith)))) in
          sym (append_snoc (map f (between 0 i)) (entry []) (replicate k (entry [])))
          ∙ ap (λ l. l ++ replicate k (entry [])) (ap (λ x. map f (between 0 i) ++ (x ∷ [])) next ∙ sym (first-snoc f i))
          ∙ on k (i + 1) (omega arith) (λ j h l. past j (omega arith) l)
