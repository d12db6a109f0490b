-- Laws of rows: the code's table, searched for a command byte, says what the rules' table says.
use mathlib.Core.Path.{◌≡◌, refl, sym, subst}
use mathlib.Core.Bool.{Bool, true, false, ◌&&◌, cond}
use mathlib.Core.List.{List, [], ◌∷◌, map}
use mathlib.Core.Option.{none, some}
use Prim.Native.Nat.{ℕ, zero, suc, ◌+◌, ◌≤◌}
use lib.Dec.{T, eqb, leb, leb→le, lit≤}
use lib.ListN.{length, get_or}
use Rattle.energy.specs.Lists.{all, else}
use Rattle.energy.proofs.Tests.{T_and}
use Rattle.std.proofs.Common.{Option, None, Some, MatchOption, inl, inr}
use Rattle.std.proofs.lemmas.Bool.Decides.{eqb_tells}
use Rattle.std.specs.List.{find}
use Rattle.rules.specs.File.{Layout, table, widths_of, total}
use Rattle.file_table.specs.Table.{RowOf}
use Rattle.file_table.specs.Operands.{Narrow}
use Rattle.file_table.specs.declared.table.Row.{Row}

-- a row of the code as a row of the rules
abbrev pub layout : Row → Layout
layout r = record { byte = r.byte; widths = r.widths.now }

-- the length that it says, and the one that it has
abbrev pub said : Row → ℕ
said r = r.length

abbrev pub whole : Row → ℕ
whole r = 1 + total r.widths.now

-- ---- a search row by row

-- a row with the byte, its widths and its length
record Found (b : ℕ) (layouts : List Layout) (row : Row) : Type 0 where
  pub same : row.byte ≡ b
  pub widths : widths_of b layouts ≡ some row.widths.now
  pub length : said row ≡ whole row

abbrev Finds : ℕ → List Layout → Option Row → Type 0
Finds b layouts o = MatchOption o (widths_of b layouts ≡ none) (λ row. Found b layouts row)

searched : (b : ℕ) (rows : List Row) → map said rows ≡ map whole rows → Finds b (map layout rows) (find (λ r. eqb r.byte b) rows)
unfolding widths_of
searched b [] h = refl
searched b (r ∷ rows) h = elim (eqb_tells r.byte b) [ inl e ↦ here e.0 e.1 | inr e ↦ later e.0 (searched b rows cc) ]
  where
    here : eqb r.byte b ≡ true → r.byte ≡ b → Finds b (layout r ∷ map layout rows) (cond (eqb r.byte b) (Some r) (find (λ r. eqb r.byte b) rows))
    here t e = rw t (record { same = e; widths = rw t refl; length = cc })

    next : eqb r.byte b ≡ false → (o : Option Row) → Finds b (map layout rows) o → Finds b (layout r ∷ map layout rows) o
    next f None g = rw f g
    next f (Some row) g = record { same = g.same; widths = rw f g.widths; length = g.length }

    later : eqb r.byte b ≡ false → Finds b (map layout rows) (find (λ r. eqb r.byte b) rows)
        → Finds b (layout r ∷ map layout rows) (cond (eqb r.byte b) (Some r) (find (λ r. eqb r.byte b) rows))
    later f g =
        let e : cond (eqb r.byte b) (Some r) (find (λ r. eqb r.byte b) rows) ≡ find (λ r. eqb r.byte b) rows = rw f refl in
        subst (λ o. Finds b (layout r ∷ map layout rows) o) (sym e) (next f _ g)

-- the code's table says what the rules' table says, row by row
pub row_found : (b : ℕ) (rows : List Row) (o : Option Row) → map layout rows ≡ table → map said rows ≡ map whole rows → o ≡ find (λ r. eqb r.byte b) rows
    → MatchOption o (widths_of b table ≡ none) (λ row. RowOf b row)
row_found b rows o t l e = go o (rw (← e, t) at (searched b rows l))
  where
    go : (o : Option Row) → Finds b table o → MatchOption o (widths_of b table ≡ none) (λ row. RowOf b row)
    go None g = g
    go (Some row) g = record { same = g.same; widths = g.widths; length = g.length }

-- ---- operands are few and narrow: a test of the whole table

-- a test that passes for the widths of every row passes for those of every byte
widths_pass : (f : List ℕ → Bool) (b : ℕ) (rs : List Layout) → T (f []) → T (all (λ r. f r.widths) rs) → T (f (else (widths_of b rs) []))
unfolding else all widths_of
widths_pass f b [] s t = s
widths_pass f b (r ∷ rs) s t =
    let both = T_and (f r.widths) (all (λ r. f r.widths) rs) t in
    go (eqb r.byte b) both.0 (widths_pass f b rs s both.1)
  where
    go : (x : Bool) → T (f r.widths) → T (f (else (widths_of b rs) [])) → T (f (else (cond x (some r.widths) (widths_of b rs)) []))
    go true t u = t
    go false t u = u

narrow_at : (ws : List ℕ) (k : ℕ) → T (all (λ w. leb w 4) ws) → get_or ws k 0 ≤ 4
unfolding all
narrow_at [] k t = lit≤ tt
narrow_at (w ∷ ws) zero t = leb→le w 4 (T_and (leb w 4) (all (λ w. leb w 4) ws) t).0
narrow_at (w ∷ ws) (suc k) t = narrow_at ws k (T_and (leb w 4) (all (λ w. leb w 4) ws) t).1

narrow_test : List ℕ → Bool
narrow_test ws = leb (length ws) 11 && all (λ w. leb w 4) ws

pub row_narrow : (b : ℕ) (ws : List ℕ) → widths_of b table ≡ some ws → Narrow ws
unfolding else all table narrow_test
row_narrow b ws e =
    let passes : T (narrow_test (else (widths_of b table) [])) = widths_pass narrow_test b table tt tt in
    let both = T_and (leb (length ws) 11) (all (λ w. leb w 4) ws) (rw e at passes) in
    record { few = leb→le _ _ both.0; narrow = λ k. narrow_at ws k both.1 }

-- no command is longer than the contract's 32 bytes
pub widths_most : (b : ℕ) (ws : List ℕ) → widths_of b table ≡ some ws → total ws ≤ 31
unfolding else all table total
widths_most b ws e =
    let most : T (leb (total (else (widths_of b table) [])) 31) = widths_pass (λ ws. leb (total ws) 31) b table tt tt in
    leb→le (total ws) 31 (rw e at most)
