-- Numbers laid one after the other in a month's memory: by a loop, the columns, and all of them.
use mathlib.Core.Path.{◌≡◌, refl, sym, ◌∙◌}
use mathlib.Core.List.{List, [], ◌∷◌, ◌++◌, map}
use Prim.Native.Nat.{ℕ, ◌+◌, ◌-◌, ◌≤◌, ◌<◌}
use native.Mathlib.Nat.{add-zero}
use native.Mathlib.Omega.{arith}
use lib.ListN.{length, get_or, drop, set, length-append}
use lib.Seq.{ext_get_or, sets-eq}
use Rattle.energy.specs.Lists.{run, between, put_at, Laid}
use Rattle.energy.proofs.Puts.{laid_none, laid_long, laid_both}
use Rattle.settle_terms.specs.declared.Terms.{Terms}
use Rattle.rules.proofs.Folds.{length-first, first-snoc}
use Rattle.watch_step.specs.Month.{month_numbers, month_periods}
use Rattle.watch_month.specs.MonthBy.{times_by, figures_by, flag_by, periods_by, month_by}
use Rattle.watch_month.specs.MonthOf.{column}
use Rattle.watch_month.proofs.Places.{length-column, column_at, column_past, first_at}
use Rattle.commands.specs.declared.entries.Instruction.{Instruction}
use Rattle.rules.specs.Ledger.{no_instruction}
use native.Mathlib.Decide.{dec_lt}
use borrow.Author.Tests.{lt-ltb, le-ltb}
use lib.Dec.{ltb}
use mathlib.Core.Bool.{cond}

-- what f gives of the first n numbers
pub record Filled (f : ℕ → ℕ) (before : List ℕ) (at n : ℕ) (after : List ℕ) : Type 0 where
  pub laid : Laid (map f (between 0 n)) before at after (at + n)

-- none so far
pub fill_none : (f : ℕ → ℕ) (before : List ℕ) (at : ℕ) → Filled f before at 0 before
unfolding between run
fill_none f before at = record { laid = rw (add-zero at) (laid_none before at) }

-- memory keeps its length
pub filled_long : {f : ℕ → ℕ} {before after : List ℕ} {at n : ℕ} → Filled f before at n after → at + n ≤ length before → length after ≡ length before
filled_long {f} {n = n} F room = laid_long (omega (arith, length-first f n)) F.laid

-- one number more
pub fill_next : {f : ℕ → ℕ} {before after : List ℕ} {at n : ℕ} → Filled f before at n after → at + n < length before → {x : ℕ} → x ≡ f n
    → Filled f before at (n + 1) (set after (at + n) x)
unfolding put_at
fill_next {f} {before} {after} {at} {n} F room {x} e =
    let one : Laid (f n ∷ []) after (at + n) (set after (at + n) x) (at + (n + 1)) =
    record { ends = omega arith; holds = rw e (sets-eq (f n ∷ []) after (at + n) (omega (arith, filled_long F (omega arith)))) } in
    record { laid = rw (first-snoc f n) (laid_both (omega arith) F.laid one) }

-- ---- the columns

-- place j of a column: the time of instruction j, from 0, and 0 past the last
abbrev pub place_by : (Instruction → ℕ) → List Instruction → ℕ → ℕ
place_by f is j = cond (ltb j (length is)) (f (get_or is j no_instruction)) 0

pub column_is : (f : Instruction → ℕ) (is : List Instruction) → length is ≤ 64 → map (place_by f is) (between 0 64) ≡ column f is
column_is f is few =
    ext_get_or 0 (map (place_by f is) (between 0 64)) (column f is) (length-first (place_by f is) 64 ∙ sym (length-column f is few))
    (λ j h. let l : j < 64 = omega (arith, length-first (place_by f is) 64) in
    first_at (place_by f is) 64 j l ∙ elim (dec_lt j (length is)) [
      | yes q ↦ rw (lt-ltb j (length is) q) (sym (column_at f is j q))
      | no q ↦ rw (le-ltb j (length is) (omega (arith, q))) (sym (column_past f is j (omega (arith, q)) l))
    ])

module _ (is : List Instruction) (few : length is ≤ 64) {m m' : List ℕ} where
  -- one of them, laid
  column_laid : (f : Instruction → ℕ) (at : ℕ) → m' ≡ put_at (column f is) m at → Laid (column f is) m at m' (at + 64)
  column_laid f at e = record { ends = omega (arith, length-column f is few); holds = e }

module _ (t : Terms) (is : List Instruction) (few : length is ≤ 64) where
  abbrev starts : Instruction → ℕ
  starts x = x.issue.0 + (t.response.0 - t.upminutes.0)

  abbrev expiries : Instruction → ℕ
  expiries x = x.issue.0 + t.response.0

  abbrev ends : Instruction → ℕ
  ends x = x.cease.0 + t.downminutes.0

  pub length-times : length (times_by t is) ≡ 320
  unfolding times_by
  length-times =
      simp length-append
      (omega (
        arith,
        length-column (λ x. x.issue.0) is few,
        length-column starts is few,
        length-column expiries is few,
        length-column (λ x. x.cease.0) is few,
        length-column ends is few,
      ))

  -- five calls, one after the other
  pub times_laid :
      (m : List ℕ) {m₁ m₂ m₃ m₄ m₅ : List ℕ} → month_numbers ≤ length m → m₁ ≡ put_at (column (λ x. x.issue.0) is) m 5
      → m₂ ≡ put_at (column starts is) m₁ 69
      → m₃ ≡ put_at (column expiries is) m₂ 133
      → m₄ ≡ put_at (column (λ x. x.cease.0) is) m₃ 197
      → m₅ ≡ put_at (column ends is) m₄ 261
      → m₅ ≡ put_at (times_by t is) m 5
  unfolding times_by
  times_laid m room e₁ e₂ e₃ e₄ e₅ =
      let l₁ = column_laid is few (λ x. x.issue.0) 5 e₁ in
      let l₂ = laid_both (omega arith) l₁ (column_laid is few starts 69 e₂) in
      let l₃ = laid_both (omega arith) l₂ (column_laid is few expiries 133 e₃) in
      let l₄ = laid_both (omega arith) l₃ (column_laid is few (λ x. x.cease.0) 197 e₄) in
      (laid_both (omega arith) l₄ (column_laid is few ends 261 e₅)).holds

-- ---- all of them

module _ (t : Terms) (is : List Instruction) (few : length is ≤ 64) (live : List ℕ) where
  abbrev columns : List ℕ
  columns = times_by t is

  abbrev figures : List ℕ
  figures = figures_by t (length is)

  pub month_laid_lem :
      (m : List ℕ) {m₁ m₂ m₃ : List ℕ} → month_numbers ≤ length m → m₁ ≡ put_at figures m 0 → m₂ ≡ put_at columns m₁ 5
      → m₃ ≡ put_at (periods_by live) m₂ 325
      → m₃ ≡ month_by t is live ++ drop month_numbers m
  unfolding month_by periods_by put_at
  month_laid_lem m {m₁} {m₂} {m₃} room first between-them periods =
      let l₁ : Laid figures m 0 m₁ 5 = record { ends = refl; holds = first } in
      let l₂ : Laid columns m₁ 5 m₂ 325 = record { ends = omega (arith, length-times t is few); holds = between-them } in
      let l₃ : Laid (periods_by live) m₂ 325 m₃ month_numbers = record { ends = omega (arith, length-first (flag_by live) month_periods); holds = periods } in
      let l = laid_both (omega arith) (laid_both (omega arith) l₁ l₂) l₃ in
      l.holds ∙ rw (sym l.ends) refl
