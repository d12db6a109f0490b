-- Where the numbers of a month stand: the figures first, the times of instruction j, from 0, in the place after j others of each column, and period p's number
-- after the columns. For a ledger that columns of 64 places have room for.
use mathlib.Core.Path.{◌≡◌, refl, ap, ◌∙◌}
use mathlib.Core.Bool.{cond}
use mathlib.Core.List.{List, [], ◌∷◌, ◌++◌, map}
use Prim.Native.Nat.{ℕ, zero, suc, ◌+◌, ◌-◌, ◌*◌, ◌≤◌, ◌<◌}
use native.Mathlib.Omega.{arith}
use lib.ListN.{length, get_or, replicate, length-append, length-map, length-replicate, get_or-replicate, get_or-append, get_or-map}
use lib.Seq.{get_or-append-add}
use Rattle.energy.specs.Lists.{run, between}
use Rattle.commands.specs.Input.{kw_of}
use Rattle.commands.specs.declared.contract.Contract.{Contract}
use Rattle.commands.specs.declared.entries.Instruction.{Instruction}
use Rattle.rules.specs.Ledger.{Ledger, contract_of, expiry, ramp_start, end_of, no_instruction}
use Rattle.rules.specs.Segment.{in_live}
use Rattle.rules.proofs.Lists.{get_d_within}
use Rattle.rules.proofs.Folds.{length-first}
use Rattle.watch_step.specs.Month.{month_numbers, month_periods, kw_at, kind_at, utilisation_at, optional_at, count_at, start_at, expiry_at, cease_at, end_at}
use Rattle.watch_month.specs.MonthOf.{column, month_of}

-- ---- a column

module _ (f : Instruction → ℕ) (is : List Instruction) where
  pub length-column : length is ≤ 64 → length (column f is) ≡ 64
  unfolding column
  length-column few = simp (length-append, length-map, length-replicate) (omega arith)

  -- the time of an instruction that is there
  pub column_at : (j : ℕ) → j < length is → get_or (column f is) j 0 ≡ f (get_or is j no_instruction)
  unfolding column
  column_at j h =
      let l : j < length (map f is) = omega (arith, length-map is f) in
      get_or-append (map f is) (replicate (64 - length is) 0) 0 j l ∙ get_d_within (map f is) j 0 (f no_instruction) l
      ∙ get_or-map f is j no_instruction

  -- and zeros after the last
  pub column_past : (j : ℕ) → length is ≤ j → j < 64 → get_or (column f is) j 0 ≡ 0
  unfolding column
  column_past j h l =
      let e : j ≡ length (map f is) + (j - length is) = omega (arith, length-map is f) in
      ap (λ z. get_or (map f is ++ replicate (64 - length is) 0) z 0) e
      ∙ get_or-append-add (map f is) (replicate (64 - length is) 0) (j - length is) 0
      ∙ get_or-replicate (64 - length is) (j - length is) 0 0 (omega arith)

-- ---- numbers in a row

run_at : (a n i : ℕ) → i < n → get_or (run a n) i 0 ≡ a + i
unfolding run
run_at a zero i h = absurd (omega arith)
run_at a (suc n) zero h = omega arith
run_at a (suc n) (suc i) h = run_at (suc a) n i (omega arith) ∙ omega arith

-- what f gives of number p
pub first_at : (f : ℕ → ℕ) (n p : ℕ) → p < n → get_or (map f (between 0 n)) p 0 ≡ f p
unfolding between
first_at f n p h =
    let l : p < length (map f (between 0 n)) = omega (arith, length-first f n) in
    get_d_within (map f (between 0 n)) p 0 (f 0) l ∙ get_or-map f (between 0 n) p 0
    ∙ ap f (run_at 0 (n - 0) p (omega arith) ∙ omega arith)

-- a place in the list behind a front of n numbers
behind : (xs ys : List ℕ) (n i place : ℕ) → length xs ≡ n → place ≡ n + i → get_or (xs ++ ys) place 0 ≡ get_or ys i 0
behind xs ys n i place e h = let q : place ≡ length xs + i = omega arith in ap (λ z. get_or (xs ++ ys) z 0) q ∙ get_or-append-add xs ys i 0

-- ---- the month of a ledger

module _ (g : Ledger) (few : length g.instructions ≤ 64) where
  abbrev k : Contract
  k = contract_of g

  abbrev is : List Instruction
  is = g.instructions

  -- the number of period p, from 0
  abbrev flag : ℕ → ℕ
  flag p = cond (in_live g (30 * p)) 1 0

  -- its parts, and how long those before each of them are
  abbrev figures : List ℕ
  figures = kw_of k ∷ k.kind ∷ k.utilisation ∷ k.optional ∷ length is ∷ []

  abbrev to_issues : List ℕ
  to_issues = figures ++ column (λ i. i.issue.0) is

  abbrev to_starts : List ℕ
  to_starts = to_issues ++ column (ramp_start k) is

  abbrev to_expiries : List ℕ
  to_expiries = to_starts ++ column (expiry k) is

  abbrev to_ceases : List ℕ
  to_ceases = to_expiries ++ column (λ i. i.cease.0) is

  abbrev to_ends : List ℕ
  to_ends = to_ceases ++ column (end_of k) is

  abbrev whole : List ℕ
  whole = to_ends ++ map flag (between 0 month_periods)

  -- a front of so many numbers, and a column after it
  longer : (xs : List ℕ) (f : Instruction → ℕ) (n : ℕ) → length xs ≡ n → length (xs ++ column f is) ≡ n + 64
  longer xs f n e = length-append xs (column f is) ∙ omega (arith, length-column f is few)

  l1 : length to_issues ≡ 69
  l1 = longer figures (λ i. i.issue.0) 5 refl

  l2 : length to_starts ≡ 133
  l2 = longer to_issues (ramp_start k) 69 l1

  l3 : length to_expiries ≡ 197
  l3 = longer to_starts (expiry k) 133 l2

  l4 : length to_ceases ≡ 261
  l4 = longer to_expiries (λ i. i.cease.0) 197 l3

  l5 : length to_ends ≡ 325
  l5 = longer to_ceases (end_of k) 261 l4

  -- a place before the parts that come after it
  in_ceases : (p : ℕ) → p < 261 → get_or whole p 0 ≡ get_or to_ceases p 0
  in_ceases p h =
      get_or-append to_ends (map flag (between 0 month_periods)) 0 p (omega (arith, l5))
      ∙ get_or-append to_ceases (column (end_of k) is) 0 p (omega (arith, l4))

  in_expiries : (p : ℕ) → p < 197 → get_or whole p 0 ≡ get_or to_expiries p 0
  in_expiries p h = in_ceases p (omega arith) ∙ get_or-append to_expiries (column (λ i. i.cease.0) is) 0 p (omega (arith, l3))

  in_starts : (p : ℕ) → p < 133 → get_or whole p 0 ≡ get_or to_starts p 0
  in_starts p h = in_expiries p (omega arith) ∙ get_or-append to_starts (column (expiry k) is) 0 p (omega (arith, l2))

  in_issues : (p : ℕ) → p < 69 → get_or whole p 0 ≡ get_or to_issues p 0
  in_issues p h = in_starts p (omega arith) ∙ get_or-append to_issues (column (ramp_start k) is) 0 p (omega (arith, l1))

  pub length-month : length (month_of g) ≡ month_numbers
  unfolding month_of
  length-month = length-append to_ends (map flag (between 0 month_periods)) ∙ omega (arith, l5, length-first flag month_periods)

  -- the figures
  pub kw_at_lem : kw_at (month_of g) ≡ kw_of k
  unfolding month_of
  kw_at_lem = refl

  pub kind_at_lem : kind_at (month_of g) ≡ k.kind
  unfolding month_of
  kind_at_lem = refl

  pub utilisation_at_lem : utilisation_at (month_of g) ≡ k.utilisation
  unfolding month_of
  utilisation_at_lem = refl

  pub optional_at_lem : optional_at (month_of g) ≡ k.optional
  unfolding month_of
  optional_at_lem = refl

  pub count_at_lem : count_at (month_of g) ≡ length g.instructions
  unfolding month_of
  count_at_lem = refl

  -- the times of instruction j, whose number is one more
  module _ (j : ℕ) (h : j < length g.instructions) where
    abbrev i : Instruction
    i = get_or g.instructions j no_instruction

    -- behind n numbers, in a column
    stands : (xs : List ℕ) (f : Instruction → ℕ) (n place : ℕ) → length xs ≡ n → place ≡ n + j → get_or (xs ++ column f is) place 0 ≡ f i
    stands xs f n place e q = behind xs (column f is) n j place e q ∙ column_at f is j h

    pub issue_at : get_or (month_of g) (4 + suc j) 0 ≡ i.issue.0
    unfolding month_of
    issue_at = in_issues (4 + suc j) (omega arith) ∙ stands figures (λ i. i.issue.0) 5 (4 + suc j) refl (omega arith)

    pub start_at_lem : start_at (month_of g) (suc j) ≡ ramp_start k i
    unfolding month_of
    start_at_lem = in_starts (68 + suc j) (omega arith) ∙ stands to_issues (ramp_start k) 69 (68 + suc j) l1 (omega arith)

    pub expiry_at_lem : expiry_at (month_of g) (suc j) ≡ expiry k i
    unfolding month_of
    expiry_at_lem = in_expiries (132 + suc j) (omega arith) ∙ stands to_starts (expiry k) 133 (132 + suc j) l2 (omega arith)

    pub cease_at_lem : cease_at (month_of g) (suc j) ≡ i.cease.0
    unfolding month_of
    cease_at_lem = in_ceases (196 + suc j) (omega arith) ∙ stands to_expiries (λ i. i.cease.0) 197 (196 + suc j) l3 (omega arith)

    pub end_at_lem : end_at (month_of g) (suc j) ≡ end_of k i
    unfolding month_of
    end_at_lem =
        get_or-append to_ends (map flag (between 0 month_periods)) 0 (260 + suc j) (omega (arith, l5))
        ∙ stands to_ceases (end_of k) 261 (260 + suc j) l4 (omega arith)

  -- the number of period p, from 0
  pub live_at_lem : (p : ℕ) → p < month_periods → get_or (month_of g) (325 + p) 0 ≡ cond (in_live g (30 * p)) 1 0
  unfolding month_of
  live_at_lem p h = behind to_ends (map flag (between 0 month_periods)) 325 p (325 + p) l5 refl ∙ first_at flag month_periods p h
