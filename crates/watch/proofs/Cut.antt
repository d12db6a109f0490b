-- Where a segment ends: the rank of a minute, its period and stage as one number that never falls, rises into minute m + 1 just where a period or a stage
-- begins there.
use mathlib.Core.Path.{◌≡◌, refl, sym, ap, ◌∙◌}
use mathlib.Core.Bool.{Bool, true, false, ◌||◌, true≢false}
use Prim.Native.Nat.{ℕ, suc, ◌%◌, ◌≤◌, ◌<◌}
use native.Mathlib.Omega.{arith}
use lib.Dec.{eqb, ltb}
use borrow.Author.Tests.{ltb-true, ltb-false, eqb-false, eq-eqb, ne_eqb}
use Rattle.energy.proofs.Tests.{off_or, either, either-eq}
use Rattle.rules.specs.Cuts.{cut_of, stage_at}
use Rattle.rules.proofs.Cuts.{Rises, rank, rises, stage_ix}

-- a period or a stage begins at minute m, or it is f: e the expiry, c the cease
abbrev pub cut_at : ℕ → ℕ → ℕ → ℕ → Bool
cut_at e c f m = eqb (m % 30) 0 || eqb m e || eqb m c || eqb m f

-- the three stages of a minute, with their numbers
stage_cases : {X : Type 0} (e c m : ℕ) → (m < e → stage_ix (stage_at e c m) ≡ 0 → X) → (e ≤ m → m < c → stage_ix (stage_at e c m) ≡ 1 → X)
    → (e ≤ m → c ≤ m → stage_ix (stage_at e c m) ≡ 2 → X) → X
stage_cases e c m up steady down =
    either (ltb m e) (λ a. up (ltb-true m e a) (rw a refl))
    (λ a.
    either (ltb m c) (λ b. steady (ltb-false m e a) (ltb-true m c b) (rw (a, b) refl)) (λ b. down (ltb-false m e a) (ltb-false m c b) (rw (a, b) refl)))

pub cut_flat : (e c f m : ℕ) → cut_at e c f (suc m) ≡ false → rank e c m ≡ rank e c (suc m)
cut_flat e c f m q =
    let (q3, qf) = off_or (eqb (suc m % 30) 0 || eqb (suc m) e || eqb (suc m) c) (eqb (suc m) f) q in
    let (q2, qc) = off_or (eqb (suc m % 30) 0 || eqb (suc m) e) (eqb (suc m) c) q3 in
    let (qp, qe) = off_or (eqb (suc m % 30) 0) (eqb (suc m) e) q2 in
    let np = eqb-false (suc m % 30) 0 qp in
    let ne = eqb-false (suc m) e qe in
    let nc = eqb-false (suc m) c qc in
    stage_cases e c m
    (λ a i. stage_cases e c (suc m) (λ b j. omega arith) (λ b d' j. omega arith) (λ b d' j. omega arith))
    (λ a d i. stage_cases e c (suc m) (λ b j. omega arith) (λ b d' j. omega arith) (λ b d' j. omega arith))
    (λ a d i. stage_cases e c (suc m) (λ b j. omega arith) (λ b d' j. omega arith) (λ b d' j. omega arith))

pub cut_rise : (e c f m : ℕ) → e ≤ c → cut_at e c f (suc m) ≡ true → suc m < f → rank e c m < rank e c (suc m)
cut_rise e c f m o q l =
    either-eq (suc m % 30) 0 (λ z. rising z)
    (λ np.
    either-eq (suc m) e
    (λ ee.
    stage_cases e c m (λ a i. stage_cases e c (suc m) (λ b j. omega arith) (λ b d' j. omega arith) (λ b d' j. omega arith)) (λ a d i. absurd (omega arith))
    (λ a d i. absurd (omega arith)))
    (λ ne.
    either-eq (suc m) c
    (λ ec.
    stage_cases e c (suc m) (λ b j. absurd (omega arith)) (λ b d' j. absurd (omega arith))
    (λ b d' j. stage_cases e c m (λ a i. omega arith) (λ a d i. omega arith) (λ a d i. omega arith)))
    (λ nc.
    absurd
    (true≢false
    (sym q ∙ rw (ne_eqb (suc m % 30) 0 np, ne_eqb (suc m) e ne, ne_eqb (suc m) c nc, ne_eqb (suc m) f (λ z. omega arith)) refl)))))
  where
    -- the stage's number does not fall
    rising : suc m % 30 ≡ 0 → rank e c m < rank e c (suc m)
    rising z =
        stage_cases e c m
        (λ a i. stage_cases e c (suc m) (λ b j. omega arith) (λ b d' j. omega arith) (λ b d' j. omega arith))
        (λ a d i. stage_cases e c (suc m) (λ b j. omega arith) (λ b d' j. omega arith) (λ b d' j. omega arith))
        (λ a d i. stage_cases e c (suc m) (λ b j. omega arith) (λ b d' j. omega arith) (λ b d' j. omega arith))

-- the end of a segment that begins at h: its last minute is the one before a cut
module _ (e c f : ℕ) (o : e ≤ c) (o' : c ≤ f) where
  abbrev R : Rises (rank e c) (cut_of e c f) f
  R = rises e c f o o'

  pub cut_here : (h m : ℕ) → h ≤ m → m < cut_of e c f h → h < f → cut_at e c f (suc m) ≡ eqb (cut_of e c f h) (suc m)
  cut_here h m a b l =
      let inside : cut_of e c f h ≤ f = R.inside h l in
      let same : rank e c m ≡ rank e c h = R.flat h m a b in
      either-eq (cut_of e c f h) (suc m)
      (λ q.
      either (cut_at e c f (suc m)) (λ t. t ∙ sym (eq-eqb (cut_of e c f h) (suc m) q))
      (λ t.
      let ends : eqb (suc m) f ≡ false = (off_or (eqb (suc m % 30) 0 || eqb (suc m) e || eqb (suc m) c) (eqb (suc m) f) t).1 in
      absurd (omega (
        arith,
        eqb-false (suc m) f ends,
        cut_flat e c f m t,
        R.jump h (omega (arith, eqb-false (suc m) f ends)),
        ap (rank e c) q,
      ))))
      (λ n.
      either (cut_at e c f (suc m))
      (λ t. absurd (omega (arith, cut_rise e c f m o t (omega arith), R.flat h (suc m) (omega arith) (omega arith))))
      (λ t. t ∙ sym (ne_eqb (cut_of e c f h) (suc m) n)))
