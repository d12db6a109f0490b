-- A statement's totals are near the exact sums: each rounding is off by at most half, and the errors of a sum add up.
use mathlib.Core.Path.{◌≡◌, refl, sym, ap, ◌∙◌, subst}
use mathlib.Core.List.{List, [], ◌∷◌, map}
use Prim.Native.Nat.{ℕ, ◌+◌, ◌*◌, ◌≤◌, ◌<◌}
use native.Mathlib.Nat.{mul-le-mul_left, mul-suc, mul-zero}
use native.Mathlib.Omega.{arith}
use lib.Dec.{lit<}
use lib.IntN.{ℤ, pos, ◌+ℤ◌, ◌-ℤ◌, ◌*ℤ◌, zero-*ℤ}
use lib.ListN.{length}
use Rattle.energy.specs.Lists.{sum, sum_ℕ}
use Rattle.energy.specs.Number.{up, down, nearest}
use Rattle.energy.specs.Energy.{kwh, capped, payment}
use Rattle.energy.proofs.Integers.{distrib, exact, abs-parts, add_parts, diff_parts, mul-parts, arith_ℤ}
use Rattle.energy.proofs.Rounding.{nearest_error, capped-nearest}
use Rattle.rules.specs.Ledger.{Ledger, contract_of}
use Rattle.rules.specs.Segment.{price, Segment, segments}
use Rattle.rules.specs.Statement.{expected_of, delivered_of, line_of, lines, statement_of, paid_periods, period_exact, period_pence, available_of}
use Rattle.rules.specs.Statement.{windows_paid, exact_of, rate_of, exact_energy, paid_count, exact_amount, allowance, Differ}
use Rattle.rules.specs.Bounds.{WithinHalves·theorem}
use Rattle.commands.specs.declared.entries.Window.{Window}
use Rattle.rules.specs.declared.statement.Line.{Line}
use Rattle.rules.specs.declared.statement.Available.{Available}

-- ---- a and b are at most d apart, by their parts

record Apart (a b : ℤ) (d : ℕ) : Type 0 where
  sides : (up a + down b ≤ down a + up b + d) × (down a + up b ≤ up a + down b + d)

differ : {a b : ℤ} {d : ℕ} → Apart a b d → Differ a b d
differ {a} {b} {d} h = omega (arith, exact (diff_parts a b), abs-parts (a -ℤ b))

-- a rounded quotient, with a divisor of 2 h
halved : (n : ℤ) (h : ℕ) → 0 < h → Apart (pos (2 * h) *ℤ nearest n (2 * h)) n h
halved n h p =
    let z : ℤ = pos (2 * h) *ℤ nearest n (2 * h) in
    let e = nearest_error n (2 * h) (omega arith) in
    record { sides = omega (arith, abs-parts (n -ℤ z), diff_parts n z) }

-- the lesser of two rounded sums, floored, is the floored lesser, rounded
capped_near : (x d : ℤ) → Apart (pos 240 *ℤ capped (kwh x) (kwh d)) (capped x d) 120
capped_near x d =
    subst (λ z. Apart (pos 240 *ℤ z) (capped x d) 120) (sym (capped-nearest x d 240 (lit< tt))) (halved (capped x d) 120 (lit< tt))

-- a line's pence: c the capped kWh, x the exact energy in 240ths, r the rate
pence_near : (c x : ℤ) (r : ℕ) → Apart (pos 240 *ℤ c) x 120 → Apart (pos 1200000 *ℤ payment c r) (pos 5 *ℤ (x *ℤ pos r)) (600000 + 600 * r)
pence_near c x r h =
    let w : ℤ = payment c r in
    let n : Apart (pos 1000 *ℤ w) (c *ℤ pos r) 500 = halved (c *ℤ pos r) 500 (lit< tt) in
    let a : r * (240 * up c + down x) ≤ r * (240 * down c + up x + 120) = mul-le-mul_left r (omega (arith, mul-parts (pos 240) c)) in
    let b : r * (240 * down c + up x) ≤ r * (240 * up c + down x + 120) = mul-le-mul_left r (omega (arith, mul-parts (pos 240) c)) in
    let p = mul-parts c (pos r) in let q = mul-parts x (pos r) in
    record { sides = omega (arith, mul-parts (pos 1200000) w, mul-parts (pos 1000) w, mul-parts (pos 5) (x *ℤ pos r)) }

-- the pence of n paid periods, of which one is q in 200,000ths
periods_near : (n q : ℕ) → Apart (pos 1200000 *ℤ (pos n *ℤ nearest (pos q) 200000)) (pos (6 * (n * q))) (600000 * n)
periods_near n q =
    let w : ℤ = nearest (pos q) 200000 in
    let k : Apart (pos 200000 *ℤ w) (pos q) 100000 = halved (pos q) 100000 (lit< tt) in
    let a : n * (200000 * up w) ≤ n * (200000 * down w + q + 100000) = mul-le-mul_left n (omega (arith, mul-parts (pos 200000) w)) in
    let b : n * (200000 * down w + q) ≤ n * (200000 * up w + 100000) = mul-le-mul_left n (omega (arith, mul-parts (pos 200000) w)) in
    record { sides = omega (arith, mul-parts (pos 1200000) (pos n *ℤ w), mul-parts (pos n) w) }

-- ---- sums

-- each term is within e of k times the other's, so the sums are within the sum of these
sum_near : {A B : Type 0} (k : ℕ) (f : B → ℤ) (h : A → ℤ) (e : B → ℕ) (l : A → B)
    → ((x : A) → Apart (pos k *ℤ f (l x)) (h x) (e (l x)))
    → (xs : List A)
    → Apart (pos k *ℤ sum f (map l xs)) (sum h xs) (sum_ℕ e (map l xs))
unfolding sum sum_ℕ
sum_near k f h e l near [] = record { sides = omega (arith, mul-parts (pos k) (pos 0)) }
sum_near k f h e l near (x ∷ xs) =
    let r = sum_near k f h e l near xs in let n = near x in
    let z : ℤ = f (l x) in let s : ℤ = sum f (map l xs) in
    let d = distrib (pos k) z s in
    record { sides = omega (arith_ℤ, add_parts (pos k *ℤ z) (pos k *ℤ s), add_parts (h x) (sum h xs)) }

module _ {A : Type 0} where
  sum_same : (n : ℕ) (xs : List A) → sum_ℕ (λ x. n) xs ≡ n * length xs
  unfolding sum_ℕ
  sum_same n [] = sym (mul-zero n)
  sum_same n (x ∷ xs) = omega (arith, sum_same n xs, mul-suc n (length xs))

  sum_plus : (f h : A → ℕ) (xs : List A) → sum_ℕ (λ x. f x + h x) xs ≡ sum_ℕ f xs + sum_ℕ h xs
  unfolding sum_ℕ
  sum_plus f h [] = refl
  sum_plus f h (x ∷ xs) = omega (arith, sum_plus f h xs)

-- ---- the two totals

module _ (g : Ledger) where
  line_near : (s : Segment) → Apart (pos 240 *ℤ (line_of g s).capped.0) (exact_of g s) 120
  unfolding line_of exact_of
  line_near s = capped_near (expected_of g s) (delivered_of g s)

  energy_near : Apart (pos 240 *ℤ sum (λ (l : Line). l.capped.0) (lines g)) (exact_energy g) (120 * length (lines g))
  unfolding lines exact_energy
  energy_near =
      rw (sym (sum_same 120 (map (line_of g) (segments g))))
      (sum_near 240 (λ (l : Line). l.capped.0) (exact_of g) (λ l. 120) (line_of g) line_near (segments g))

  -- the payments of all lines
  lines_near : Apart (pos 1200000 *ℤ sum (λ (l : Line). l.pence.0) (lines g)) (sum (λ s. pos 5 *ℤ (exact_of g s *ℤ pos (rate_of g s))) (segments g))
      (sum_ℕ (λ (l : Line). 600000 + 600 * price (contract_of g) l.rate) (lines g))
  unfolding lines line_of
  lines_near =
      sum_near 1200000 (λ (l : Line). l.pence.0) (λ s. pos 5 *ℤ (exact_of g s *ℤ pos (rate_of g s)))
      (λ (l : Line). 600000 + 600 * price (contract_of g) l.rate) (line_of g)
      (λ s. pence_near (line_of g s).capped.0 (exact_of g s) (rate_of g s) (line_near s)) (segments g)

  -- the windows' pence are those of all paid periods
  windows_pence : (ws : List Window)
      → sum (λ (v : Available). v.pence.0) (map (available_of g) ws) ≡ pos (sum_ℕ (λ (w : Window). length (paid_periods g w)) ws) *ℤ period_pence g
  unfolding sum sum_ℕ available_of
  windows_pence [] = sym (zero-*ℤ (period_pence g))
  windows_pence (w ∷ ws) =
      let n : ℕ = length (paid_periods g w) in
      let m : ℕ = sum_ℕ (λ (v : Window). length (paid_periods g v)) ws in
      let z : ℤ = period_pence g in
      ap (λ x. pos n *ℤ z +ℤ x) (windows_pence ws)
      ∙ omega (arith_ℤ, add_parts (pos n *ℤ z) (pos m *ℤ z), mul-parts (pos n) z, mul-parts (pos m) z, mul-parts (pos (n + m)) z)

  money_near : Apart (pos 1200000 *ℤ (statement_of g).total.0) (exact_amount g) (allowance g (lines g))
  unfolding statement_of windows_paid exact_amount paid_count allowance period_pence
  money_near =
      let u : ℤ = sum (λ (l : Line). l.pence.0) (lines g) in
      let n : ℕ = paid_count g in
      let a : ℤ = pos n *ℤ period_pence g in
      let x : ℤ = sum (λ s. pos 5 *ℤ (exact_of g s *ℤ pos (rate_of g s))) (segments g) in
      let by_line = lines_near in
      let by_period : Apart (pos 1200000 *ℤ a) (pos (6 * (n * period_exact g))) (600000 * n) = periods_near n (period_exact g) in
      let most = sum_plus (λ (l : Line). 600000) (λ (l : Line). 600 * price (contract_of g) l.rate) (lines g) in
      let same = sum_same 600000 (lines g) in
      let d = distrib (pos 1200000) u a in
      rw (windows_pence g.windows)
      (record { sides = omega (arith_ℤ, add_parts (pos 1200000 *ℤ u) (pos 1200000 *ℤ a), add_parts x (pos (6 * (n * period_exact g)))) })

pub bounds : WithinHalves·theorem
unfolding statement_of
bounds g = record { energy = differ (energy_near g); money = differ (money_near g) }
