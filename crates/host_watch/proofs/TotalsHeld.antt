-- What reading a number of 64 bits as one of a narrower type tells of the test of its range: it is read where the test holds, and only there.
use mathlib.Core.Path.{◌≡◌, refl, ◌∙◌}
use mathlib.Core.Bool.{Bool, true, false}
use mathlib.Core.List.{List}
use Prim.Native.Nat.{ℕ, ◌+◌, ◌≤◌, ◌^◌}
use native.Mathlib.Omega.{arith}
use lib.IntN.{ℤ, pos, negsuc, nat_abs}
use lib.ListN.{length}
use lib.Signed.{le_z}
use borrow.Author.Tests.{leb-true}
use mir.Syntax.{w32, w64}
use mir.Val.{SFits, to_z, of_z}
use mir.Facts.{to_z-of_z}
use Rattle.std.specs.Prelude.{Option, Some, None, Result, Ok, Err}
use Rattle.std.specs.Int.{FitsUnsignedBits}
use Rattle.std.specs.Result.{OkIff, result_ok}
use Rattle.std.proofs.lemmas.Result.{OkIff-at_ok, OkIff-at_err}
use Rattle.energy.proofs.Integers.{fits_parts, parts-fit, le_z-true, le_z_yes}
use Rattle.energy.proofs.Tests.{on_and}
use Rattle.commands.specs.Input.{from_to_ℤ}
use Rattle.host_watch.specs.StepNumbers.{are_totals, is_sum, total_count}

read_yes : {A E P : Type 0} (t : Bool) (r : Result A E) (v : A) → OkIff r P v → (P → t ≡ true) → (x : A) → Some x ≡ result_ok r
    → (t ≡ true) × (x ≡ v) × P
read_yes {A} {E} {P} t (Ok y) v h f x e =
    let p : P × (y ≡ v) = OkIff-at_ok {E = E} (Ok y) P v y h refl in
    let same : x ≡ y = cc in
    (f p.0, same ∙ p.1, p.0)
read_yes t (Err d) v h f x e = absurd (cc)

read_no : {A E P : Type 0} (t : Bool) (r : Result A E) (v : A) → OkIff r P v → (t ≡ true → P) → ◌≡◌ {A = Option A} None (result_ok r) → t ≡ false
read_no false r v h f e = refl
read_no true (Ok y) v h f e = absurd (cc)
read_no {P = P} true (Err d) v h f e = absurd (OkIff-at_err (Err d) P v d h refl (f refl))

-- a number from 0 to one less than a power of two
unsigned_yes : (k m : ℕ) → 2 ^ k ≡ m + 1 → (z : ℤ) → FitsUnsignedBits k z → from_to_ℤ (pos 0) (pos m) z ≡ true
unsigned_yes k m e (negsuc n) h = absurd h
unsigned_yes k m e (pos n) h = rw (le_z_yes (pos 0) (pos n) (omega arith), le_z_yes (pos n) (pos m) (omega (arith, h, e))) refl

unsigned_fits : (k m : ℕ) → 2 ^ k ≡ m + 1 → (z : ℤ) → from_to_ℤ (pos 0) (pos m) z ≡ true → FitsUnsignedBits k z
unsigned_fits k m e (pos n) t = omega (arith, e, le_z-true (pos n) (pos m) (on_and (le_z (pos 0) (pos n)) (le_z (pos n) (pos m)) t).1)
unsigned_fits k m e (negsuc n) t = absurd (omega (arith, le_z-true (pos 0) (negsuc n) (on_and (le_z (pos 0) (negsuc n)) (le_z (negsuc n) (pos m)) t).0))

module _ {E : Type 0} (k m : ℕ) (e : 2 ^ k ≡ m + 1) (z : ℤ) (f : SFits w64 z) (r : Result ℕ E)
    (h : OkIff r (FitsUnsignedBits k (to_z w64 (of_z w64 z))) (nat_abs (to_z w64 (of_z w64 z)))) where
  pub unsigned_read : (x : ℕ) → Some x ≡ result_ok r → (from_to_ℤ (pos 0) (pos m) z ≡ true) × (x ≡ nat_abs z)
  unsigned_read x q =
      let p = read_yes (from_to_ℤ (pos 0) (pos m) z) r (nat_abs z) (rw (to_z-of_z f) at h) (unsigned_yes k m e z) x q in (p.0, p.1)

  pub unsigned_refused : ◌≡◌ {A = Option ℕ} None (result_ok r) → from_to_ℤ (pos 0) (pos m) z ≡ false
  unsigned_refused = read_no (from_to_ℤ (pos 0) (pos m) z) r (nat_abs z) (rw (to_z-of_z f) at h) (unsigned_fits k m e z)

-- a number of 32 bits, with a sign
sum_yes : (z : ℤ) → SFits w32 z → is_sum z ≡ true
sum_yes z f =
    let p = parts-fit w32 z f in
    rw (le_z_yes (negsuc 2147483647) z (omega (arith, p)), le_z_yes z (pos 2147483647) (omega (arith, p))) refl

sum_fits : (z : ℤ) → is_sum z ≡ true → SFits w32 z
sum_fits z t =
    let (low, high) = on_and (le_z (negsuc 2147483647) z) (le_z z (pos 2147483647)) t in
    fits_parts w32 z (omega (arith, le_z-true (negsuc 2147483647) z low, le_z-true z (pos 2147483647) high))

module _ {E : Type 0} (z : ℤ) (f : SFits w64 z) (r : Result ℤ E) (h : OkIff r (SFits w32 (to_z w64 (of_z w64 z))) (to_z w64 (of_z w64 z))) where
  pub sum_read : (x : ℤ) → Some x ≡ result_ok r → (is_sum z ≡ true) × (to_z w32 (of_z w32 x) ≡ z)
  sum_read x q =
      let p = read_yes (is_sum z) r z (rw (to_z-of_z f) at h) (sum_yes z) x q in (p.0, rw p.1 (to_z-of_z p.2))

  pub sum_refused : ◌≡◌ {A = Option ℤ} None (result_ok r) → is_sum z ≡ false
  sum_refused = read_no (is_sum z) r z (rw (to_z-of_z f) at h) (sum_fits z)

-- memory that holds totals has seven numbers at least
pub held_long : (xs : List ℤ) → are_totals xs ≡ true → total_count ≤ length xs
unfolding are_totals
held_long xs e =
    let (five, e-delivered) = on_and _ _ e in
    let (four, e-expected) = on_and _ _ five in
    let (three, e-base) = on_and _ _ four in
    let (two, e-minute) = on_and _ _ three in
    leb-true total_count (length xs) (on_and _ _ two).0
