-- Laws of a number's digits: their recursion, how many there are, and that they are its numeral.
use mathlib.Core.Path.{◌≡◌, refl, sym, ◌∙◌, ap}
use mathlib.Core.Bool.{Bool, true, false, not}
use mathlib.Core.List.{List, [], ◌∷◌, ◌++◌}
use Prim.Native.Nat.{ℕ, zero, suc, ◌+◌, ◌-◌, ◌*◌, ◌/◌, ◌%◌, ◌^◌, ◌≤◌, ◌<◌}
use native.Mathlib.Nat.{div-lt_iff_lt-mul, pow-suc}
use native.Mathlib.Omega.{arith}
use lib.Dec.{T, ltb, leb, eqb, le→leb}
use lib.IntN.{ℤ, pos, negsuc}
use lib.ListN.{length, length-append}
use borrow.Author.Tests.{ltb-true, ltb-false, lt-ltb, le-ltb, ne_eqb}
use mir.Syntax.{w64}
use mir.Val.{SFits}
use Rattle.std.specs.Fmt.{decimal, signed_decimal}
use Rattle.std.proofs.lemmas.Fmt.{AppendsLastDigit, decimal_from_appends, length-decimal-le_succ}
use Rattle.energy.specs.Lists.{all}
use Rattle.energy.proofs.Tests.{and_T, all_snoc, off-T}
use Rattle.lister_rows.specs.Rows.{digit, digits, digits_in, signed_digits}
use Rattle.lister_rows.specs.Digits.{is_digit, no_leading_zero, digits_after, Numeral, Digits·theorem}

-- a step of the definition, by its test
abbrev step : ℕ → ℕ → Bool → List ℕ
step k n t = elim t [ true ↦ digit n ∷ [] | false ↦ digits_in k (n / 10) ++ (digit (n % 10) ∷ []) ]

-- what holds of one digit, and of n's digits where it holds of those of n / 10, holds of every number's digits
module _ (P : ℕ → List ℕ → Type 0) (one : (n : ℕ) → n < 10 → P n (digit n ∷ []))
    (more : (n : ℕ) (bs : List ℕ) → 10 ≤ n → P (n / 10) bs → P n (bs ++ (digit (n % 10) ∷ []))) where
  in_steps : (k n : ℕ) → n < k → P n (digits_in k n)
  unfolding digits_in
  in_steps zero n h = absurd (omega arith)
  in_steps (suc k) n h = go (ltb n 10) refl (λ l. in_steps k (n / 10) (omega arith))
    where
      go : (t : Bool) → ltb n 10 ≡ t → (10 ≤ n → P (n / 10) (digits_in k (n / 10))) → P n (step k n t)
      go true e rest = one n (ltb-true n 10 e)
      go false e rest = more n (digits_in k (n / 10)) (ltb-false n 10 e) (rest (ltb-false n 10 e))

  pub by_digits : (n : ℕ) → P n (digits n)
  unfolding digits
  by_digits n = in_steps (suc n) n (omega arith)

-- ---- the recursion

-- any bound above n gives n's digits
enough : (n : ℕ) (k : ℕ) → n < k → digits_in k n ≡ digits n
unfolding digits_in
enough = by_digits (λ n bs. (k : ℕ) → n < k → digits_in k n ≡ bs) one more
  where
    one : (n : ℕ) → n < 10 → (k : ℕ) → n < k → digits_in k n ≡ digit n ∷ []
    one n h zero l = absurd (omega arith)
    one n h (suc k) l = ap (step k n) (lt-ltb n 10 h)

    more :
        (n : ℕ) (bs : List ℕ) → 10 ≤ n → ((k : ℕ) → n / 10 < k → digits_in k (n / 10) ≡ bs)
        → (k : ℕ) → n < k → digits_in k n ≡ bs ++ (digit (n % 10) ∷ [])
    more n bs h rest zero l = absurd (omega arith)
    more n bs h rest (suc k) l = ap (step k n) (le-ltb n 10 h) ∙ ap (λ xs. xs ++ (digit (n % 10) ∷ [])) (rest k (omega arith))

pub digits_one : (n : ℕ) → n < 10 → digits n ≡ digit n ∷ []
unfolding digits digits_in
digits_one n h = ap (step n n) (lt-ltb n 10 h)

pub digits_more : (n : ℕ) → 10 ≤ n → digits n ≡ digits (n / 10) ++ (digit (n % 10) ∷ [])
unfolding digits digits_in
digits_more n h = ap (step n n) (le-ltb n 10 h) ∙ ap (λ xs. xs ++ (digit (n % 10) ∷ [])) (enough (n / 10) n (omega arith))

-- ---- as std prints them

appends : AppendsLastDigit digits_in
unfolding digits_in
appends =
    record {
      one = λ k n h. ap (step k n) (lt-ltb n 10 h);
      more = λ k n h. ap (step k n) (le-ltb n 10 h);
    }

-- std prints the digits of a number of 64 bits
pub decimal_digits : (n : ℕ) → n < 2 ^ 64 → decimal n ≡ digits n
unfolding digits
decimal_digits n h = sym (decimal_from_appends digits_in appends (suc n) n h (omega (arith, length-decimal-le_succ n h)))

pub decimal_signed : (z : ℤ) → SFits w64 z → signed_decimal z ≡ signed_digits z
unfolding signed_digits
decimal_signed (pos n) h = decimal_digits n (omega (arith, h.sfits))
decimal_signed (negsuc n) h = ap (λ l. 45 ∷ l) (decimal_digits (suc n) (omega (arith, h.sfits)))

-- ---- how many there are

-- n has at most k + 1 digits below 10 ^ (k + 1)
pub digits-length : (n : ℕ) (k : ℕ) → n < 10 ^ suc k → length (digits n) ≤ suc k
digits-length = by_digits (λ n bs. (k : ℕ) → n < 10 ^ suc k → length bs ≤ suc k) (λ n h k l. omega arith) more
  where
    more :
        (n : ℕ) (bs : List ℕ) → 10 ≤ n → ((k : ℕ) → n / 10 < 10 ^ suc k → length bs ≤ suc k)
        → (k : ℕ) → n < 10 ^ suc k → length (bs ++ (digit (n % 10) ∷ [])) ≤ suc k
    more n bs h rest zero l = absurd (omega arith)
    more n bs h rest (suc k) l =
        rw length-append (omega (arith, rest k ((div-lt_iff_lt-mul (omega arith)).1 (rw pow-suc at l))))

-- a count of 32 bits has at most 10 digits
pub count-length : (n : ℕ) → n < 2 ^ 32 → length (digits n) ≤ 10
count-length n h = digits-length n 9 (omega arith)

-- a signed 64-bit number has at most 20 bytes
pub signed_length : (z : ℤ) → SFits w64 z → length (signed_digits z) ≤ 20
unfolding signed_digits
signed_length (pos n) h = omega (arith, digits-length n 18 (omega (arith, h.sfits)))
signed_length (negsuc n) h = omega (arith, digits-length (suc n) 18 (omega (arith, h.sfits)))

-- ---- the numeral

read-on : (n : ℕ) (xs ys : List ℕ) → digits_after n (xs ++ ys) ≡ digits_after (digits_after n xs) ys
unfolding digits_after
read-on n [] ys = refl
read-on n (x ∷ xs) ys = read-on (10 * n + (x - 48)) xs ys

digit_decimal : (d : ℕ) → d < 10 → T (is_digit (digit d))
digit_decimal d h = and_T (leb 48 (48 + d)) (leb (48 + d) 57) (le→leb 48 (48 + d) (omega arith)) (le→leb (48 + d) 57 (omega arith))

-- there is a first byte, and it is not `0`
abbrev leads : List ℕ → Bool
leads [] = false
leads (b ∷ bs) = not (eqb b 48)

leads_on : (bs : List ℕ) (b : ℕ) → T (leads bs) → T (leads (bs ++ (b ∷ []))) × T (no_leading_zero (bs ++ (b ∷ [])))
unfolding no_leading_zero
leads_on [] b h = absurd h
leads_on (a ∷ []) b h = (h, h)
leads_on (a ∷ c ∷ bs) b h = (h, h)

-- the numeral of n, with what the next digit wants of it
record Grown (n : ℕ) (bs : List ℕ) : Type 0 where
  numeral : Numeral n bs
  led : 0 < n → T (leads bs)

pub digits_numeral : Digits·theorem
unfolding Digits·theorem digits_after no_leading_zero all
digits_numeral n = (by_digits Grown one more n).numeral
  where
    one : (n : ℕ) → n < 10 → Grown n (digit n ∷ [])
    one n h =
        record {
          numeral = record { reads = omega arith; decimal = and_T (is_digit (digit n)) true (digit_decimal n h) tt; shortest = tt };
          led = λ p. off-T (eqb (48 + n) 48) (ne_eqb (48 + n) 48 (λ e. omega arith));
        }

    more : (n : ℕ) (bs : List ℕ) → 10 ≤ n → Grown (n / 10) bs → Grown n (bs ++ (digit (n % 10) ∷ []))
    more n bs h g =
        let (led, shortest) = leads_on bs (digit (n % 10)) (g.led (omega arith)) in
        record {
          numeral =
              record {
                reads = read-on 0 bs (digit (n % 10) ∷ []) ∙ omega (arith, g.numeral.reads);
                decimal = all_snoc is_digit bs (digit (n % 10)) g.numeral.decimal (digit_decimal (n % 10) (omega arith));
                shortest = shortest;
              };
          led = λ p. led;
        }
