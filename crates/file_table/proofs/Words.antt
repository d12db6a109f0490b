-- Laws of numbers in bytes, high byte first, over the number of bytes.
use mathlib.Core.Path.{◌≡◌, refl, sym}
use mathlib.Core.List.{List, [], ◌∷◌, ◌++◌}
use Prim.Native.Nat.{ℕ, zero, suc, ◌+◌, ◌-◌, ◌*◌, ◌/◌, ◌%◌, ◌^◌, ◌≤◌, ◌<◌, zero-le}
use native.Mathlib.Nat.{le_of_lt, sub_self, sub-zero, div-one, pow-suc, pow-succ', mul_assoc, mul-le-mul_right}
use native.Mathlib.Nat.{mul-le-mul_left, lt_of_lt_of_le, pow-le-pow_right, div-div-eq-div-mul}
use native.Mathlib.Numerals.{add-one}
use native.Mathlib.Omega.{arith}
use lib.Dec.{lit<}
use lib.ListN.{length, get_or, take, drop, set, length-set}
use lib.Seq.{take-suc, drop-length, drop_at, set_split, length-take-le}
use Rattle.rules.specs.File.{word_from, bytes_of}

-- ---- reading

word_snoc : (n : ℕ) (bs : List ℕ) (b : ℕ) → word_from n (bs ++ (b ∷ [])) ≡ word_from n bs * 256 + b
unfolding word_from
word_snoc n [] b = refl
word_snoc n (x ∷ bs) b = word_snoc (n * 256 + x) bs b

-- one byte more
pub word_more : (s : List ℕ) (i : ℕ) → i < length s → word_from 0 (take (i + 1) s) ≡ word_from 0 (take i s) * 256 + get_or s i 0
word_more s i h = rw (add-one i, take-suc s i 0) (word_snoc 0 (take i s) (get_or s i 0))

-- the same for a loop that has come to it
pub word_next : (s : List ℕ) (i n b : ℕ) → i < length s → n ≡ word_from 0 (take i s) → b ≡ get_or s i 0 → n * 256 + b ≡ word_from 0 (take (i + 1) s)
word_next s i n b h e f = rw (e, f) (sym (word_more s i h))

abbrev pub Bytes : List ℕ → Type 0
Bytes s = (k : ℕ) → get_or s k 0 < 256

below : (i n : ℕ) (s : List ℕ) → Bytes s → word_from n (take i s) < suc n * 256 ^ i
unfolding word_from
below zero n s h = omega arith
below (suc i) n [] h = lt_of_lt_of_le (omega arith) (mul-le-mul_left (suc n) (pow-le-pow_right (lit< tt) {i = 0} {j = suc i} zero-le))
below (suc i) n (b ∷ s) h =
    lt_of_lt_of_le (below i (n * 256 + b) s (λ k. h (suc k)))
    (rw (pow-succ' 256 i, ← mul_assoc (suc n) 256 (256 ^ i)) (mul-le-mul_right (256 ^ i) (omega (arith, h 0))))

-- a number in i bytes is below 256 ^ i
pub word_below : (i : ℕ) (s : List ℕ) → Bytes s → word_from 0 (take i s) < 256 ^ i
word_below i s h = omega (arith, below i 0 s h)

-- so one in at most three bytes leaves room for a fourth
pub word_small : (i : ℕ) (s : List ℕ) → Bytes s → i ≤ 3 → word_from 0 (take i s) < 256 ^ 3
word_small i s h few = lt_of_lt_of_le (word_below i s h) (pow-le-pow_right (lit< tt) {i = i} {j = 3} few)

-- ---- writing

drop-set : (l : List ℕ) (i a : ℕ) → i < length l → drop i (set l i a) ≡ a ∷ drop (suc i) l
drop-set l i a h = rw (set_split l i a h) (drop_at (take i l) (a ∷ drop (suc i) l) i (length-take-le i l (le_of_lt h)))

-- the bytes from a place on are the number's lowest, and the rest is what the number has above them
pub record Lowest (number : ℕ) (out : List ℕ) (rest place : ℕ) : Type 0 where
  pub written : drop place out ≡ bytes_of (length out - place) number
  pub left : rest ≡ number / 256 ^ (length out - place)

pub lowest_none : (number : ℕ) (out : List ℕ) → Lowest number out number (length out)
unfolding bytes_of
lowest_none number out =
    let all : length out - length out ≡ 0 = sub_self (length out) in
    record { written = rw all (drop-length out); left = rw all (sym (div-one number)) }

pub lowest_more : (number : ℕ) (out : List ℕ) (rest i : ℕ) → 0 < i → i ≤ length out → Lowest number out rest i
    → Lowest number (set out (i - 1) (rest % 256)) (rest / 256) (i - 1)
unfolding bytes_of
lowest_more number out rest i h most l =
    let below : length out - (i - 1) ≡ suc (length out - i) = omega arith in
    let after : suc (i - 1) ≡ i = omega arith in
    record {
      written = rw (length-set, below, drop-set out (i - 1) (rest % 256) (omega arith), after, l.written, l.left);
      left = rw (length-set, below, pow-suc 256 (length out - i), l.left, div-div-eq-div-mul);
    }

pub lowest_all : (number : ℕ) (out : List ℕ) (rest : ℕ) → Lowest number out rest 0 → out ≡ bytes_of (length out) number
lowest_all number out rest l = rw sub-zero at l.written
