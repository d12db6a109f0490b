-- Laws of tables.
use Rattle.std.proofs.Common.{◌≡◌, refl, ℕ, ◌≤◌, ◌<◌, Bool, false, ◌&&◌, leb, List, length, take, ℤ, pos, negsuc, int_eq, arith}
use lib.Seq.{length-take-le}
use borrow.Author.Tests.{leb-false}
use Rattle.std.specs.List.{list_all}
use Rattle.std.proofs.lemmas.List.Recursion.{same_from_clauses}
use Rattle.std.proofs.lemmas.Bool.Decides.{nat_tests}
use Rattle.energy.specs.Lists.{all}
use Rattle.book_sound.specs.Unused.{is_zero}

-- the library's test of each entry is the rules'
pub all_is : {A : Type 0} (f : A → Bool) (l : List A) → list_all f l ≡ all f l
unfolding all
all_is f = same_from_clauses (list_all f) (all f) (λ x b. f x && b) refl (λ x l. refl) (λ x l. refl)

-- a signed number equals 0 where the rules say that it does
pub zero_is : (z : ℤ) → int_eq z (pos 0) ≡ is_zero z
zero_is (pos n) = grind (arith, nat_tests)
zero_is (negsuc n) = refl

-- a table that is not full has room
pub has_room : {A : Type 0} (l : List A) (n most : ℕ) → length l ≡ most → n ≤ most → leb most (length (take n l)) ≡ false → n < most
has_room l n most e h f = leb-false most n (rw (length-take-le n l (rw e h)) at f)
