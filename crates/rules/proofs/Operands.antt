-- Operands and their bytes: what is written in some bytes, high byte first, is read from them, and how long it is.
use mathlib.Core.Path.{◌≡◌, refl, sym, ap, ap₂, ◌∙◌, subst}
use mathlib.Core.List.{List, [], ◌∷◌, ◌++◌, append_assoc}
use Prim.Native.Nat.{ℕ, zero, suc, ◌+◌, ◌*◌, ◌/◌, ◌%◌, ◌^◌, ◌<◌}
use native.Mathlib.Nat.{mul_comm, pow-suc, mod-eq_of_lt, mod-one, zero-add, mul-one, zero-mul}
use native.Mathlib.Omega.{arith}
use lib.Arith.{mod-mul}
use lib.Dec.{T, lit<, ltb, ltb→lt}
use lib.ListN.{length, length-append}
use lib.Seq.{take_at, drop_at}
use Rattle.energy.proofs.Tests.{T_and}
use Rattle.rules.specs.File.{table, widths_of, total, word_from, bytes_of, operands, write_operands, widths_for, write}
use Rattle.rules.specs.Reread.{fit}
use Rattle.commands.specs.declared.entries.Command.{Command}
use Rattle.commands.specs.declared.entries.Command.TheVariants.{Contract as contractᶜ, Date as dateᶜ, Window as windowᶜ, Instruction as instructionᶜ}
use Rattle.commands.specs.declared.entries.Command.TheVariants.{Default as defaultᶜ, Reading as readingᶜ, Revision as revisionᶜ}
use Rattle.commands.specs.declared.entries.Command.TheVariants.{Close as closeᶜ}

length_bytes : (w n : ℕ) → length (bytes_of w n) ≡ w
unfolding bytes_of
length_bytes zero n = refl
length_bytes (suc w) n = ap suc (length_bytes w n)

positive : (w : ℕ) → 0 < 256 ^ w
positive zero = lit< tt
positive (suc w) = subst (λ x. 0 < x) (sym (pow-suc 256 w)) (omega (arith, positive w))

-- a higher byte a, and w bytes of n after it
word_from_lem : (w n a : ℕ) → word_from a (bytes_of w n) ≡ a * 256 ^ w + n % 256 ^ w
unfolding bytes_of word_from
word_from_lem zero n a = omega (arith, mod-one n, mul-one a)
word_from_lem (suc w) n a =
    let b : ℕ = n / 256 ^ w % 256 in
    let m : n % (256 * 256 ^ w) ≡ b * 256 ^ w + n % 256 ^ w = mod-mul n {m = 256} {c = 256 ^ w} (lit< tt) (positive w) in
    let p : 256 ^ suc w ≡ 256 * 256 ^ w = pow-suc 256 w ∙ mul_comm (256 ^ w) 256 in
    word_from_lem w n (a * 256 + b) ∙ rw p (omega arith)

pub word_bytes : (w n : ℕ) → n < 256 ^ w → word_from 0 (bytes_of w n) ≡ n
word_bytes w n h = word_from_lem w n 0 ∙ ap₂ ◌+◌ (zero-mul (256 ^ w)) (mod-eq_of_lt h) ∙ zero-add n

pub operands_back : (ws v rest : List ℕ) → T (fit ws v) → operands ws (write_operands ws v ++ rest) ≡ v
unfolding operands write_operands fit
operands_back [] [] rest t = refl
operands_back [] (n ∷ v) rest t = absurd t
operands_back (w ∷ ws) [] rest t = absurd t
operands_back (w ∷ ws) (n ∷ v) rest t =
    let h = T_and (ltb n (256 ^ w)) (fit ws v) t in
    let tail : List ℕ = write_operands ws v ++ rest in
    rw (append_assoc (bytes_of w n) (write_operands ws v) rest, take_at (bytes_of w n) tail w (length_bytes w n), drop_at (bytes_of w n) tail w (length_bytes w n))
    (ap₂ ◌∷◌ (word_bytes w n (ltb→lt n (256 ^ w) h.0)) (operands_back ws v rest h.1))

pub length-operands : (ws v : List ℕ) → T (fit ws v) → length (write_operands ws v) ≡ total ws
unfolding write_operands total fit
length-operands [] [] t = refl
length-operands [] (n ∷ v) t = absurd t
length-operands (w ∷ ws) [] t = absurd t
length-operands (w ∷ ws) (n ∷ v) t =
    length-append (bytes_of w n) (write_operands ws v)
    ∙ ap₂ ◌+◌ (length_bytes w n) (length-operands ws v (T_and (ltb n (256 ^ w)) (fit ws v) t).1)

-- a command is as long as its row of the table says
pub write_long : (c : Command) → length (write c) ≡ 1 + total (widths_for c)
unfolding table widths_of total bytes_of write_operands write
write_long (contractᶜ k) = refl
write_long (dateᶜ d) = refl
write_long (windowᶜ w) = refl
write_long (instructionᶜ i) = refl
write_long (defaultᶜ d) = refl
write_long (readingᶜ r) = refl
write_long (revisionᶜ v) = refl
write_long closeᶜ = refl
