-- Laws of a reader's steps, for those who read a file from its first byte to its last.
use mathlib.Core.Path.{◌≡◌, refl, sym, ap, ◌∙◌}
use mathlib.Core.Bool.{Bool, true, false, cond}
use mathlib.Core.Option.{Option, none, some, none-ne-some}
use mathlib.Core.Logic.{◌⊎◌, inl, inr}
use mathlib.Core.List.{List}
use Prim.Native.Nat.{ℕ, ◌+◌, ◌≤◌, ◌<◌}
use native.Mathlib.Omega.{arith}
use borrow.Author.Tests.{eqb-true}
use lib.Dec.{eqb}
use lib.ListN.{length, get_or, drop}
use Rattle.rules.specs.File.{total, operands, command_of, read_at, byte_of, widths_for, write}
use Rattle.commands.specs.declared.entries.Command.{Command}
use Rattle.commands.specs.declared.entries.Command.TheVariants.{Close as closeᶜ}
use Rattle.rules.proofs.Operands.{write_long}
use Rattle.file_table.proofs.Rows.{widths_most}
use Rattle.file_read.proofs.Finds.{Found, unknown, short, entire, found_at}
use Rattle.rules.specs.Answer.{Got}
use Rattle.commands.specs.declared.refusal.Refusal.{Refusal}
use Rattle.commands.specs.declared.refusal.Refusal.TheVariants.{UnknownCommand, CutOff}
use Rattle.std.specs.Prelude.{Err}

-- a command that is read ends after where it begins, and within the bytes
got_inside : {s : List ℕ} {at next : ℕ} {c : Command} → Found s at (Got c next) → (at < next) × (next ≤ length s)
got_inside (entire h e k g) = omega arith

pub got_within : (s : List ℕ) (at : ℕ) {c : Command} {next : ℕ} → read_at s at ≡ Got c next → (at < next) × (next ≤ length s)
got_within s at e = got_inside (found_at e)

-- a refusal is one of two
refused_as : {s : List ℕ} {at : ℕ} {r : Refusal} → Found s at (Err r) → (r ≡ UnknownCommand) ⊎ (r ≡ CutOff)
refused_as (unknown h e) = inl refl
refused_as (short h e k) = inr refl

pub refused_number : (s : List ℕ) (at : ℕ) {r : Refusal} → read_at s at ≡ Err r → (r ≡ UnknownCommand) ⊎ (r ≡ CutOff)
refused_number s at e = refused_as (found_at e)

-- 2 leaves fewer bytes than the longest command has
refused_left : {s : List ℕ} {at : ℕ} → Found s at (Err CutOff) → length s < at + 32
refused_left {s} {at} (short {ws} h e k) = omega (arith, widths_most (get_or s at 0) ws e)

pub refused_near : (s : List ℕ) (at : ℕ) → read_at s at ≡ Err CutOff → length s < at + 32
refused_near s at e = refused_left (found_at e)

-- ---- a command is as long as what it is written as

-- a command has the byte that it was read by
pub byte_back : (b : ℕ) (v : List ℕ) (c : Command) → command_of b v ≡ some c → byte_of c ≡ b
unfolding command_of
byte_back b v c =
    try 0x43 _ _ refl (try 0x54 _ _ refl (try 0x57 _ _ refl (try 0x49 _ _ refl (try 0x44 _ _ refl
    (try 0x4D _ _ refl (try 0x52 _ _ refl (try 0x5A closeᶜ none refl (λ e. absurd (none-ne-some c e)))))))))
  where
    try : (n : ℕ) (x : Command) (rest : Option Command) → byte_of x ≡ n → (rest ≡ some c → byte_of c ≡ b) → cond (eqb n b) (some x) rest ≡ some c → byte_of c ≡ b
    try n x rest h next = go (eqb n b) refl
      where
        go : (t : Bool) → eqb n b ≡ t → cond t (some x) rest ≡ some c → byte_of c ≡ b
        go true k e = let same : x ≡ c = cc in ap byte_of (sym same) ∙ h ∙ eqb-true n b k
        go false k e = next e

got_size : {s : List ℕ} {at next : ℕ} {c : Command} → Found s at (Got c next) → next ≡ at + length (write c)
got_size {s} {at} {c = c} (entire {ws} h e k g) =
    let widths : widths_for c ≡ ws = rw (byte_back (get_or s at 0) (operands ws (drop (at + 1) s)) c g, e) in
    ap (λ n. at + n) (sym (write_long c ∙ ap (λ x. 1 + total x) widths))

pub got_long : (s : List ℕ) (at : ℕ) {c : Command} {next : ℕ} → read_at s at ≡ Got c next → next ≡ at + length (write c)
got_long s at e = got_size (found_at e)
