-- Laws of commands laid out one after another in lent bytes.
use mathlib.Core.Path.{◌≡◌, refl, sym, ap, ◌∙◌}
use mathlib.Core.List.{List, [], ◌∷◌, ◌++◌, append-nil}
use Rattle.std.proofs.Common.{Result, Ok, IsOk}
use Prim.Native.Nat.{ℕ, zero, suc, ◌+◌, ◌-◌, ◌≤◌, ◌<◌}
use native.Mathlib.Nat.{le_refl}
use native.Mathlib.Omega.{arith}
use lib.ListN.{length, length-append}
use Rattle.energy.specs.Lists.{concat_map, put_at}
use Rattle.energy.proofs.Puts.{laid_none as bytes-none, laid_long as bytes-long, laid_both as bytes-both}
use Rattle.rules.specs.File.{write}
use Rattle.commands.specs.declared.entries.Command.{Command}
use Rattle.rules.proofs.Taken.{concat_map_append}
use Rattle.file_encode.specs.Write.{write_at}
use Rattle.commands.specs.declared.refusal.Refusal.{Refusal}
use Rattle.file_encode.proofs.Puts.{write_room}
use Rattle.file_write.specs.Laid.{file_bytes, Room, Laid}

-- ---- one after the other

pub bytes_one : (c : Command) → file_bytes (c ∷ []) ≡ write c
unfolding concat_map
bytes_one c = append-nil (write c)

pub length_both : (cs ds : List Command) → length (file_bytes (cs ++ ds)) ≡ length (file_bytes cs) + length (file_bytes ds)
length_both cs ds = ap length (concat_map_append write cs ds) ∙ length-append (file_bytes cs) (file_bytes ds)

-- no command changes nothing
pub laid_none : (m : List ℕ) (at : ℕ) → Laid [] m at m at
unfolding concat_map
laid_none m at = bytes-none m at

-- one command, as the unit file's writer puts it where there is room for it
module _ (c : Command) (m : List ℕ) (at : ℕ) (r : Room (c ∷ []) m at) where
  one : write_at c m at ≡ record { answer = Ok (at + length (write c)); bytes = put_at (write c) m at }
  one = write_room c m at (rw (bytes_one c) at r.fits)

  pub has_room : (w : Result ℕ Refusal) → w ≡ (write_at c m at).answer → IsOk w
  has_room w e = rw (e, one) refl

  pub laid_one : {w : Result ℕ Refusal} {next : ℕ} {after : List ℕ} → w ≡ (write_at c m at).answer → w ≡ Ok next → after ≡ (write_at c m at).bytes
      → Laid (c ∷ []) m at after next
  laid_one {w} {next} {after} e is bytes =
      let there : Ok (at + length (write c)) ≡ Ok next = sym (ap (λ x. x.answer) one) ∙ sym e ∙ is in
      record { ends = rw (bytes_one c) (cc); holds = bytes ∙ rw (one, bytes_one c) }

-- memory keeps its length
pub laid_long : {cs : List Command} {m after : List ℕ} {at next : ℕ} → Room cs m at → Laid cs m at after next → length after ≡ length m
laid_long r l = bytes-long r.fits l

-- some commands, and more after them
pub laid_then : (cs ds : List Command) {m m₁ m₂ : List ℕ} {at at₁ at₂ : ℕ} → Laid cs m at m₁ at₁ → at₁ ≤ length m → Laid ds m₁ at₁ m₂ at₂ → Laid (cs ++ ds) m at m₂ at₂
laid_then cs ds l h n = rw (concat_map_append write cs ds) (bytes-both h l n)

module _ (cs ds : List Command) {m : List ℕ} {at : ℕ} (r : Room (cs ++ ds) m at) where
  pub room_first : Room cs m at
  room_first = record { fits = omega (arith, r.fits, length_both cs ds) }

  module _ {m₁ : List ℕ} {at₁ : ℕ} (l : Laid cs m at m₁ at₁) where
    pub room_next : Room ds m₁ at₁
    room_next = record { fits = omega (arith, r.fits, length_both cs ds, laid_long room_first l, l.ends) }

    pub laid_both : {m₂ : List ℕ} {at₂ : ℕ} → Laid ds m₁ at₁ m₂ at₂ → Laid (cs ++ ds) m at m₂ at₂
    laid_both n = laid_then cs ds l (omega (arith, r.fits, length_both cs ds, l.ends)) n

-- ---- a loop that puts commands, some each turn

-- n turns: after i of them the commands `so i` are put, and turn i puts `turn i`
pub record Turns (so turn : ℕ → List Command) (n : ℕ) : Type 0 where
  pub more : (i : ℕ) → i < n → so (i + 1) ≡ so i ++ turn i

module _ {so turn : ℕ → List Command} {n : ℕ} (turns : Turns so turn n) where
  longer : (k i : ℕ) → i + k ≡ n → length (file_bytes (so i)) ≤ length (file_bytes (so n))
  longer zero i e = let same : i ≡ n = omega arith in rw same (le_refl (length (file_bytes (so n))))
  longer (suc k) i e =
      let less : i < n = omega arith in
      omega (arith, longer k (i + 1) (omega arith), ap (λ cs. length (file_bytes cs)) (turns.more i less), length_both (so i) (turn i))

  module _ {m : List ℕ} {at : ℕ} (r : Room (so n) m at) where
    pub room_so : (i : ℕ) → i ≤ n → Room (so i) m at
    room_so i h = record { fits = omega (arith, r.fits, longer (n - i) i (omega arith)) }

    module _ {i : ℕ} {out : List ℕ} {place : ℕ} (h : i < n) (l : Laid (so i) m at out place) where
      whole : Room (so i ++ turn i) m at
      whole = rw (turns.more i h) at (room_so (i + 1) (omega arith))

      pub room_turn : Room (turn i) out place
      room_turn = room_next (so i) (turn i) whole l

      pub laid_turn : {after : List ℕ} {next : ℕ} → Laid (turn i) out place after next → Laid (so (i + 1)) m at after next
      laid_turn t = rw (turns.more i h) (laid_both (so i) (turn i) whole l t)
