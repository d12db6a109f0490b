-- Laws for a file that arrives in pieces: what is read in a piece, and what it says of the whole file.
use mathlib.Core.Path.{◌≡◌, refl}
use mathlib.Core.List.{List, [], ◌∷◌, ◌++◌}
use mathlib.Core.Option.{some}
use Prim.Native.Nat.{ℕ, ◌+◌, ◌-◌, ◌≤◌, ◌<◌}
use native.Mathlib.Nat.{add_assoc}
use native.Mathlib.Omega.{arith}
use lib.ListN.{length, get_or, drop, length-append, length-drop, get_or-append}
use lib.Seq.{take-append-le, drop-append-le, drop-drop, get_or-drop}
use Rattle.rules.specs.File.{table, widths_of, total, operands, command_of, read_at}
use Rattle.commands.specs.declared.entries.Command.{Command}
use Rattle.file_read.proofs.Finds.{Found, ended, unknown, short, entire, found, found_reads, found_at}
use Rattle.rules.specs.Answer.{Read, Got, End}
use Rattle.commands.specs.declared.refusal.Refusal.TheVariants.{UnknownCommand}
use Rattle.std.specs.Prelude.{Err}

-- ---- a piece, and bytes after it

operands-append : (ws s t : List ℕ) → total ws ≤ length s → operands ws (s ++ t) ≡ operands ws s
unfolding operands total
operands-append [] s t h = refl
operands-append (w ∷ ws) s t h =
    let first : w ≤ length s = omega arith in
    rw (take-append-le w s t, drop-append-le w s t, operands-append ws (drop w s) t (rw length-drop (omega arith)))

module _ (p q : List ℕ) (at : ℕ) where
  same_byte : at < length p → get_or (p ++ q) at 0 ≡ get_or p at 0
  same_byte h = get_or-append p q 0 at h

  kept_got : {c : Command} {next : ℕ} → Found p at (Got c next) → Found (p ++ q) at (Got c next)
  kept_got (entire {ws} {c} h e k g) =
      let first : at + 1 ≤ length p = omega arith in
      let rest : total ws ≤ length (drop (at + 1) p) = rw length-drop (omega arith) in
      let long = length-append p q in
      let inside : at < length (p ++ q) = omega arith in
      let room : 1 + total ws ≤ length (p ++ q) - at = omega arith in
      let there : widths_of (get_or (p ++ q) at 0) table ≡ some ws = rw (same_byte h) e in
      let same : command_of (get_or (p ++ q) at 0) (operands ws (drop (at + 1) (p ++ q))) ≡ some c =
      rw (same_byte h, drop-append-le (at + 1) p q first, operands-append ws (drop (at + 1) p) q rest) g in
      entire inside there room same

  kept_unknown : Found p at (Err UnknownCommand) → Found (p ++ q) at (Err UnknownCommand)
  kept_unknown (unknown h e) = unknown (rw length-append (omega arith)) (rw (same_byte h) e)

  -- a command that a piece holds is the file's, and so is an unknown byte
  pub piece_got : {c : Command} {next : ℕ} → read_at p at ≡ Got c next → read_at (p ++ q) at ≡ Got c next
  piece_got e = found_reads (kept_got (found_at e))

  pub piece_unknown : read_at p at ≡ Err UnknownCommand → read_at (p ++ q) at ≡ Err UnknownCommand
  piece_unknown e = found_reads (kept_unknown (found_at e))

  -- where a piece ends, it has no byte
  pub piece_end : read_at p at ≡ End → length p ≤ at
  piece_end e = go (found_at e)
    where
      go : Found p at End → length p ≤ at
      go (ended h) = h

-- ---- a file from a position on

-- a read with its position moved
abbrev pub shift : ℕ → Read → Read
shift k (Got c next) = Got c (k + next)
shift k (Err r) = Err r
shift k End = End

-- what is read in a file from k on is what is read in the file k bytes later
pub read-drop : (s : List ℕ) (k at : ℕ) → read_at s (k + at) ≡ shift k (read_at (drop k s) at)
read-drop s k at = go (found (drop k s) at)
  where
    go : {r : Read} → Found (drop k s) at r → read_at s (k + at) ≡ shift k r
    go (ended h) = found_reads (ended (omega (arith, length-drop k s)))
    go (unknown h e) = found_reads (unknown (omega (arith, length-drop k s)) (rw get_or-drop at e))
    go (short {ws} h e l) = found_reads (short {ws = ws} (omega (arith, length-drop k s)) (rw get_or-drop at e) (omega (arith, length-drop k s)))
    go (entire {ws} {c} h e l g) =
        let there : widths_of (get_or s (k + at) 0) table ≡ some ws = rw get_or-drop at e in
        let same : command_of (get_or s (k + at) 0) (operands ws (drop (k + at + 1) s)) ≡ some c = rw (get_or-drop, drop-drop, ← add_assoc k at 1) at g in
        rw (← add_assoc k at (1 + total ws)) (found_reads (entire (omega (arith, length-drop k s)) there (omega (arith, length-drop k s)) same))
