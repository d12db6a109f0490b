-- How a read comes about: the four things that a reader can find at a position, and what each says of the bytes.
use mathlib.Core.Path.{◌≡◌, refl, sym, ap, ◌∙◌}
use mathlib.Core.Bool.{Bool, true, false, false≢true}
use mathlib.Core.List.{List}
use mathlib.Core.Option.{Option, none, some}
use Prim.Native.Nat.{ℕ, ◌+◌, ◌-◌, ◌≤◌, ◌<◌}
use borrow.Author.Tests.{le-leb, lt-leb, lt-ltb, le-ltb, leb-true, leb-false, ltb-true, ltb-false}
use lib.Dec.{leb, ltb}
use lib.ListN.{length, get_or, drop}
use Rattle.energy.specs.Lists.{is_some}
use Rattle.commands.specs.declared.entries.Command.{Command}
use Rattle.rules.proofs.Reread.{reread}
use Rattle.rules.specs.File.{table, widths_of, total, operands, command_of, read_as, read_at}
use Rattle.rules.specs.Answer.{Read, Got, End}
use Rattle.commands.specs.declared.refusal.Refusal.TheVariants.{UnknownCommand, CutOff}
use Rattle.std.specs.Prelude.{Err}

pub data Found (s : List ℕ) (at : ℕ) : Read → Type 0 where
  ended : length s ≤ at → Found s at End
  unknown : at < length s → widths_of (get_or s at 0) table ≡ none → Found s at (Err UnknownCommand)
  short : {ws : List ℕ} → at < length s → widths_of (get_or s at 0) table ≡ some ws → length s - at < 1 + total ws → Found s at (Err CutOff)
  entire : {ws : List ℕ} {c : Command} → at < length s → widths_of (get_or s at 0) table ≡ some ws → 1 + total ws ≤ length s - at
      → command_of (get_or s at 0) (operands ws (drop (at + 1) s)) ≡ some c
      → Found s at (Got c (at + (1 + total ws)))

-- what is found is what the rules read
pub found_reads : {s : List ℕ} {at : ℕ} {r : Read} → Found s at r → read_at s at ≡ r
unfolding read_at
found_reads (ended h) = rw (le-leb _ _ h)
found_reads (unknown h e) = rw (lt-leb _ _ h, e)
found_reads (short h e k) = rw (lt-leb _ _ h, e, lt-ltb _ _ k)
found_reads (entire h e k g) = rw (lt-leb _ _ h, e, le-ltb _ _ k, g)

-- a whole command of the table, whatever it says
pub entire-reads : (s : List ℕ) (at : ℕ) → at < length s → (ws : List ℕ) → widths_of (get_or s at 0) table ≡ some ws → 1 + total ws ≤ length s - at
    → read_as (command_of (get_or s at 0) (operands ws (drop (at + 1) s))) (at + (1 + total ws)) ≡ read_at s at
unfolding read_at
entire-reads s at h ws e k = rw (lt-leb _ _ h, e, le-ltb _ _ k)

-- at every position something is found
record Finds (s : List ℕ) (at : ℕ) : Type 0 where
  read : Read
  is : Found s at read

finds : (s : List ℕ) (at : ℕ) → Finds s at
unfolding is_some
finds s at = outside (leb (length s) at) refl
  where
    -- a byte of the table is a command's
    there : (ws : List ℕ) (o : Option Command) → at < length s → widths_of (get_or s at 0) table ≡ some ws → 1 + total ws ≤ length s - at
        → command_of (get_or s at 0) (operands ws (drop (at + 1) s)) ≡ o
        → Finds s at
    there ws none h e k g = absurd (false≢true (ap is_some (sym g) ∙ reread.known (get_or s at 0) (operands ws (drop (at + 1) s)) ∙ ap is_some e))
    there ws (some c) h e k g = record { read = _; is = entire h e k g }

    room : (ws : List ℕ) (t : Bool) → at < length s → widths_of (get_or s at 0) table ≡ some ws → ltb (length s - at) (1 + total ws) ≡ t → Finds s at
    room ws true h e k = record { read = _; is = short h e (ltb-true _ _ k) }
    room ws false h e k = there ws (command_of (get_or s at 0) (operands ws (drop (at + 1) s))) h e (ltb-false _ _ k) refl

    inside : (o : Option (List ℕ)) → at < length s → widths_of (get_or s at 0) table ≡ o → Finds s at
    inside none h e = record { read = _; is = unknown h e }
    inside (some ws) h e = room ws (ltb (length s - at) (1 + total ws)) h e refl

    outside : (t : Bool) → leb (length s) at ≡ t → Finds s at
    outside true e = record { read = _; is = ended (leb-true _ _ e) }
    outside false e = inside (widths_of (get_or s at 0) table) (leb-false _ _ e) refl

pub found : (s : List ℕ) (at : ℕ) → Found s at (read_at s at)
found s at = let f = finds s at in rw (found_reads f.is) f.is

-- a read that is known
pub found_at : {s : List ℕ} {at : ℕ} {r : Read} → read_at s at ≡ r → Found s at r
found_at {s} {at} e = rw e at (found s at)
