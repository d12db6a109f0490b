-- Proved of the rules: "The unit file", both ways: what is written reads back as itself.
use Rattle.std.specs.Prelude.{◌≡◌, Bool, true, false, ◌&&◌, List, [], ◌∷◌, ◌++◌, ℕ, ◌+◌, ◌^◌, T, ltb, pos, negsuc, length}
use Rattle.std.specs.Int.Signed.{le_z}
use Rattle.energy.specs.Lists.{all, concat_map, is_some}
use Rattle.commands.specs.Command.{on_contract, on_metered, always}
use Rattle.commands.specs.Input.{from_to_ℤ, input_refusal}
use Rattle.rules.specs.File.{table, widths_of, total, command_of, read_at, operands_of, widths_for, write, commands_from, commands_in}
use Rattle.commands.specs.declared.entries.Command.{Command}
use Rattle.rules.specs.Answer.{Got}

-- each operand fits its width
unfoldable pub fit : List ℕ → List ℕ → Bool
fit [] [] = true
fit [] (n ∷ v) = false
fit (w ∷ ws) [] = false
fit (w ∷ ws) (n ∷ v) = ltb n (256 ^ w) && fit ws v

-- contracted kW has no sign, and a reading's kW is a signed number of 4 bytes
abbrev pub sign_fits : Command → Bool
sign_fits c =
    on_contract (λ k. le_z (pos 0) k.contracted.0)
    (on_metered (λ n r. from_to_ℤ (negsuc 2147483647) (pos 2147483647) r.kw.0)
    (always true))
    c

-- a command that the operand bytes can say, in range or not
unfoldable pub fits_bytes : Command → Bool
fits_bytes c = sign_fits c && fit (widths_for c) (operands_of c)

pub record Reread : Type 0 where
  -- the table has the bytes that are commands, and no others
  pub known : (b : ℕ) (v : List ℕ) → is_some (command_of b v) ≡ is_some (widths_of b table)
  -- it is written at its whole length, and read back wherever it stands
  pub size : (c : Command) → length (write c) ≡ 1 + total (widths_for c)
  pub command :
      (before after : List ℕ) (c : Command)
      → T (fits_bytes c)
      → read_at (before ++ write c ++ after) (length before) ≡ Got c (length before + length (write c))
  -- commands written one after the other are the commands of their file
  pub file : (cs : List Command) → T (all fits_bytes cs) → commands_in (concat_map write cs) ≡ cs
  -- every command whose operands are not turned down is one
  pub ranged : (c : Command) → input_refusal c ≡ 0 → T (fits_bytes c)
  -- the commands of a file end at an end, 1 or 2: no more are found by reading on
  pub enough : (s : List ℕ) (more : ℕ) → commands_from (length s + more) s 0 ≡ commands_in s
