-- Entering commands step by step enters them; as many reads of a file as it has bytes enter the commands that the bytes fix, and the reader stands behind
-- what it has read. By induction over the steps; where the reader stopped once, it stays.
use mathlib.Core.Path.{◌≡◌, refl, sym, ap, ◌∙◌}
use mathlib.Core.List.{List, [], ◌∷◌, ◌++◌, map, append-nil}
use Prim.Native.Nat.{ℕ, zero, suc}
use native.Mathlib.Omega.{arith}
use lib.ListN.{length, replicate}
use lib.Seq.{append_snoc}
use Rattle.energy.specs.Lists.{concat_map}
use Rattle.rules.specs.File.{read_at, read_on, write, commands_from, commands_in}
use Rattle.rules.proofs.FileLength.{written_longer}
use Rattle.commands.specs.declared.entries.Command.{Command}
use Rattle.file_read.proofs.Steps.{got_long}
use Rattle.demands.specs.Steps.{enter, read, stop, read_call, Place, outset, onwards, place_from, reads_to}
use Rattle.rules.specs.Answer.{Read, Got, End}
use Rattle.std.specs.Prelude.{Err}

module _ (file : List ℕ) where
  -- commands that are entered
  enters : (p : Place) (cs : List Command) → place_from file p (map enter cs) ≡ record { at = p.at; commands = p.commands ++ cs }
  unfolding place_from
  enters p [] = ap (λ l. record { at = p.at; commands = l }) (sym (append-nil p.commands))
  enters p (c ∷ cs) =
      enters (record { at = p.at; commands = p.commands ++ c ∷ [] }) cs ∙ ap (λ l. record { at = p.at; commands = l }) (append_snoc p.commands c cs)

  pub entered_list_lem : (cs : List Command) → place_from file outset (map enter cs) ≡ record { at = 0; commands = cs }
  entered_list_lem cs = enters outset cs

  -- a reader that stopped stays
  stays : (p : Place) (n : ℕ) (r : Read) → read_call (read_at file p.at) ≡ stop r → place_from file p (replicate n read) ≡ p
  unfolding place_from
  stays p zero r e = refl
  stays p (suc n) r e = ap (λ k. place_from file (onwards p k) (replicate n read)) e ∙ stays p n r e

  reads_commands : (n : ℕ) (p : Place) → (place_from file p (replicate n read)).commands ≡ p.commands ++ commands_from n file p.at
  unfolding place_from commands_from
  reads_commands zero p = sym (append-nil p.commands)
  reads_commands (suc n) p = go (λ q. reads_commands n q) (read_at file p.at) refl
    where
      go : ((q : Place) → (place_from file q (replicate n read)).commands ≡ q.commands ++ commands_from n file q.at)
          → (r : Read) → read_at file p.at ≡ r
          → (place_from file (onwards p (read_call r)) (replicate n read)).commands ≡ p.commands ++ read_on (λ next. commands_from n file next) r
      go rest (Got c next) e = rest (record { at = next; commands = p.commands ++ c ∷ [] }) ∙ append_snoc p.commands c (commands_from n file next)
      go rest (Err x) e = ap (λ q. q.commands) (stays p n (Err x) (ap read_call e)) ∙ sym (append-nil p.commands)
      go rest End e = ap (λ q. q.commands) (stays p n End (ap read_call e)) ∙ sym (append-nil p.commands)

  pub whole_file_lem : (reads_to file (length file)).commands ≡ commands_in file
  unfolding commands_in
  whole_file_lem = reads_commands (length file) outset

  -- the reader stands behind what the commands that it read are written as
  pub behind : (n : ℕ) (p : Place) → p.at ≡ length (concat_map write p.commands)
      → (place_from file p (replicate n read)).at ≡ length (concat_map write (place_from file p (replicate n read)).commands)
  unfolding place_from
  behind zero p h = h
  behind (suc n) p h = go (λ q i. behind n q i) (read_at file p.at) refl
    where
      go : ((q : Place) → q.at ≡ length (concat_map write q.commands)
          → (place_from file q (replicate n read)).at ≡ length (concat_map write (place_from file q (replicate n read)).commands))
          → (r : Read) → read_at file p.at ≡ r
          → (place_from file (onwards p (read_call r)) (replicate n read)).at
          ≡ length (concat_map write (place_from file (onwards p (read_call r)) (replicate n read)).commands)
      go rest (Got c next) e =
          rest (record { at = next; commands = p.commands ++ c ∷ [] }) (omega (arith, got_long file p.at e, written_longer p.commands c))
      go rest (Err x) e = rest p h
      go rest End e = rest p h
