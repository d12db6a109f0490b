-- The last entry of a table, as the library reads it off a slice.
use Rattle.std.proofs.Common.{◌≡◌, suc, ◌+◌, ◌-◌, List, [], ◌∷◌, Some, length, get_or, slice_get, refl, sym, ap, ◌∙◌, arith, unwrap_or}
use Rattle.std.proofs.lemmas.Option.{get_or_from_slice_get, slice_get_within, unwrap_or-slice_get}
use Rattle.energy.specs.Lists.{last}
use Rattle.commands.specs.declared.contract.Contract.{Contract}
use Rattle.commands.specs.declared.entries.Instruction.{Instruction}
use Rattle.rules.specs.Ledger.{end_of}
use Rattle.rules.specs.Refusal.{recovered}
use Rattle.rules.proofs.Lists.{get_d_within}

last_at : {A : Type 0} (d : A) (l : List A) → last d l ≡ get_or l (length l - 1) d
unfolding last
last_at d [] = refl
last_at d (x ∷ []) = refl
last_at d (x ∷ y ∷ l) =
    let place : length (x ∷ y ∷ l) - 1 ≡ suc (length (y ∷ l) - 1) = omega arith in
    rw place (last_at x (y ∷ l) ∙ get_d_within (y ∷ l) (length (y ∷ l) - 1) x d (omega arith))

-- or what stands in for it where there is none
pub last_read : {A : Type 0} (d : A) (l : List A) → last d l ≡ unwrap_or (slice_get l (length l - 1)) d
last_read d l = last_at d l ∙ sym (unwrap_or-slice_get l (length l - 1) d)

-- when an instruction may be issued, by the last one
pub recovered_read : (k : Contract) (is : List Instruction) (i : Instruction) → slice_get is (length is - 1) ≡ Some i
    → recovered k is ≡ end_of k i + k.recovery.0
unfolding last
recovered_read k [] i e = absurd (omega (arith, slice_get_within [] 0 i e))
recovered_read k (x ∷ is) i e = ap (λ (j : Instruction). end_of k j + k.recovery.0) (last_at x (x ∷ is) ∙ get_or_from_slice_get (x ∷ is) (length (x ∷ is) - 1) i x e)
