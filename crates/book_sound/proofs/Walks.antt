-- One turn of the walks over windows and instructions.
use Rattle.std.proofs.Common.{◌≡◌, ℕ, ◌+◌, ◌<◌, ◌&&◌, List, [], ◌∷◌, length, drop, get_or, add-one}
use mathlib.Core.Bool.{not, and-true, and_assoc}
use Rattle.std.proofs.Math.Seq.{drop-cons}
use mathlib.Core.Path.{ap, sym, ◌∙◌}
use mathlib.Core.Bool.{true}
use Rattle.energy.proofs.Tests.{on_and}
use Rattle.energy.specs.Lists.{all, pass}
use Rattle.rules.specs.Ledger.{end_of}
use Rattle.commands.specs.Input.{in_range, ramp_too_long, input_refusal}
use Rattle.rules.specs.Reached.{windows_sound, instructions_sound, default_sound, agreed_tests}
use Rattle.commands.specs.declared.contract.Contract.{Contract}
use Rattle.commands.specs.declared.entries.Window.{Window}
use Rattle.commands.specs.declared.entries.Instruction.{Instruction}
use Rattle.commands.specs.declared.entries.Default.{Default}
use Rattle.commands.specs.declared.entries.Command.TheVariants.{Contract as contractᶜ}
use Rattle.commands.proofs.Input.{input_ok}
use Rattle.commands.specs.Refusals.{outcome}
use Rattle.std.specs.Prelude.{is_ok}

-- windows from one on: it fits after a minute, and those after it fit after its end
pub windows_turn : (k : Contract) (span e : ℕ) (ws : List Window) (i : ℕ) (d : Window) → i < length ws
    → windows_sound k span e (drop i ws)
    ≡ (windows_sound k span e (get_or ws i d ∷ []) && windows_sound k span (get_or ws i d).end.0 (drop (i + 1) ws))
unfolding windows_sound
windows_turn k span e ws i d h = rw (add-one, drop-cons ws i d, and-true)

-- the same of instructions, which recover
pub instructions_turn : (k : Contract) (span e : ℕ) (is : List Instruction) (i : ℕ) (d : Instruction) → i < length is
    → instructions_sound k span e (drop i is)
    ≡ (instructions_sound k span e (get_or is i d ∷ []) && instructions_sound k span (end_of k (get_or is i d) + k.recovery.0) (drop (i + 1) is))
unfolding instructions_sound
instructions_turn k span e is i d h = rw (add-one, drop-cons is i d, and-true)

-- ---- all entries under a contract

-- no refusal from the input
contract_input : (k : Contract) → is_ok (outcome (input_refusal (contractᶜ k))) ≡ (in_range (contractᶜ k) && not (ramp_too_long (contractᶜ k)))
contract_input k = input_ok (contractᶜ k) ∙ ap (λ b. in_range (contractᶜ k) && b) (and-true (not (ramp_too_long (contractᶜ k))))

pub contract_fits : (k : Contract) → is_ok (outcome (input_refusal (contractᶜ k))) ≡ true → in_range (contractᶜ k) ≡ true
contract_fits k e =
    (on_and (in_range (contractᶜ k)) (not (ramp_too_long (contractᶜ k))) (sym (contract_input k) ∙ e)).0

pub agreed_apart : (k : Contract) (span : ℕ) (ws : List Window) (is : List Instruction) (ds : List Default)
    → pass (agreed_tests k span ws is ds)
    ≡ (is_ok (outcome (input_refusal (contractᶜ k))) && windows_sound k span 0 ws && instructions_sound k span 0 is && all (default_sound k span ws) ds)
unfolding agreed_tests pass
agreed_apart k span ws is ds = rw (contract_input k) (simp (and_assoc, and-true))
