-- `commands::contract::Contract::input_refusal` meets its contract. Only a contract in its ranges has its ramps computed. Assumes nothing.
use mathlib.Core.Path.{◌≡◌, refl, sym, ◌∙◌}
use mathlib.Core.Bool.{Bool, true, false, cond}
use Rattle.std.specs.Prelude.{Ok, Err}
use Rattle.std.proofs.lemmas.Result.{err_from_is_err_and}
use borrow.Author.Tests.{not-true, not-false}
use Rattle.commands.specs.Input.{in_range}
use Rattle.commands.specs.Refusals.{outcome, refusal_of}
use Rattle.commands.specs.declared.entries.Command.TheVariants.{Contract as contractᶜ}
use Rattle.commands.specs.declared.refusal.Refusal.TheVariants.{RampTooLong}
use Rattle.commands.proofs.Input.{input_in, input_out}
use Rattle.commands.proofs.Outcomes.{Answered, refused_by, passed_by}
use Rattle.commands.proofs.contract.Contract.input_refusal.Goals as goal
use Rattle.commands.proofs.contract.Contract.input_refusal.Goals.{In_ok-refuse_if}

-- past the first test the operands are in their ranges
fits : (c : In_ok-refuse_if) → in_range (contractᶜ c.args.self) ≡ true
fits c = sym c.in_range.ensures ∙ not-false _ (passed_by _ (c.in_ok-refuse_if.ensures {u = tt}))

long : (b : Bool) → ◌≡◌ {A = Answered} (cond b (Err RampTooLong) (Ok tt)) (outcome (cond b 4 0))
unfolding outcome refusal_of
long true = refl
long false = refl

pub returns-in_err-refuse_if : goal.returns-in_err-refuse_if
returns-in_err-refuse_if c =
    let p = err_from_is_err_and c.from_residual.result c.from_residual.ensures.1 in
    let q = refused_by (c.in_err-refuse_if.ensures {u = tt}) in
    rw (p.1, p.2, q.1) (input_out _ (sym c.in_range.ensures ∙ not-true _ q.0))

pub returns : goal.returns
returns c =
    rw (c.ramp_up_minutes-up.ensures, c.ramp_down_minutes-down.ensures) at c.refuse_if-2.ensures
    ∙ long _
    ∙ input_in (contractᶜ c.args.self) (fits c.before.before.before.before)
