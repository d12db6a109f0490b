-- `commands::entries::Window::input_refusal` meets its contract. Assumes nothing.
use mathlib.Core.Path.{◌≡◌, refl, sym, ◌∙◌}
use mathlib.Core.Bool.{Bool, true, false, ◌&&◌, cond}
use Rattle.std.specs.Prelude.{Ok, Err}
use Rattle.std.proofs.lemmas.Result.{err_from_is_err_and}
use borrow.Author.Tests.{not-true, not-false}
use Rattle.energy.proofs.Ranges.{contains_by, minutes_tested, u8_tested}
use Rattle.commands.specs.Input.{in_range}
use Rattle.commands.specs.Refusals.{outcome, refusal_of}
use Rattle.commands.specs.declared.entries.Command.TheVariants.{Window as windowᶜ}
use Rattle.commands.specs.declared.refusal.Refusal.TheVariants.{BadWindow}
use Rattle.commands.proofs.Input.{input_in, input_out}
use Rattle.commands.proofs.Outcomes.{Answered, refused_by, passed_by}
use Rattle.commands.proofs.entries.Window.input_refusal.Goals as goal
use Rattle.commands.proofs.entries.Window.input_refusal.Goals.{After-refuse_if}

fits : (c : After-refuse_if) → (c.contains.result && c.contains-2.result && c.contains-3.result) ≡ in_range (windowᶜ c.args.self)
fits c = λ i.
    contains_by minutes_tested _ c.new.ensures.start c.new.ensures.end c.new.ensures.exhausted c.contains.ensures.value i
    && contains_by minutes_tested _ c.new-2.ensures.start c.new-2.ensures.end c.new-2.ensures.exhausted c.contains-2.ensures.value i
    && contains_by u8_tested _ c.new-3.ensures.start c.new-3.ensures.end c.new-3.ensures.exhausted c.contains-3.ensures.value i

bad : (b : Bool) → ◌≡◌ {A = Answered} (cond b (Err BadWindow) (Ok tt)) (outcome (cond b 5 0))
unfolding outcome refusal_of
bad true = refl
bad false = refl

pub returns-in_err-refuse_if : goal.returns-in_err-refuse_if
returns-in_err-refuse_if c =
    let p = err_from_is_err_and c.from_residual.result c.from_residual.ensures.1 in
    let q = refused_by (c.in_err-refuse_if.ensures {u = tt}) in
    rw (p.1, p.2, q.1) (input_out _ (sym (fits c.before.before.before) ∙ not-true _ q.0))

pub returns : goal.returns
returns c =
    c.refuse_if-2.ensures ∙ bad _ ∙ input_in _ (sym (fits c.before.before.before) ∙ not-false _ (passed_by _ (c.in_ok-refuse_if.ensures {u = tt})))
