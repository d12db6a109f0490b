-- Inner, and proved equal to the rules: the numbers of a month, from what settling reads off a book: terms, instructions and the table of live periods.
use Rattle.std.specs.Prelude.{cond, List, [], ◌∷◌, ◌++◌, map, ℕ, ◌+◌, ◌-◌, ◌≤◌, eqb, length, nat_abs, get_or}
use Rattle.energy.specs.Lists.{between}
use Rattle.energy.specs.Number.{Upto}
use Rattle.commands.specs.declared.entries.Instruction.{Instruction}
use Rattle.settle_terms.specs.declared.Terms.{Terms}
use Rattle.watch_step.specs.Month.{month_periods}
use Rattle.watch_month.specs.MonthOf.{column}

-- the five figures, with n instructions
abbrev pub figures_by : Terms → ℕ → List ℕ
figures_by t n = nat_abs t.kw.0 ∷ t.kind ∷ t.utilisation ∷ t.optional ∷ n ∷ []

-- 1 for a period that is marked, which is one in a live window, and 0 for any other
abbrev pub flag_by : List ℕ → ℕ → ℕ
flag_by live p = cond (eqb (get_or live p 0) 0) 0 1

-- the number of each period
unfoldable pub periods_by : List ℕ → List ℕ
periods_by live = map (flag_by live) (between 0 month_periods)

-- issue, e − U, e, cease and f of the instructions, in five columns
unfoldable pub times_by : Terms → List Instruction → List ℕ
times_by t calls =
    column (λ x. x.issue.0) calls
    ++ column (λ x. x.issue.0 + (t.response.0 - t.upminutes.0)) calls
    ++ column (λ x. x.issue.0 + t.response.0) calls
    ++ column (λ x. x.cease.0) calls
    ++ column (λ x. x.cease.0 + t.downminutes.0) calls

-- all of them: the columns stand between the figures and the periods
unfoldable pub month_by : Terms → List Instruction → List ℕ → List ℕ
month_by t calls live = figures_by t (length calls) ++ times_by t calls ++ periods_by live

-- terms whose figures are numbers of a month, and whose ramp up starts at the issue or later
pub record Figured (t : Terms) : Type 0 where
  pub kw : Upto 500000 t.kw.0
  pub start : t.upminutes.0 ≤ t.response.0
