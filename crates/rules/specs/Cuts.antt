-- Inner, and proved equal to the rules: stages, segments and their number from three minutes of an instruction alone, as the code works them out.
use Rattle.std.specs.Prelude.{cond, ℕ, ◌+◌, ◌-◌, ◌*◌, ◌/◌, min, ltb}
use Rattle.rules.specs.declared.statement.Stage.{Stage}
use Rattle.rules.specs.declared.statement.Stage.TheVariants.{Up, Steady, Down}

-- the stage of minute m: e is the expiry of the response, c the cease
abbrev pub stage_at : ℕ → ℕ → ℕ → Stage
stage_at e c m = cond (ltb m e) Up (cond (ltb m c) Steady Down)

-- the end of the stage of minute m: f is the end of the instruction
abbrev pub stage_end : ℕ → ℕ → ℕ → ℕ → ℕ
stage_end e c f m = cond (ltb m e) e (cond (ltb m c) c f)

-- the end of the segment that begins at minute m: that of its stage or of its period, whichever is first
unfoldable pub cut_of : ℕ → ℕ → ℕ → ℕ → ℕ
cut_of e c f m = min (stage_end e c f m) (30 * (m / 30) + 30)

-- the periods that the minutes from a to b - 1 touch
unfoldable pub touched : ℕ → ℕ → ℕ
touched a b = cond (ltb a b) ((b - 1) / 30 - a / 30 + 1) 0
