-- The caller's two slices, lent on from call to call: what one call leaves (`Same`) and then another. Over plain values, from which the two are known.
use mathlib.Core.Path.{◌≡◌, ◌∙◌}

pub same_on : {A B : Type 0} {a b c : A} {d e f : B} → (b ≡ a) × (e ≡ d) → (c ≡ b) × (f ≡ e) → (c ≡ a) × (f ≡ d)
same_on p q = (q.0 ∙ p.0, q.1 ∙ p.1)
