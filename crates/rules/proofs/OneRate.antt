-- The rate is the same throughout a segment: windows of whole periods hold all minutes of a period or none.
use mathlib.Core.Path.{◌≡◌, refl, sym, ap, ap₂, ◌∙◌, subst}
use mathlib.Core.Bool.{Bool, cond, ◌&&◌, ◌||◌}
use mathlib.Core.List.{List, [], ◌∷◌, Memᴰ}
use Prim.Native.Nat.{ℕ, ◌%◌}
use native.Mathlib.Omega.{arith}
use lib.Dec.{T, leb, ltb, eqb, leb→le, le→leb, ltb→lt, lt→ltb, eqb→eq}
use Rattle.energy.specs.Lists.{any}
use Rattle.energy.proofs.Tests.{T_and, same_test}
use Rattle.rules.specs.Ledger.{Ledger, ledger_of, contract_of, span_in, within}
use Rattle.rules.specs.Refusal.{taken}
use Rattle.rules.specs.Segment.{period_of, stage_of, same_stage, alike, active, live, in_live, anchor, rate_at, Segment, segments}
use Rattle.rules.specs.Reached.{windows_sound, Reached}
use Rattle.rules.specs.Reached.Reached.{untouched, agreed}
use Rattle.rules.specs.Lines.{OneRate, OneRate·theorem}
use Rattle.commands.specs.declared.contract.Contract.{Contract}
use Rattle.commands.specs.declared.entries.Window.{Window}
use Rattle.commands.specs.declared.entries.Instruction.{Instruction}
use Rattle.rules.specs.declared.statement.Stage.{Stage}
use Rattle.rules.specs.declared.statement.Stage.TheVariants.{Up, Steady, Down}
use Rattle.rules.specs.declared.statement.Rate.TheVariants.{Utilisation, Optional}
use Rattle.rules.proofs.Lists.{kept_was}
use Rattle.rules.proofs.Cuts.{same_stage_lem}
use Rattle.rules.proofs.Tables.{windows-cons}
use Rattle.rules.proofs.Reached.{parts_of, reached}
use Rattle.rules.proofs.Partition.{segment_from_lem}

-- windows of whole periods
unfoldable pub Whole : List Window → Type 0
Whole [] = Unit {0}
Whole (w ∷ ws) = (w.start.0 % 30 ≡ 0) × (w.end.0 % 30 ≡ 0) × Whole ws

-- ---- minutes of one period stand in the same windows

module _ (m n : ℕ) (e : period_of m ≡ period_of n) where
  same_leb : (a : ℕ) → a % 30 ≡ 0 → leb a m ≡ leb a n
  same_leb a z = same_test (leb a m) (leb a n) (λ t. le→leb a n (omega (arith, leb→le a m t))) (λ t. le→leb a m (omega (arith, leb→le a n t)))

  same_ltb : (a : ℕ) → a % 30 ≡ 0 → ltb m a ≡ ltb n a
  same_ltb a z = same_test (ltb m a) (ltb n a) (λ t. lt→ltb n a (omega (arith, ltb→lt m a t))) (λ t. lt→ltb m a (omega (arith, ltb→lt n a t)))

  same_any : (f : Window → Bool) (ws : List Window) → Whole ws → any (λ w. within w m && f w) ws ≡ any (λ w. within w n && f w) ws
  unfolding any Whole
  same_any f [] h = refl
  same_any f (w ∷ ws) h =
      ap₂ ◌||◌ (ap (λ x. x && f w) (ap₂ ◌&&◌ (same_leb w.start.0 h.0) (same_ltb w.end.0 h.1))) (same_any f ws h.2)

  pub same_live : (g : Ledger) → Whole g.windows → in_live g m ≡ in_live g n
  unfolding in_live
  same_live g h = same_any (live g) g.windows h

-- ---- minutes alike have the same rate

anchored : (g : Ledger) (i : Instruction) (s : Stage) (m n : ℕ) → in_live g m ≡ in_live g n
    → in_live g (anchor (contract_of g) i s m) ≡ in_live g (anchor (contract_of g) i s n)
anchored g i Up m n e = refl
anchored g i Steady m n e = e
anchored g i Down m n e = refl

pub same_rate : (g : Ledger) (i : Instruction) (m n : ℕ) → Whole g.windows → T (alike (contract_of g) i m n) → rate_at g i n ≡ rate_at g i m
unfolding alike rate_at
same_rate g i m n w h =
    let k : Contract = contract_of g in
    let q = T_and (eqb (period_of m) (period_of n)) (same_stage (stage_of k i m) (stage_of k i n)) h in
    let s : stage_of k i m ≡ stage_of k i n = same_stage_lem (stage_of k i m) (stage_of k i n) q.1 in
    let l : in_live g m ≡ in_live g n = same_live m n (eqb→eq (period_of m) (period_of n) q.0) g w in
    sym
    (ap₂ (λ a b. cond (a || b) Utilisation Optional) l
    (anchored g i (stage_of k i m) m n l ∙ ap (λ s. in_live g (anchor k i s n)) s))

-- ---- a segment's minutes are like its head

pub whole_rate : (g : Ledger) → Whole g.windows → OneRate g
unfolding segments
whole_rate g w s h m q =
    let k : Contract = contract_of g in
    let e = (segment_from_lem k g.instructions 1 s h).same in
    same_rate g s.instruction s.head m w
    (kept_was (alike k s.instruction s.head) (active k s.instruction) (subst (λ (s : Segment). Memᴰ m s.minutes) e q)).1

-- ---- every window taken is of whole periods

whole-sound : (k : Contract) (span e : ℕ) (ws : List Window) → T (windows_sound k span e ws) → Whole ws
unfolding Whole
whole-sound k span e [] t = tt
whole-sound k span e (w ∷ ws) t =
    let q = windows-cons k span e w ws t in
    (q.0.start, q.0.end, whole-sound k span w.end.0 ws q.1)

pub whole : {size : ℕ} (g : Ledger) → Reached size g → Whole g.windows
unfolding Whole
whole g (untouched u) = subst Whole (sym u.windows) tt
whole g (agreed a) = whole-sound (contract_of g) (span_in g) 0 g.windows (parts_of a).windows

pub one_rate : OneRate·theorem
one_rate size cs = whole_rate (ledger_of (taken size cs)) (whole (ledger_of (taken size cs)) (reached size cs))
