-- `host_sums::put_entries` meets its contract. The invariant: the pairs of the first i windows are laid from the front.
use Rattle.std.proofs.Common.{◌≡◌, ◌∙◌, List, [], ◌∷◌, ℕ, suc, ◌+◌, ◌*◌, ◌≤◌, ◌<◌, ℤ, pos, length, get_or, take, drop, set, append-nil, add-one, arith, rules}
use lib.ListN.{drop_of_length-le}
use lib.Seq.{sets-eq, take_all, take-suc}
use Rattle.energy.specs.Lists.{concat_map, put_at, Laid}
use Rattle.energy.proofs.Puts.{laid_none, laid_both, laid_long}
use Rattle.rules.specs.Statement.{nothing}
use Rattle.rules.specs.declared.statement.Available.{Available}
use Rattle.rules.proofs.Folds.{concat_map_snoc}
use Rattle.host_sums.specs.Sums.{pair_of}
use Rattle.host_sums.proofs.put_entries.Goals as goal

-- one window more: two stores lay its pair
pair-next :
    (s m : List ℤ) (l : List Available) (i : ℕ) (d : Available) (x y : ℤ) → 2 * i + 2 ≤ length s → i < length l
    → Laid (concat_map pair_of (take i l)) s 0 m (2 * i) → x ≡ pos (get_or l i d).periods → y ≡ (get_or l i d).pence.0
    → Laid (concat_map pair_of (take (i + 1) l)) s 0 (set (set m (2 * i) x) (2 * i + 1) y) (2 * (i + 1))
unfolding put_at
pair-next s m l i d x y h k p ex ey =
    let long = laid_long (omega (arith, p.ends)) p in
    let pair : Laid (x ∷ y ∷ []) m (2 * i) (set (set m (2 * i) x) (suc (2 * i)) y) (2 * suc i) =
    record { ends = omega arith; holds = sets-eq (x ∷ y ∷ []) m (2 * i) (omega arith) } in
    rw (add-one (2 * i), add-one i, take-suc l i d k, concat_map_snoc pair_of (take i l) (get_or l i d), ← ex, ← ey) (laid_both (omega arith) p pair)

pub loop-i-init : goal.loop-i-init
unfolding concat_map
loop-i-init c = laid_none _ 0

pub loop-i-preserved : goal.loop-i-preserved
loop-i-preserved c =
    let l = c.loop-i in
    pair-next c.args.pairs.now l.pairs c.args.entries.now l.i nothing _ _ (omega arith) (omega arith) l.invariant (search rules) (search rules)

pub returns : goal.returns
unfolding put_at
returns c =
    let laid = rw (take_all c.loop-i.i c.args.entries.now (omega arith)) at c.loop-i.invariant in
    let past : drop (0 + length (concat_map pair_of c.args.entries.now)) c.args.pairs.now ≡ [] =
    drop_of_length-le c.args.pairs.now (omega (arith, laid.ends)) in
    laid.holds ∙ rw past (append-nil _)
