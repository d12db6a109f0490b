-- `host_sums::put_sums` meets its contract: the pairs behind the totals.
use Rattle.std.proofs.Common.{◌≡◌, refl, List, ◌++◌, ℕ, ◌+◌, ℤ, length, drop, append_assoc, ◌∙◌}
use borrow.Rule.Slice.PartMut.{put_mid}
use lib.Seq.{take_at, drop_at, drop-drop}
use Rattle.energy.specs.Lists.{concat_map}
use Rattle.host_sums.specs.Sums.{pair_of, sums_of, totals_of}
use Rattle.host_sums.proofs.put_sums.Goals as goal

-- the part behind the first a numbers, put anew
put-behind : (a k : ℕ) (ts ys s : List ℤ) → length ts ≡ a → put_mid a k (ts ++ drop a s) ys ≡ ts ++ ys ++ drop (a + k) s
put-behind a k ts ys s e =
    rw (take_at ts (drop a s) a e, drop_at ts (drop a s) a e, drop-drop k a s, append_assoc ts ys (drop (a + k) s)) refl

pub returns : goal.returns
unfolding sums_of
returns c =
    (λ i. put_mid 6 256 (c.put_totals.ensures i) (c.put_entries.ensures i))
    ∙ put-behind 6 256 (totals_of c.args.s.now c.args.windows) (concat_map pair_of c.args.s.now.windows) c.args.sums.now (λ i. 6)
