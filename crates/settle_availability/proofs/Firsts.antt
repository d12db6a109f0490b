-- The first windows and the first defaults of longer lists: what is known of them, and their availability, are the lists'.
use mathlib.Core.Path.{◌≡◌, refl, ◌∙◌, ap, ap₂, fun_ext}
use mathlib.Core.Bool.{Bool, ◌||◌}
use mathlib.Core.List.{List}
use Prim.Native.Nat.{ℕ, zero, suc, ◌-◌, ◌≤◌, ◌<◌}
use native.Mathlib.Omega.{arith}
use lib.ListN.{length, get_or, take}
use lib.Seq.{get_or-take, length-take-le}
use Rattle.energy.proofs.Tests.{either-eq, eq-true}
use Rattle.commands.specs.declared.entries.Default.{Default}
use Rattle.commands.specs.declared.entries.Window.{Window}
use Rattle.rules.specs.Ledger.{no_default, no_window}
use Rattle.settle_availability.specs.Paid.{window_number_of, window_of, reaches_place, counts_in, reached_to, counted_to, Placed, Spans}
use Rattle.settle_availability.specs.Paid.{entries_to, periods_to, entries_by, each_by, availability_by}

module _ (live : List ℕ) (ws : List Window) (n : ℕ) (few : n ≤ length ws) where
  pub spans_first : Spans ws n → Spans (take n ws) (length (take n ws))
  spans_first s =
      rw (length-take-le n ws few)
      (record {
        few = s.few;
        order = λ i h. rw (get_or-take n ws i no_window h) (s.order i h);
        inside = λ i h. rw (get_or-take n ws i no_window h) (s.inside i h);
      })

  module _ (reached : ℕ → Bool) where
    entries_same : (each k : ℕ) → k ≤ n → entries_to live reached each (take n ws) k ≡ entries_to live reached each ws k
    entries_same each zero h = refl
    entries_same each (suc k) h = rw (entries_same each k (omega arith), get_or-take n ws k no_window h) refl

    periods_same : (k : ℕ) → k ≤ n → periods_to live reached (take n ws) k ≡ periods_to live reached ws k
    periods_same zero h = refl
    periods_same (suc k) h = rw (periods_same k (omega arith), get_or-take n ws k no_window h) refl

    pub entries_first : (each : ℕ) → entries_by live reached each (take n ws) (length (take n ws)) ≡ entries_by live reached each ws n
    unfolding entries_by
    entries_first each = rw (length-take-le n ws few, entries_same each n (omega arith), periods_same n (omega arith)) refl

  module _ (x : Default) (own : window_number_of live x ≤ n) where
    window_same : 0 < window_number_of live x → window_of live (take n ws) x ≡ window_of live ws x
    window_same h = get_or-take n ws (window_number_of live x - 1) no_window (omega arith)

    pub placed_first : {size : ℕ} → Placed live ws size x → Placed live (take n ws) size x
    placed_first P =
        record {
          inside = P.inside;
          number = omega (arith, length-take-le n ws few);
          order = λ h. rw (window_same h) (P.order h);
          room = λ h. rw (window_same h) (P.room h);
        }

    reaches_same : (p : ℕ) → reaches_place live (take n ws) x p ≡ reaches_place live ws x p
    reaches_same p =
        either-eq (window_number_of live x) 0 (λ e. rw (eq-true (window_number_of live x) 0 e) refl) (λ e. rw (window_same (omega arith)) refl)

  module _ (ds : List Default) (d : ℕ) (own : (j : ℕ) → j < d → window_number_of live (get_or ds j no_default) ≤ n) where
    reached_same : (p k : ℕ) → k ≤ d → reached_to live (take n ws) (take d ds) k p ≡ reached_to live ws ds k p
    reached_same p zero h = refl
    reached_same p (suc k) h =
        ap₂ ◌||◌ (reached_same p k (omega arith))
        (ap (λ x. reaches_place live (take n ws) x p) (get_or-take d ds k no_default h) ∙ reaches_same (get_or ds k no_default) (own k h) p)

    counted_same : (i k : ℕ) → k ≤ d → counted_to live (take d ds) k i ≡ counted_to live ds k i
    counted_same i zero h = refl
    counted_same i (suc k) h = ap₂ ◌||◌ (counted_same i k (omega arith)) (ap (λ x. counts_in live x i) (get_or-take d ds k no_default h))

    pub availability_first : (kw rate : ℕ) → d ≤ length ds
        → availability_by live (take n ws) (length (take n ws)) (take d ds) (length (take d ds)) kw rate ≡ availability_by live ws n ds d kw rate
    unfolding availability_by each_by entries_by
    availability_first kw rate h =
        let reached : reached_to live (take n ws) (take d ds) d ≡ reached_to live ws ds d = fun_ext (λ p. reached_same p d (omega arith)) in
        let counted : counted_to live (take d ds) d ≡ counted_to live ds d = fun_ext (λ i. counted_same i d (omega arith)) in
        rw (
          length-take-le n ws few,
          length-take-le d ds h,
          reached,
          counted,
          entries_same (reached_to live ws ds d) _ n (omega arith),
          periods_same (reached_to live ws ds d) n (omega arith),
        )
        refl
