-- `settle_availability::paid::availability` meets its contract: the tables that the defaults mark, read as tests, are the definitions'. Assumes nothing.
use mathlib.Core.Bool.{Bool}
use mathlib.Core.List.{List}
use mathlib.Core.Path.{◌≡◌, ◌∙◌}
use Prim.Native.Nat.{ℕ, ◌≤◌, min}
use native.Mathlib.Omega.{arith}
use lib.IntN.{ℤ, nat_abs}
use lib.ListN.{length, take}
use Rattle.std.proofs.Common.{rules}
use Rattle.std.specs.List.{count_by}
use Rattle.commands.specs.declared.entries.Default.{Default}
use Rattle.commands.specs.declared.entries.Window.{Window}
use Rattle.energy.specs.Energy.{period_parts, pence_of_parts}
use Rattle.settle_terms.specs.Terms.{period_places}
use Rattle.settle_availability.specs.declared.paid.Entries.{Entries}
use Rattle.settle_availability.specs.Paid.{DefaultsMarked, availability_by, each_by, entries_by, marked}
use Rattle.settle_availability.proofs.Defaults.{none_marked, counted_first, reached_table, counted_table}
use Rattle.settle_availability.proofs.Firsts.{spans_first, entries_first}
use Rattle.settle_availability.proofs.paid.availability.Goals as goal

pub mark_defaults-requires : goal.mark_defaults-requires
mark_defaults-requires c = let s = c.requires.spans in (s.4, s.2, none_marked period_places, none_marked 128)

pub entries_of-requires : goal.entries_of-requires
entries_of-requires c = search (spans_first, rules)

-- the entries, from the tables read as tests
whole : (live : List ℕ) (windows : List Window) (n : ℕ) (defaults : List Default) (d kw rate p : ℕ) (reached counted : List Bool) (each : ℤ) (r : Entries)
    → DefaultsMarked live windows defaults d reached counted → n ≤ length counted → p ≡ min 30 (count_by (λ c. c) (take n counted))
    → each ≡ pence_of_parts (period_parts kw rate p)
    → r ≡ entries_by live (marked reached) (nat_abs each) windows n → r ≡ availability_by live windows n defaults d kw rate
unfolding availability_by each_by
whole live windows n defaults d kw rate p reached counted each r m h ep ee er =
    rw (er, ee, ep, counted_first (λ c. c) counted n h, reached_table m, counted_table m)

pub returns : goal.returns
returns c =
    let a = c.args in
    let m = c.mark_defaults.ensures in
    let s = c.requires.spans in
    let e = c.entries_of.ensures in (
      whole a.live.now a.windows.now a.n a.defaults.now _ (nat_abs a.kw.0) a.rate _ _ _ _ _ m.0
          (omega (arith, m.2, s.0.few)) c.penalty-p.ensures.0 c.period_pence-each.ensures.0
          (e.0 ∙ entries_first a.live.now a.windows.now a.n s.1 _ _),
      e.1,
    )
