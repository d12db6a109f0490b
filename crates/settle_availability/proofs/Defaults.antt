-- What each default marks, put together: the tables of reached periods and of counted windows, default by default.
use mathlib.Core.Path.{◌≡◌, refl, ◌∙◌, sym, ap, fun_ext}
use mathlib.Core.Bool.{Bool, true, false, cond, not, ◌&&◌, ◌||◌, and-false}
use mathlib.Core.List.{List, [], ◌∷◌}
use Prim.Native.Nat.{ℕ, zero, suc, ◌+◌, ◌-◌, ◌≤◌, ◌<◌}
use native.Mathlib.Decide.{ℕ_discrete, dec_lt}
use native.Mathlib.Omega.{arith}
use lib.Dec.{leb, ltb}
use lib.ListN.{length, get_or, set, take, drop, replicate, length-set, length-replicate, length-drop, get_or-replicate, get_or-eq_default, get_or-append}
use lib.Seq.{get_or-set_same, get_or-set_other, get_or-take, get_or-drop, get_or-append_right, length-take-le, drop-cons}
use borrow.Author.Tests.{le-leb, lt-leb, lt-ltb, le-ltb}
use borrow.Rule.Slice.PartMut.{put_mid, same_len_mid}
use Rattle.std.proofs.Math.Bool.{or-true, or-false}
use Rattle.std.specs.Prelude.{◌≢◌}
use Rattle.std.specs.List.{count_by}
use Rattle.std.proofs.lemmas.List.Recursion.{is_count_by}
use Rattle.energy.specs.Lists.{count, run, between}
use Rattle.energy.proofs.Tests.{eq-true, eq-false}
use Rattle.commands.specs.Input.{from_to}
use Rattle.commands.specs.declared.entries.Default.{Default}
use Rattle.commands.specs.declared.entries.Window.{Window}
use Rattle.rules.specs.Ledger.{no_window}
use Rattle.settle_live.specs.Live.{Unmarked}
use Rattle.settle_availability.specs.Paid.{window_number_of, window_of, reach_from, reach_to, reaches_place, reached_to, counted_to, DefaultMarked}
use Rattle.settle_availability.specs.Paid.{DefaultsMarked, NoneMarked, Placed, marked}

-- an entry of a table of one value is that value, within it and past its end alike where it is the default
same_everywhere : {A : Type 0} (n p : ℕ) (d : A) → get_or (replicate n d) p d ≡ d
same_everywhere n p d =
    elim (dec_lt p n) [
      | yes h ↦ get_or-replicate n p d d h
      | no h ↦ get_or-eq_default (replicate n d) d (omega (arith, h, length-replicate n d))
    ]

-- a table of zeros has no mark
pub unmarked_zeros : (n : ℕ) → Unmarked (replicate n 0)
unmarked_zeros n = record { none = λ p. same_everywhere n p 0 }

-- nor has one of tests that do not hold
pub none_marked : (n : ℕ) → NoneMarked (replicate n false)
none_marked n = record { none = λ p. same_everywhere n p false }

-- a table with the places from a to b − 1 filled
module _ (xs ys : List Bool) (a b : ℕ) (h : a ≤ b) (l : b ≤ length xs) (e : ys ≡ replicate (length (take (b - a) (drop a xs))) true) where
  front : length (take a xs) ≡ a
  front = length-take-le a xs (omega arith)

  part : ys ≡ replicate (b - a) true
  part = e ∙ ap (λ n. replicate n true) (length-take-le (b - a) (drop a xs) (omega (arith, length-drop a xs)))

  long : length ys ≡ b - a
  long = ap length part ∙ length-replicate (b - a) true

  filled : (p : ℕ) → marked (put_mid a (b - a) xs ys) p ≡ (marked xs p || (leb a p && ltb p b))
  filled p =
      elim (dec_lt p a) [
        | yes q ↦
            rw (lt-leb a p q, or-false) (get_or-append (take a xs) _ false p (omega (arith, front)) ∙ get_or-take a xs p false q)
        | no q ↦
            get_or-append_right (take a xs) _ p false (omega (arith, front))
            ∙ elim (dec_lt p b) [
              | yes r ↦
                  let inside : p - length (take a xs) < b - a = omega (arith, front) in
                  rw (le-leb a p (omega arith), lt-ltb p b r, or-true)
                  (get_or-append ys _ false (p - length (take a xs)) (omega (arith, long, inside))
                  ∙ ap (λ z. get_or z (p - length (take a xs)) false) part ∙ get_or-replicate (b - a) (p - length (take a xs)) true false inside)
              | no r ↦
                  rw (le-ltb p b (omega (arith, r)), and-false, or-false)
                  (get_or-append_right ys _ (p - length (take a xs)) false (omega (arith, front, long, r))
                  ∙ get_or-drop (b - a) (drop a xs) (p - length (take a xs) - length ys) false
                  ∙ get_or-drop a xs (b - a + (p - length (take a xs) - length ys)) false
                  ∙ ap (λ z. get_or xs z false) (omega (arith, front, long, q, r)))
            ]
      ]

module _ (live : List ℕ) (ws : List Window) where
  -- one in the live window of number n, whose places from a to b − 1 are filled
  module _ (d : Default) (reached ys : List Bool) (n a b : ℕ) (P : Placed live ws (length reached) d) (h : n ≢ 0) (en : n ≡ window_number_of live d)
      (ea : a ≡ reach_from (get_or ws (n - 1) no_window) d) (eb : b ≡ reach_to (get_or ws (n - 1) no_window) d)
      (e : ys ≡ replicate (length (take (b - a) (drop a reached))) true) where
    above : 0 < window_number_of live d
    above = omega arith

    from : a ≡ reach_from (window_of live ws d) d
    from = ea ∙ ap (λ z. reach_from (get_or ws (z - 1) no_window) d) en

    to : b ≡ reach_to (window_of live ws d) d
    to = eb ∙ ap (λ z. reach_to (get_or ws (z - 1) no_window) d) en

    reached_marked : (p : ℕ) → marked (put_mid a (b - a) reached ys) p ≡ (marked reached p || reaches_place live ws d p)
    reached_marked p =
        filled reached ys a b (omega (arith, from, to, P.order above)) (omega (arith, to, P.room above)) e p
        ∙ rw (from, to, eq-false (window_number_of live d) 0 (λ q. omega arith)) refl

    same_long : length (put_mid a (b - a) reached ys) ≡ length reached
    same_long = same_len_mid a (b - a) reached ys (ap length e ∙ length-replicate (length (take (b - a) (drop a reached))) true)

    -- one that counts for P marks its window
    pub default_counted : (counted : List Bool) → length ws ≤ length counted → from_to 1 3 d.kind ≡ true
        → DefaultMarked live ws d reached (put_mid a (b - a) reached ys) counted (set counted (n - 1) true)
    default_counted counted l k =
        record {
          same = (same_long, length-set counted (n - 1) true);
          period = reached_marked;
          window = λ i.
              elim (ℕ_discrete n (suc i)) [
                | yes e ↦
                    let q : n - 1 ≡ i = omega arith in
                    rw (k, eq-true (window_number_of live d) (suc i) (omega arith), or-true, q)
                    (get_or-set_same counted i true false (omega (arith, P.number)))
                | no e ↦
                    rw (k, eq-false (window_number_of live d) (suc i) (λ q. e (omega arith)), or-false)
                    (get_or-set_other counted (n - 1) i true false (λ q. e (omega arith)))
              ];
        }

    -- one of delivery does not
    pub default_reached : (counted : List Bool) → from_to 1 3 d.kind ≡ false
        → DefaultMarked live ws d reached (put_mid a (b - a) reached ys) counted counted
    default_reached counted k = record { same = (same_long, refl); period = reached_marked; window = λ i. rw (k, or-false) refl }

module _ {live : List ℕ} {ws : List Window} {ds : List Default} where
  -- the tables as tests
  pub reached_table : {n : ℕ} {reached counted : List Bool} → DefaultsMarked live ws ds n reached counted → marked reached ≡ reached_to live ws ds n
  reached_table s = fun_ext s.period

  pub counted_table : {n : ℕ} {reached counted : List Bool} → DefaultsMarked live ws ds n reached counted → marked counted ≡ counted_to live ds n
  counted_table s = fun_ext s.window

-- ---- how many places of a table pass a test, counted in the list and by the places
module _ (f : Bool → Bool) where
  listed : (xs : List Bool) → count f xs ≡ count_by f xs
  unfolding count
  listed = is_count_by (count f) f refl (λ x xs. go (f x) (count f xs))
    where
      go : (v : Bool) (n : ℕ) → ◌≡◌ {A = ℕ} (elim v [ true ↦ suc n | false ↦ n ]) (cond v (1 + n) n)
      go true n = omega arith
      go false n = refl

  placed : (xs : List Bool) (a n : ℕ) → a + n ≤ length xs → count f (take n (drop a xs)) ≡ count (λ p. f (marked xs p)) (run a n)
  unfolding count run
  placed xs a zero h = refl
  placed xs a (suc n) h =
      rw (drop-cons xs a false (omega arith)) (go (f (marked xs a)) (placed xs (suc a) n (omega arith)))
    where
      go : (v : Bool) {x y : ℕ} → x ≡ y → ◌≡◌ {A = ℕ} (elim v [ true ↦ suc x | false ↦ x ]) (elim v [ true ↦ suc y | false ↦ y ])
      go true e = ap suc e
      go false e = e

  -- of the places from a to b − 1
  pub counted_places : (xs : List Bool) (a b : ℕ) → a ≤ b → b ≤ length xs
      → count_by f (take (b - a) (drop a xs)) ≡ count (λ p. f (marked xs p)) (between a b)
  unfolding between
  counted_places xs a b h l = sym (listed (take (b - a) (drop a xs))) ∙ placed xs a (b - a) (omega arith)

  -- of the first n places
  pub counted_first : (xs : List Bool) (n : ℕ) → n ≤ length xs → count_by f (take n xs) ≡ count (λ p. f (marked xs p)) (between 0 n)
  counted_first xs n h = let e : n ≡ n - 0 = omega arith in ap (λ m. count_by f (take m xs)) e ∙ counted_places xs 0 n (omega arith) h

-- where none is marked, all of them count
pub all_counted : (xs : List Bool) → NoneMarked xs → count_by not xs ≡ length xs
unfolding count
all_counted xs h = sym (listed not xs) ∙ go xs h.none
  where
    go : (ys : List Bool) → ((p : ℕ) → marked ys p ≡ false) → count not ys ≡ length ys
    go [] e = refl
    go (y ∷ ys) e = rw (e 0) (ap suc (go ys (λ p. e (suc p))))
