-- A reading of either kind as the bytes say it, its kW raised and lowered again: the same reading where a cell takes it, and none where none does.
use mathlib.Core.Path.{◌≡◌, refl, sym, ap, ◌∙◌, subst}
use mathlib.Core.Bool.{Bool, true, false, not, ◌&&◌, cond}
use mathlib.Core.List.{List, [], ◌∷◌}
use mathlib.Core.Option.{none, some, none-ne-some}
use Prim.Native.Nat.{ℕ, suc, ◌+◌, ◌-◌, ◌%◌, ◌^◌, ◌≤◌, ◌<◌}
use native.Mathlib.Nat.{add-zero}
use native.Mathlib.Omega.{arith}
use borrow.Author.Tests.{ltb-true, ltb-false, lt-leb, eqb-true}
use lib.IntN.{ℤ, pos, negsuc, ◌-ℤ◌}
use lib.Dec.{T, eqb, ltb}
use Rattle.energy.proofs.Tests.{T_and, to-T}
use lib.ListN.{length, get_or, take, drop, length-drop}
use lib.Seq.{drop-drop, get_or-drop}
use Rattle.energy.proofs.Integers.{arith_ℤ, diff_parts}
use Rattle.commands.specs.Input.{is_reading, from_to, meterable, input_refusal, most_minute}
use Rattle.commands.specs.declared.entries.Reading.{Reading}
use Rattle.commands.specs.declared.entries.Command.{Command}
use Rattle.commands.specs.declared.entries.Command.TheVariants.{Reading as readingᶜ, Revision as revisionᶜ}
use Rattle.commands.proofs.Input.{input_cond}
use Rattle.rules.specs.File.{table, widths_of, total, operands, word_from, signed_of, command_of, read_at}
use Rattle.book_memory.specs.Meter.{written_at, put_meter, takes_reading, Memory}
use Rattle.book_memory.proofs.TakenReading.{takes, tests, input_fits}
use Rattle.file_read.proofs.Finds.{entire, found_reads}
use Rattle.file_table.proofs.Words.{word_more}
use Rattle.file_readings.specs.Run.{ranged, Stand, stand_at, Turned}
use Rattle.rules.specs.Answer.{Got}

-- ---- the kW

-- a number of 4 bytes, raised
abbrev pub raised : ℕ → ℕ
raised n = (n + 500000) % 4294967296

module _ (n : ℕ) (fits : n < 2 ^ 32) where
  low : n < 2 ^ 32 - 500000 → pos (raised n) -ℤ pos 500000 ≡ pos n
  low h = omega (arith_ℤ, diff_parts (pos (raised n)) (pos 500000))

  high : 2 ^ 32 - 500000 ≤ n → pos (raised n) -ℤ pos 500000 ≡ negsuc (2 ^ 32 - suc n)
  high h = omega (arith_ℤ, diff_parts (pos (raised n)) (pos 500000))

  -- lowered again, it is the same reading, or none
  pub near_cell : ranged (pos (raised n) -ℤ pos 500000) ≡ ranged (signed_of n)
  unfolding signed_of
  near_cell = go (ltb n (2 ^ 31)) (ltb n (2 ^ 32 - 500000)) refl refl
    where
      go : (x y : Bool) → ltb n (2 ^ 31) ≡ x → ltb n (2 ^ 32 - 500000) ≡ y
          → ranged (pos (raised n) -ℤ pos 500000) ≡ ranged (cond x (pos n) (negsuc (2 ^ 32 - suc n)))
      go true y e f = ap ranged (low (omega (arith, ltb-true n (2 ^ 31) e)))
      go false true e f =
          let h = ltb-true n (2 ^ 32 - 500000) f in
          rw (low h, lt-leb n 500000 (omega (arith, ltb-false n (2 ^ 31) e)), lt-leb (2 ^ 32 - suc n) 499999 (omega arith))
      go false false e f = ap ranged (high (ltb-false n (2 ^ 32 - 500000) f))

-- two numbers that are in range alike
alike : (k z : ℤ) → ranged k ≡ ranged z → (is_reading k ≡ is_reading z) × (T (is_reading k) → k ≡ z)
alike k z e = go (is_reading k) (is_reading z) e
  where
    go : (x y : Bool) → cond x (some k) none ≡ cond y (some z) none → (x ≡ y) × (T x → k ≡ z)
    go true true e = (refl, λ t. cc)
    go true false e = absurd (none-ne-some k (sym e))
    go false true e = absurd (none-ne-some z e)
    go false false e = (refl, λ t. absurd t)

-- ---- the two kinds of reading

-- readings of one kind and revision, as commands: what is asked of them, what they put, and that their ranges are those of a reading
pub record Kind (n : ℕ) (kind : Reading → Command) : Type 0 where
  pub asks : (span : ℕ) (m : Memory) (r : Reading) → takes_reading span m (kind r) ≡ takes span m (eqb (input_refusal (kind r)) 0) n r
  pub puts : (m : Memory) (r : Reading) → put_meter m (kind r) ≡ written_at r.minute.0 r.kw.0 n m
  pub input : (r o : Reading) → meterable r ≡ meterable o → input_refusal (kind r) ≡ input_refusal (kind o)
  pub range : (r : Reading) → input_refusal (kind r) ≡ 0 → T (meterable r)

pub plain : Kind 0 readingᶜ
unfolding takes_reading
plain =
    record {
      asks = λ span m r. refl;
      puts = λ m r. refl;
      input = λ r o e. input_cond (readingᶜ r) ∙ ap (λ b. cond (not b) 3 0) e ∙ sym (input_cond (readingᶜ o));
      range = λ r e. to-T (input_fits (readingᶜ r) e);
    }

-- a reading sent again under a number
abbrev pub again : ℕ → Reading → Command
again n r = revisionᶜ (record { number = n; reading = r })

pub revised : (n : ℕ) → Kind n (again n)
unfolding takes_reading
revised n =
    record {
      asks = λ span m r. refl;
      puts = λ m r. refl;
      input = λ r o e. input_cond (again n r) ∙ ap (λ b. cond (not (from_to 1 255 n && b)) 3 0) e ∙ sym (input_cond (again n o));
      range = λ r e. (T_and (from_to 1 255 n) (meterable r) (to-T (input_fits (again n r) e))).1;
    }

-- a reading with the same minute, and a kW that is in range alike, is taken alike and leaves the same
module _ {n : ℕ} {kind : Reading → Command} (k : Kind n kind) (span : ℕ) (meter : Memory) (r o : Reading) (minute : r.minute.0 ≡ o.minute.0)
    (kw : ranged r.kw.0 ≡ ranged o.kw.0) where
  input_alike : input_refusal (kind r) ≡ input_refusal (kind o)
  input_alike = k.input r o (rw (minute, (alike r.kw.0 o.kw.0 kw).0))

  taken-alike : takes_reading span meter (kind r) ≡ takes_reading span meter (kind o)
  taken-alike = k.asks span meter r ∙ rw (input_alike, minute) refl ∙ sym (k.asks span meter o)

  put_alike : takes_reading span meter (kind r) ≡ true → put_meter meter (kind r) ≡ put_meter meter (kind o)
  put_alike t =
      let p = tests span meter (eqb (input_refusal (kind r)) 0) n r (sym (k.asks span meter r) ∙ t) in
      let range = k.range r (eqb-true (input_refusal (kind r)) 0 p.input) in
      let same = (alike r.kw.0 o.kw.0 kw).1 (T_and (from_to 0 most_minute r.minute.0) (is_reading r.kw.0) range).1 in
      k.puts meter r ∙ rw (minute, same) refl ∙ sym (k.puts meter o)

-- ---- where one stands

-- the reading whose minute and kW the bytes of these positions say
abbrev pub said : List ℕ → ℕ → ℕ → Reading
said s m k = record { minute = record { 0 = word_from 0 (take 2 (drop m s)) }; kw = record { 0 = signed_of (word_from 0 (take 4 (drop k s))) } }

-- the number that one byte says
one_byte : (s : List ℕ) (i : ℕ) → i < length s → word_from 0 (take 1 (drop i s)) ≡ get_or s i 0
unfolding word_from
one_byte s i h =
    let first : get_or (drop i s) 0 0 ≡ get_or s i 0 = get_or-drop i s 0 0 ∙ ap (λ j. get_or s j 0) (add-zero i) in
    word_more (drop i s) 0 (omega (arith, length-drop i s)) ∙ omega (arith, first)

-- what stands where a whole plain reading stands, and where a whole revision does
pub reads_plain : (s : List ℕ) (at : ℕ) → at + 7 ≤ length s → get_or s at 0 ≡ 0x4D → read_at s at ≡ Got (readingᶜ (said s (at + 1) (at + 1 + 2))) (at + 7)
unfolding total operands command_of
reads_plain s at room byte =
    let known : widths_of (get_or s at 0) table ≡ some (2 ∷ 4 ∷ []) = unfold table widths_of in rw byte in
    let found : command_of (get_or s at 0) (operands (2 ∷ 4 ∷ []) (drop (at + 1) s)) ≡ some (readingᶜ (said s (at + 1) (at + 1 + 2))) =
    rw (byte, drop-drop 2 (at + 1) s) in
    found_reads {s = s} {at = at} (entire (omega arith) known (omega arith) found)

pub reads-revised : (s : List ℕ) (at : ℕ) → at + 8 ≤ length s → get_or s at 0 ≡ 0x52
    → read_at s at ≡ Got (again (get_or s (at + 1 + 2) 0) (said s (at + 1) (at + 1 + 2 + 1))) (at + 8)
unfolding total operands command_of
reads-revised s at room byte =
    let known : widths_of (get_or s at 0) table ≡ some (2 ∷ 1 ∷ 4 ∷ []) = unfold table widths_of in rw byte in
    let one : word_from 0 (take 1 (drop (at + 1 + 2) s)) ≡ get_or s (at + 1 + 2) 0 = one_byte s (at + 1 + 2) (omega arith) in
    let found : command_of (get_or s at 0) (operands (2 ∷ 1 ∷ 4 ∷ []) (drop (at + 1) s)) ≡ some
    (again (get_or s (at + 1 + 2) 0) (said s (at + 1) (at + 1 + 2 + 1))) =
    rw (byte, drop-drop 2 (at + 1) s, drop-drop 1 (at + 1 + 2) s, one) in
    found_reads {s = s} {at = at} (entire (omega arith) known (omega arith) found)

-- by whether a reading was taken there
module _ (span : ℕ) (s : List ℕ) (at next : ℕ) (meter : Memory) (t : Bool) (after : Memory) (turned : Turned span s at meter (cond t next at) after) where
  pub when_taken : t ≡ true → Turned span s at meter next after
  when_taken e = subst (λ t. Turned span s at meter (cond t next at) after) e turned

  pub when_left : t ≡ false → Turned span s at meter at after
  when_left e = subst (λ t. Turned span s at meter (cond t next at) after) e turned

-- a turn at a whole reading of a kind, as the code takes it
module _ {n : ℕ} {kind : Reading → Command} (k : Kind n kind) (span : ℕ) (s : List ℕ) (at next : ℕ) (meter : Memory) (r o : Reading)
    (reads : read_at s at ≡ Got (kind o) next) (minute : r.minute.0 ≡ o.minute.0) (kw : ranged r.kw.0 ≡ ranged o.kw.0) where
  -- where it stands then, and lent memory after it
  pub near_turn : (t : Bool) (after : Memory) → t ≡ takes_reading span meter (kind r) → after ≡ cond t (put_meter meter (kind r)) meter
      → Turned span s at meter (cond t next at) after
  unfolding stand_at
  near_turn t after e f = rw (reads, ← taken-alike k span meter r o minute kw, ← e) (go t e f)
    where
      left : Bool → Stand
      left t = cond t (record { at = next; meter = put_meter meter (kind o) }) (record { at = at; meter = meter })

      go : (t : Bool) → t ≡ takes_reading span meter (kind r) → after ≡ cond t (put_meter meter (kind r)) meter
          → (cond t next at ≡ (left t).at) × (after ≡ (left t).meter)
      go true e f = (refl, f ∙ put_alike k span meter r o minute kw (sym e))
      go false e f = (refl, f)
