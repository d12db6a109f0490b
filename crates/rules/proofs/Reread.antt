-- A command written and read again, one after the other in a file, and that reading a file on finds no more.
use mathlib.Core.Path.{◌≡◌, refl, sym, ap, ◌∙◌}
use mathlib.Core.Bool.{Bool, true, false, not, ◌&&◌, ◌||◌, cond}
use mathlib.Core.List.{List, [], ◌∷◌, ◌++◌, append-nil, append_assoc}
use mathlib.Core.Option.{Option, none, some}
use Prim.Native.Nat.{ℕ, zero, suc, ◌+◌, ◌-◌, ◌^◌, ◌≤◌, ◌<◌}
use native.Mathlib.Nat.{le_refl}
use native.Mathlib.Omega.{arith}
use lib.IntN.{ℤ, pos, negsuc, nat_abs}
use lib.Dec.{T, eqb, leb, ltb, leb→le, le→leb}
use lib.ListN.{length, drop, get_or, length-append}
use lib.Seq.{get_or-append_seam, drop-append-add}
use lib.Signed.{le_z_yes, yes_non_neg, pos-nat_abs}
use borrow.Author.Tests.{lt-ltb, le-ltb, le-leb, lt-leb, eq-eqb, not-true}
use Rattle.energy.specs.Lists.{all, concat_map, is_some}
use Rattle.energy.proofs.Tests.{T_and, and_T, to-T, on_and, off_or, off_not}
use Rattle.calendar.specs.Calendar.{is_date}
use Rattle.calendar.proofs.Months.{ranges_of}
use Rattle.commands.specs.Input.{in_range, is_reading, meterable, from_to, from_to_ℤ, most_minute, ramp_too_long, bad_window, no_such_date, input_refusal}
use Rattle.rules.specs.File.{table, widths_of, total, signed_of, unsigned_of, operands, command_of, read_as, read_body, read_at, byte_of, operands_of}
use Rattle.rules.specs.File.{write_operands, widths_for, write, read_on, commands_from, commands_in}
use Rattle.rules.specs.Reread.{fit, sign_fits, fits_bytes, Reread}
use Rattle.commands.specs.declared.entries.Command.{Command}
use Rattle.commands.specs.declared.entries.Command.TheVariants.{Contract as contractᶜ, Date as dateᶜ, Window as windowᶜ, Instruction as instructionᶜ}
use Rattle.commands.specs.declared.entries.Command.TheVariants.{Default as defaultᶜ, Reading as readingᶜ, Revision as revisionᶜ}
use Rattle.commands.specs.declared.entries.Command.TheVariants.{Close as closeᶜ}
use Rattle.std.specs.Prelude.{Err}
use Rattle.rules.specs.Answer.{Read, Got, End}
use Rattle.rules.proofs.Operands.{operands_back, length-operands, write_long}
use Rattle.commands.proofs.Chain.{apart}
use Rattle.commands.proofs.Input.{input_none}
use Rattle.commands.proofs.Terms.{ranges, bounds}
use Rattle.commands.specs.declared.refusal.Refusal.TheVariants.{CutOff}

-- ---- a command from its operands

-- two's complement
signed_back : (z : ℤ) → T (from_to_ℤ (negsuc 2147483647) (pos 2147483647) z) → signed_of (unsigned_of z) ≡ z
unfolding signed_of
signed_back (pos n) t =
    let h : n ≤ 2147483647 = leb→le n 2147483647 t in
    rw (lt-ltb n (2 ^ 31) (omega arith))
signed_back (negsuc n) t =
    let h : n ≤ 2147483647 = leb→le n 2147483647 (T_and (leb n 2147483647) true t).0 in
    rw (le-ltb (unsigned_of (negsuc n)) (2 ^ 31) (omega arith)) (ap negsuc (omega arith))

command_back : (c : Command) → T (sign_fits c) → command_of (byte_of c) (operands_of c) ≡ some c
unfolding command_of
command_back (contractᶜ k) t = rw (pos-nat_abs k.contracted.0 (yes_non_neg {z = k.contracted.0} (le_z_yes t)))
command_back (dateᶜ d) t = refl
command_back (windowᶜ w) t = refl
command_back (instructionᶜ i) t = refl
command_back (defaultᶜ d) t = refl
command_back (readingᶜ r) t = rw (signed_back r.kw.0 t)
command_back (revisionᶜ v) t = rw (signed_back v.reading.kw.0 t)
command_back closeᶜ t = refl

-- ---- a command in range

reading_says : (z : ℤ) → T (is_reading z) → T (from_to_ℤ (negsuc 2147483647) (pos 2147483647) z) × (unsigned_of z < 256 ^ 4)
reading_says (pos n) t = let h : n ≤ 500000 = leb→le n 500000 t in (le→leb n 2147483647 (omega arith), omega arith)
reading_says (negsuc n) t =
    let h : n ≤ 499999 = leb→le n 499999 (T_and (leb n 499999) true t).0 in
    (and_T (leb n 2147483647) true (le→leb n 2147483647 (omega arith)) tt, omega arith)

in_bytes : (c : Command) → T (in_range c) → no_such_date c ≡ false → T (fits_bytes c)
unfolding fits_bytes fit widths_of table
in_bytes (contractᶜ k) t h =
    let r = ranges k t in
    rw (
      r.positive,
      le-leb 0 (nat_abs k.contracted.0) (omega arith),
      lt-ltb k.days (256 ^ 1) (omega arith),
      lt-ltb k.kind (256 ^ 1) (omega arith),
      lt-ltb k.service (256 ^ 1) (omega arith),
      lt-ltb (nat_abs k.contracted.0) (256 ^ 4) (omega arith),
      lt-ltb k.rampup (256 ^ 4) (omega arith),
      lt-ltb k.rampdown (256 ^ 4) (omega arith),
      lt-ltb k.response.0 (256 ^ 2) (omega arith),
      lt-ltb k.recovery.0 (256 ^ 2) (omega arith),
      lt-ltb k.availability (256 ^ 4) (omega arith),
      lt-ltb k.utilisation (256 ^ 4) (omega arith),
      lt-ltb k.optional (256 ^ 4) (omega arith),
    ) tt
in_bytes (dateᶜ d) t h =
    let r = ranges_of d (off_not (is_date d) h) in
    rw (lt-ltb d.year (256 ^ 2) (omega arith), lt-ltb d.month (256 ^ 1) (omega arith), lt-ltb d.day (256 ^ 1) (omega arith)) tt
in_bytes (windowᶜ w) t h =
    let q = apart (from_to 0 most_minute w.start.0) (from_to 0 most_minute w.end.0 ∷ from_to 0 1 w.verdict ∷ []) t in
    let a = bounds 0 most_minute w.start.0 q.0 in let b = bounds 0 most_minute w.end.0 q.1.0 in let v = bounds 0 1 w.verdict q.1.1.0 in
    rw (lt-ltb w.start.0 (256 ^ 2) (omega arith), lt-ltb w.end.0 (256 ^ 2) (omega arith), lt-ltb w.verdict (256 ^ 1) (omega arith)) tt
in_bytes (instructionᶜ i) t h =
    let q = T_and (from_to 3 most_minute i.issue.0) (from_to 0 most_minute i.cease.0) t in
    let a = bounds 3 most_minute i.issue.0 q.0 in let b = bounds 0 most_minute i.cease.0 q.1 in
    rw (lt-ltb i.issue.0 (256 ^ 2) (omega arith), lt-ltb i.cease.0 (256 ^ 2) (omega arith)) tt
in_bytes (defaultᶜ d) t h =
    let q = apart (from_to 0 most_minute d.minute.0) (from_to 1 4 d.kind ∷ from_to 1 3 d.reach ∷ []) t in
    let m = bounds 0 most_minute d.minute.0 q.0 in let a = bounds 1 4 d.kind q.1.0 in let b = bounds 1 3 d.reach q.1.1.0 in
    rw (lt-ltb d.minute.0 (256 ^ 2) (omega arith), lt-ltb d.kind (256 ^ 1) (omega arith), lt-ltb d.reach (256 ^ 1) (omega arith)) tt
in_bytes (readingᶜ r) t h =
    let q = T_and (from_to 0 most_minute r.minute.0) (is_reading r.kw.0) t in
    let m = bounds 0 most_minute r.minute.0 q.0 in let z = reading_says r.kw.0 q.1 in
    and_T (sign_fits (readingᶜ r)) (fit (2 ∷ 4 ∷ []) (operands_of (readingᶜ r))) z.0
    (rw (lt-ltb r.minute.0 (256 ^ 2) (omega arith), lt-ltb (unsigned_of r.kw.0) (256 ^ 4) (omega arith)) tt)
in_bytes (revisionᶜ v) t h =
    let r = v.reading in
    let p = T_and (from_to 1 255 v.number) (meterable r) t in
    let q = T_and (from_to 0 most_minute r.minute.0) (is_reading r.kw.0) p.1 in
    let n = bounds 1 255 v.number p.0 in let m = bounds 0 most_minute r.minute.0 q.0 in let z = reading_says r.kw.0 q.1 in
    and_T (sign_fits (revisionᶜ v)) (fit (2 ∷ 1 ∷ 4 ∷ []) (operands_of (revisionᶜ v))) z.0
    (rw (lt-ltb r.minute.0 (256 ^ 2) (omega arith), lt-ltb v.number (256 ^ 1) (omega arith), lt-ltb (unsigned_of r.kw.0) (256 ^ 4) (omega arith)) tt)
in_bytes closeᶜ t h = tt

ranged : (c : Command) → input_refusal c ≡ 0 → T (fits_bytes c)
ranged c e =
    let p = on_and (in_range c) (not (ramp_too_long c) && not (no_such_date c || bad_window c)) (sym (input_none c) ∙ eq-eqb (input_refusal c) 0 e) in
    let q = on_and (not (ramp_too_long c)) (not (no_such_date c || bad_window c)) p.1 in
    in_bytes c (to-T p.0) (off_or (no_such_date c) (bad_window c) (not-true (no_such_date c || bad_window c) q.1)).0

-- ---- one command read where it stands

-- a command's byte is the table's
pub in_table : (c : Command) → widths_of (byte_of c) table ≡ some (widths_for c)
unfolding widths_of table
in_table (contractᶜ k) = refl
in_table (dateᶜ d) = refl
in_table (windowᶜ w) = refl
in_table (instructionᶜ i) = refl
in_table (defaultᶜ d) = refl
in_table (readingᶜ r) = refl
in_table (revisionᶜ v) = refl
in_table closeᶜ = refl

-- a byte of the table with operands that fit, after `pre` and before `rest`
read_layout : (pre rest : List ℕ) (b : ℕ) (ws v : List ℕ) → widths_of b table ≡ some ws → T (fit ws v)
    → read_at (pre ++ b ∷ (write_operands ws v ++ rest)) (length pre) ≡ read_as (command_of b v) (length pre + (1 + total ws))
unfolding read_at
read_layout pre rest b ws v e h =
    let s : List ℕ = pre ++ b ∷ (write_operands ws v ++ rest) in
    let n : length s ≡ length pre + (1 + (total ws + length rest)) =
    simp length-append (omega (arith, length-operands ws v h)) in
    let byte : get_or s (length pre) 0 ≡ b = get_or-append_seam pre b (write_operands ws v ++ rest) 0 in
    let ops : operands ws (drop (length pre + 1) s) ≡ v =
    ap (operands ws) (drop-append-add pre (b ∷ (write_operands ws v ++ rest)) 1) ∙ operands_back ws v rest h in
    rw (lt-leb (length s) (length pre) (omega arith), byte, e, le-ltb (length s - length pre) (1 + total ws) (omega arith), ops)
    (ap (λ x. read_as (command_of x v) (length pre + (1 + total ws))) byte)

module _ (c : Command) (t : T (fits_bytes c)) where
  says : T (sign_fits c) × T (fit (widths_for c) (operands_of c))
  unfolding fits_bytes
  says = T_and (sign_fits c) (fit (widths_for c) (operands_of c)) t

  read_one : (before after : List ℕ) → read_at (before ++ write c ++ after) (length before) ≡ Got c (length before + length (write c))
  unfolding write
  read_one before after =
      let laid = read_layout before after (byte_of c) (widths_for c) (operands_of c) (in_table c) says.1 in
      rw (append_assoc before (write c) after, laid, command_back c says.0, write_long c)

-- ---- a whole file

pub at_end : (s : List ℕ) (at : ℕ) → length s ≤ at → read_at s at ≡ End
unfolding read_at
at_end s at h = rw (le-leb (length s) at h)

none_left : (fuel : ℕ) (s : List ℕ) (at : ℕ) → length s ≤ at → commands_from fuel s at ≡ []
unfolding commands_from
none_left zero s at h = refl
none_left (suc fuel) s at h = rw (at_end s at h)

read_all : (fuel : ℕ) (before : List ℕ) (cs : List Command) → T (all fits_bytes cs) → length (concat_map write cs) ≤ fuel
    → commands_from fuel (before ++ concat_map write cs) (length before) ≡ cs
unfolding all concat_map commands_from
read_all fuel before [] t h = none_left fuel (before ++ []) (length before) (rw (append-nil before) (le_refl (length before)))
read_all zero before (c ∷ cs) t h =
    absurd (omega (arith, length-append (write c) (concat_map write cs), write_long c))
read_all (suc fuel) before (c ∷ cs) t h =
    let q = T_and (fits_bytes c) (all fits_bytes cs) t in
    let rest : List ℕ = concat_map write cs in
    let n : length rest ≤ fuel = omega (arith, length-append (write c) rest, write_long c) in
    rw (sym (append_assoc before (write c) rest), read_one c q.0 before rest, sym (length-append before (write c)))
    (ap (λ l. c ∷ l) (read_all fuel (before ++ write c) cs q.1 n))

-- ---- reading on

-- the position after what is read, or one on
abbrev after : ℕ → Read → ℕ
after at (Got c next) = next
after at (Err r) = suc at
after at End = suc at

forward : (s : List ℕ) (at : ℕ) → at < after at (read_at s at)
unfolding read_at
forward s at = go (leb (length s) at) (widths_of (get_or s at 0) table)
  where
    some_read : (ws : List ℕ) (o : Option Command) (b : Bool) → at < after at (cond b (Err CutOff) (read_as o (at + (1 + total ws))))
    some_read ws o true = omega arith
    some_read ws none false = omega arith
    some_read ws (some c) false = omega arith

    go : (b : Bool) (o : Option (List ℕ)) → at < after at (cond b End (read_body o s at))
    go true o = omega arith
    go false none = omega arith
    go false (some ws) = some_read ws (command_of (get_or s at 0) (operands ws (drop (at + 1) s))) (ltb (length s - at) (1 + total ws))

-- two amounts of fuel that both reach the end
same_fuel : (f h : ℕ) (s : List ℕ) (at : ℕ) → length s ≤ at + f → length s ≤ at + h → commands_from f s at ≡ commands_from h s at
unfolding commands_from
same_fuel zero h s at p q = sym (none_left h s at (omega arith))
same_fuel (suc f) zero s at p q = none_left (suc f) s at (omega arith)
same_fuel (suc f) (suc h) s at p q = go (read_at s at) (forward s at) (λ next a b. same_fuel f h s next a b)
  where
    go : (r : Read) → at < after at r → ((next : ℕ) → length s ≤ next + f → length s ≤ next + h → commands_from f s next ≡ commands_from h s next)
        → read_on (λ next. commands_from f s next) r ≡ read_on (λ next. commands_from h s next) r
    go (Got c next) lt rec = ap (λ l. c ∷ l) (rec next (omega arith) (omega arith))
    go (Err r) lt rec = refl
    go End lt rec = refl

-- ---- the table's bytes

known : (b : ℕ) (v : List ℕ) → is_some (command_of b v) ≡ is_some (widths_of b table)
unfolding is_some command_of widths_of table
known b v =
    both (eqb 0x43 b) _ _ _ _ (both (eqb 0x54 b) _ _ _ _ (both (eqb 0x57 b) _ _ _ _ (both (eqb 0x49 b) _ _ _ _ (both (eqb 0x44 b) _ _ _ _
    (both (eqb 0x4D b) _ _ _ _ (both (eqb 0x52 b) _ _ _ _ (both (eqb 0x5A b) _ _ none none refl)))))))
  where
    -- one byte more
    both : (t : Bool) (c : Command) (ws : List ℕ) (o : Option Command) (p : Option (List ℕ)) → is_some o ≡ is_some p
        → is_some (cond t (some c) o) ≡ is_some (cond t (some ws) p)
    both true c ws o p e = refl
    both false c ws o p e = e

pub reread : Reread
unfolding commands_in
reread =
    record {
      known = known;
      size = write_long;
      command = λ before after c t. read_one c t before after;
      file = λ cs t. read_all (length (concat_map write cs)) [] cs t (le_refl (length (concat_map write cs)));
      ranged = ranged;
      enough = λ s more. same_fuel (length s + more) (length s) s 0 (omega arith) (omega arith);
    }
