-- Lines as numbers: eight stores in a row, one line more, and what is prepared for a book settles it in numbers too.
use mathlib.Core.Path.{◌≡◌, refl, sym, ◌∙◌, ap, ap₂}
use mathlib.Core.List.{List, [], ◌∷◌, ◌++◌, append_assoc, map}
use mathlib.Core.Option.{none, some}
use Prim.Native.Nat.{ℕ, ◌+◌, ◌*◌, ◌/◌, ◌≤◌}
use native.Mathlib.Omega.{arith}
use lib.IntN.{ℤ}
use lib.ListN.{length, take, drop, replicate, length-append, length-drop, length-replicate}
use lib.Seq.{take_at, drop_at, drop-drop}
use Rattle.std.specs.Prelude.{Ok, Err}
use Rattle.book_memory.specs.Meter.{Memory}
use Rattle.energy.specs.Lists.{concat_map, between}
use Rattle.commands.specs.Refusals.{number_of}
use Rattle.commands.specs.declared.refusal.Refusal.{Refusal}
use Rattle.commands.proofs.Outcomes.{refusal_back}
use Rattle.rules.specs.Ledger.{Ledger}
use Rattle.rules.specs.Statement.{lines, statement_of}
use Rattle.rules.specs.declared.statement.Line.{Line}
use Rattle.book.specs.Book.{ledger_in}
use Rattle.book.specs.declared.Book.{Book}
use Rattle.settle.specs.declared.prepare.Prepared.{Prepared}
use Rattle.settle.specs.Settle.{Settled, settled_by, refusal_for, settle_book}
use Rattle.settle_numbers.specs.Numbers.{numbers_of, number_book}
use Rattle.settle.specs.Prepared.{summed, last_cursor, prepared_line, settled_with, Prepares}
use Rattle.rules.proofs.Folds.{concat_map_snoc, length-first, first-snoc}
use Rattle.settle_lines.proofs.Step.{stored-first}
use Rattle.settle_lines.specs.Cursor.{stored}

long : (ls : List Line) → length (concat_map numbers_of ls) ≡ 8 * length ls
unfolding numbers_of concat_map
long [] = refl
long (l ∷ ls) = omega (arith, long ls)

module _ (f : ℕ → Line) where
  -- the numbers of the first n lines
  abbrev pub numbers_to : ℕ → List ℤ
  numbers_to n = concat_map numbers_of (map f (between 0 n))

  numbers_next : (n : ℕ) → numbers_to (n + 1) ≡ numbers_to n ++ numbers_of (f n)
  numbers_next n = ap (concat_map numbers_of) (first-snoc f n) ∙ concat_map_snoc numbers_of (map f (between 0 n)) (f n)

  length-numbers : (n : ℕ) → length (numbers_to n) ≡ 8 * n
  length-numbers n = long (map f (between 0 n)) ∙ ap (λ m. 8 * m) (length-first f n)

  -- the numbers of the lines take the place of as many
  pub same_size : (n : ℕ) (ys zs : List ℤ) → 8 * n ≤ length ys → zs ≡ numbers_to n ++ drop (8 * n) ys → length zs ≡ length ys
  same_size n ys zs h e = ap length e ∙ length-append (numbers_to n) (drop (8 * n) ys) ∙ omega (arith, length-numbers n, length-drop (8 * n) ys)

  -- the numbers of one line more
  pub put_next : (n m : ℕ) (ys zs row : List ℤ) → m ≡ 8 → zs ≡ numbers_to n ++ drop (8 * n) ys → row ≡ numbers_of (f n)
      → take (8 * n) zs ++ (row ++ drop m (drop (8 * n) zs)) ≡ numbers_to (n + 1) ++ drop (8 * (n + 1)) ys
  put_next n m ys zs row width e er =
      let front : take (8 * n) zs ≡ numbers_to n = ap (take (8 * n)) e ∙ take_at (numbers_to n) (drop (8 * n) ys) (8 * n) (length-numbers n) in
      let past : drop (8 * n) zs ≡ drop (8 * n) ys = ap (drop (8 * n)) e ∙ drop_at (numbers_to n) (drop (8 * n) ys) (8 * n) (length-numbers n) in
      let eight : 8 * n + 8 ≡ 8 * (n + 1) = omega arith in
      let after : drop 8 (drop (8 * n) zs) ≡ drop (8 * (n + 1)) ys = ap (drop 8) past ∙ drop-drop 8 (8 * n) ys ∙ ap (λ m. drop m ys) eight in
      ap (λ m. take (8 * n) zs ++ (row ++ drop m (drop (8 * n) zs))) width ∙ ap₂ (λ x y. x ++ (row ++ y)) front after ∙ ap (λ x. numbers_to n ++ (x ++ drop (8 * (n + 1)) ys)) er
      ∙ sym (append_assoc (numbers_to n) (numbers_of (f n)) (drop (8 * (n + 1)) ys)) ∙ ap (λ x. x ++ drop (8 * (n + 1)) ys) (sym (numbers_next n))

-- what `settle_numbers` promises, from what is prepared: the lines are those that `settle` would put into as many records, whatever these hold
module _ {b : Book} {readings : Memory} (memory : List ℤ) {p : Prepared} (P : Prepares b readings (length memory / 8) p) where
  abbrev g : Ledger
  g = ledger_in b readings

  abbrev line : ℕ → Line
  line = prepared_line b p readings.cells

  abbrev n : ℕ
  n = p.statement.lines

  abbrev records : List Line
  records = replicate (length memory / 8) (line 0)

  long_records : length records ≡ length memory / 8
  long_records = length-replicate (length memory / 8) (line 0)

  -- settling into these records
  settled : record { answer = Ok (summed p.statement (last_cursor b p readings.cells)); memory = stored line n records } ≡ settled_by none g records
  unfolding settled_with settle_book
  settled = P.settles records long_records ∙ rw (long_records, P.taken) refl

  pub settles :
      record { answer = Ok (summed p.statement (last_cursor b p readings.cells)); memory = numbers_to line n ++ drop (8 * n) memory }
      ≡ number_book b readings memory
  unfolding number_book statement_of
  settles =
      let count : n ≡ length (lines g) = ap (λ (p : Prepared). p.statement.lines) P.is in
      let is : map line (between 0 n) ≡ lines g =
      sym (take_at (map line (between 0 n)) (drop n records) n (length-first line n))
      ∙ ap (take n) (sym (stored-first line n records (omega (arith, P.few, long_records))) ∙ ap (λ (s : Settled). s.memory) settled)
      ∙ take_at (lines g) (drop (length (lines g)) records) n (sym count) in
      rw P.taken (λ i. record { answer = (settled i).answer; memory = concat_map numbers_of (is i) ++ drop (8 * count i) memory })

-- and of a refusal
pub refuses : (b : Book) (readings : Memory) (memory : List ℤ) (r : Refusal) → refusal_for b readings (length memory / 8) ≡ some (number_of r)
    → number_book b readings memory ≡ record { answer = Err r; memory = memory }
unfolding number_book
refuses b readings memory r e = rw e (ap (λ x. record { answer = Err x; memory = memory }) (refusal_back r))
