-- A sound book is fixed by what it holds: its contract, its date, its entries in use, and whether it is closed. Everything else in it is zeros.
use mathlib.Core.Path.{◌≡◌, refl, sym, ap, ap₂, ◌∙◌}
use mathlib.Core.Bool.{Bool, true, false, cond}
use mathlib.Core.List.{List, [], ◌∷◌, ◌++◌}
use Prim.Native.Nat.{ℕ, ◌-◌, ◌≤◌}
use native.Mathlib.Omega.{arith}
use lib.Dec.{T, eqb, eqb→eq}
use lib.ListN.{length, take, drop, replicate, length-drop, take-append-drop}
use lib.Seq.{length-take-le}
use Rattle.energy.specs.Lists.{all}
use Rattle.energy.proofs.Tests.{T_and, to-T, either}
use Rattle.calendar.specs.Calendar.{is_no_date}
use Rattle.calendar.specs.declared.Date.{Date}
use Rattle.calendar.proofs.Months.{no_date_lem}
use Rattle.commands.specs.declared.contract.Contract.{Contract}
use Rattle.commands.specs.declared.entries.Window.{Window}
use Rattle.commands.specs.declared.entries.Instruction.{Instruction}
use Rattle.commands.specs.declared.entries.Default.{Default}
use Rattle.commands.proofs.Chain.{apart}
use Rattle.rules.specs.Ledger.{no_contract, no_window, no_instruction, no_default}
use Rattle.book_sound.specs.Unused.{is_no_window, is_no_instruction, is_no_default}
use Rattle.book_memory.specs.Meter.{Memory}
use Rattle.book.specs.Book.{ledger_in}
use Rattle.book.specs.Sound.{sound, Shaped}
use Rattle.book.specs.declared.Book.{Book}
use Rattle.book.proofs.SoundTests.{Tables, Table, windows-table, instructions_table, defaults_table, sound-parts, sound_empty}

-- ---- a table is fixed by its entries in use

module _ {A : Type 0} (o : A) (is_o : A → Bool) (is_o-eq : (a : A) → T (is_o a) → a ≡ o) where
  zeros : (l : List A) → T (all is_o l) → l ≡ replicate (length l) o
  unfolding all
  zeros [] t = refl
  zeros (x ∷ xs) t = let q = T_and (is_o x) (all is_o xs) t in ap₂ ◌∷◌ (is_o-eq x q.0) (zeros xs q.1)

  whole : {most : ℕ} {l : List A} {n : ℕ} → Table is_o most l n → l ≡ take n l ++ replicate (most - n) o
  whole {most} {l} {n} t = sym (take-append-drop n l) ∙ ap (λ r. take n l ++ r) (zeros (drop n l) t.rest ∙ rw (length-drop n l, t.size))

  fixed : {most : ℕ} {l l' : List A} {n n' : ℕ} → Table is_o most l n → Table is_o most l' n' → take n l ≡ take n' l' → (n ≡ n') × (l ≡ l')
  fixed {most} {l} {l'} {n} {n'} t t' q =
      let used : n ≤ length l = omega (arith, t.size, t.within) in
      let used' : n' ≤ length l' = omega (arith, t'.size, t'.within) in
      let m : n ≡ n' = sym (length-take-le n l used) ∙ ap length q ∙ length-take-le n' l' used' in
      (m, whole t ∙ ap₂ (λ a b. a ++ replicate (most - b) o) q m ∙ sym (whole t'))

no_window_lem : (w : Window) → T (is_no_window w) → w ≡ no_window
no_window_lem w t i =
    let p = apart (eqb w.start.0 0) (eqb w.end.0 0 ∷ eqb w.verdict 0 ∷ []) t in
    record {
      start = record { 0 = eqb→eq w.start.0 0 p.0 i };
      end = record { 0 = eqb→eq w.end.0 0 p.1.0 i };
      verdict = eqb→eq w.verdict 0 p.1.1.0 i;
    }

no_instruction_lem : (x : Instruction) → T (is_no_instruction x) → x ≡ no_instruction
no_instruction_lem x t i =
    let p = T_and (eqb x.issue.0 0) (eqb x.cease.0 0) t in
    record { issue = record { 0 = eqb→eq x.issue.0 0 p.0 i }; cease = record { 0 = eqb→eq x.cease.0 0 p.1 i } }

no_default_lem : (d : Default) → T (is_no_default d) → d ≡ no_default
no_default_lem d t i =
    let p = apart (eqb d.minute.0 0) (eqb d.kind 0 ∷ eqb d.reach 0 ∷ []) t in
    record {
      minute = record { 0 = eqb→eq d.minute.0 0 p.0 i };
      kind = eqb→eq d.kind 0 p.1.0 i;
      reach = eqb→eq d.reach 0 p.1.1.0 i;
    }

-- ---- a book is fixed by what it holds

-- a book's contract: nothing, or one contract
contract_same : (s s' : Bool) (k k' : Contract) → ◌≡◌ {A = List Contract} (cond s (k ∷ []) []) (cond s' (k' ∷ []) [])
    → (s ≡ false → k ≡ no_contract) → (s' ≡ false → k' ≡ no_contract) → (s ≡ s') × (k ≡ k')
contract_same true true k k' e z z' = (refl, cc)
contract_same true false k k' e z z' = let x : ◌≡◌ {A = ℕ} 0 1 = cc in absurd (omega arith)
contract_same false true k k' e z z' = let x : ◌≡◌ {A = ℕ} 0 1 = cc in absurd (omega arith)
contract_same false false k k' e z z' = (refl, z refl ∙ sym (z' refl))

-- a book's date: zeros, or one date
date_same : (d d' : Date) → ◌≡◌ {A = List Date} (cond (is_no_date d) [] (d ∷ [])) (cond (is_no_date d') [] (d' ∷ [])) → d ≡ d'
date_same d d' e =
    either (is_no_date d)
    (λ p.
    either (is_no_date d') (λ q. no_date_lem d (to-T p) ∙ sym (no_date_lem d' (to-T q)))
    (λ q. let f : ◌≡◌ {A = List Date} [] (d' ∷ []) = rw (p, q) at e in let x : ◌≡◌ {A = ℕ} 0 1 = cc in absurd (omega arith)))
    (λ p.
    either (is_no_date d')
    (λ q. let f : ◌≡◌ {A = List Date} (d ∷ []) [] = rw (p, q) at e in let x : ◌≡◌ {A = ℕ} 0 1 = cc in absurd (omega arith))
    (λ q. let f : ◌≡◌ {A = List Date} (d ∷ []) (d' ∷ []) = rw (p, q) at e in cc))

-- books that hold the same ledger are the same
pub same_book_lem : (b b' : Book) (meter after : Memory) → Shaped b → Shaped b' → sound b ≡ true → sound b' ≡ true
    → ledger_in b meter ≡ ledger_in b' after
    → b ≡ b'
unfolding ledger_in
same_book_lem b b' meter after s s' e e' h =
    let p : Tables b = (sound-parts b e).tables in
    let p' : Tables b' = (sound-parts b' e').tables in
    let w = fixed no_window is_no_window no_window_lem (windows-table b p s) (windows-table b' p' s') (ap (λ g. g.windows) h) in
    let x =
    fixed no_instruction is_no_instruction no_instruction_lem (instructions_table b p s) (instructions_table b' p' s') (ap (λ g. g.instructions) h) in
    let d = fixed no_default is_no_default no_default_lem (defaults_table b p s) (defaults_table b' p' s') (ap (λ g. g.defaults) h) in
    let k =
    contract_same b.agreed b'.agreed b.contract b'.contract (ap (λ g. g.contracts) h)
    (λ q. (sound_empty b e q).contract) (λ q. (sound_empty b' e' q).contract) in
    λ i.
    record {
      agreed = k.0 i;
      closed = (h i).closed;
      contract = k.1 i;
      date = date_same b.date b'.date (ap (λ g. g.dates) h) i;
      windows = w.1 i;
      nwindows = w.0 i;
      instructions = x.1 i;
      ninstructions = x.0 i;
      defaults = d.1 i;
      ndefaults = d.0 i;
    }
