-- `Book::tables_sound` meets its contract: the counts first, and within them the zeros after the entries in use.
use Rattle.std.proofs.Common.{◌≡◌, ◌&&◌, Bool, leb, drop, eqb, List, ℕ, ◌-◌, ◌∙◌, refl, sym, length, take, arith}
use lib.ListN.{length-drop}
use lib.Seq.{take_all}
use mathlib.Core.Bool.{and-true, and_assoc}
use Rattle.energy.specs.Lists.{all, pass}
use Rattle.book_sound.specs.Unused.{is_no_window, is_no_instruction, is_no_default}
use Rattle.book.specs.Sound.{table_tests}
use Rattle.book.specs.declared.Book.{Book}
use Rattle.book.proofs.Book.tables_sound.Goals as goal

-- the counts, and the entries after them
apart : (b : Book) → pass (table_tests b)
    ≡ (leb b.nwindows 128 && leb b.ninstructions 64 && leb b.ndefaults 128
    && (all is_no_window (drop b.nwindows b.windows)
    && all is_no_instruction (drop b.ninstructions b.instructions)
    && all is_no_default (drop b.ndefaults b.defaults)))
unfolding table_tests pass
apart b = simp (and_assoc, and-true)

-- the rest of a table, by a test that agrees with the rules'
rest : {A : Type 0} (f g : A → Bool) (l : List A) (n : ℕ) → ((a : A) → f a ≡ g a) → all f (take (length l - n) (drop n l)) ≡ all g (drop n l)
rest f g l n e i = all (λ a. e a i) (take_all (length l - n) (drop n l) (omega (arith, length-drop n l)) i)

pub returns : goal.returns
returns c =
    let b = c.args.self in
    let windows : c.unused.result ≡ all is_no_window (drop b.nwindows b.windows) =
    c.unused.ensures ∙ rest _ is_no_window b.windows b.nwindows (λ w. sym (and_assoc (eqb w.start.0 0) (eqb w.end.0 0) (eqb w.verdict 0))) in
    let instructions : c.unused-2.result ≡ all is_no_instruction (drop b.ninstructions b.instructions) =
    c.unused-2.ensures ∙ rest _ is_no_instruction b.instructions b.ninstructions (λ i. refl) in
    let defaults : c.unused-3.result ≡ all is_no_default (drop b.ndefaults b.defaults) =
    c.unused-3.ensures ∙ rest _ is_no_default b.defaults b.ndefaults (λ d. sym (and_assoc (eqb d.minute.0 0) (eqb d.kind 0) (eqb d.reach 0))) in
    rw (apart b, c.if-not-within.false, windows, instructions, defaults)
