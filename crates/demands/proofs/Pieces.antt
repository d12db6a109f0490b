-- Pieces of a file, entered one after the other, do what the whole file does. By induction over the turns of the loop: a command that lies in the piece
-- is read alike in the whole, so both go on together, up to where the piece ends. If it ends at its end or under 2, the whole goes on from there, and
-- that is entering the bytes from there on as a file of its own; if it ends otherwise, the whole ends so too, since the book never answers 2.
use mathlib.Core.Path.{◌≡◌, refl, sym, ap, ◌∙◌, subst, subst⁻¹}
use mathlib.Core.Logic.{⊎_elim}
use mathlib.Core.Bool.{Bool, false, not, true≢false}
use mathlib.Core.Option.{Option, none, some, none-ne-some, some-injective}
use mathlib.Core.List.{List, [], ◌∷◌, ◌++◌}
use Prim.Native.Nat.{ℕ, ◌+◌, ◌≤◌, ◌<◌}
use native.Mathlib.Omega.{arith}
use borrow.Author.Tests.{eq-eqb}
use lib.Dec.{T, eqb, eqb→eq}
use lib.ListN.{length, drop, length-append, length-drop}
use lib.Seq.{drop-append-le}
use Rattle.book_memory.specs.Meter.{Memory, room_in}
use Rattle.energy.specs.Lists.{all}
use Rattle.energy.proofs.Tests.{T_and, either}
use Rattle.commands.specs.Input.{Condition, first_met}
use Rattle.commands.proofs.Chain.{not_on}
use Rattle.rules.specs.Refusal.{conditions, refusal}
use Rattle.rules.proofs.Taken.{at_first, past_first}
use Rattle.rules.specs.File.{read_at}
use Rattle.commands.specs.declared.entries.Command.{Command}
use Rattle.book.specs.Book.{ledger_in}
use Rattle.book.specs.Sound.{sound}
use Rattle.book.specs.Enter.{enter_book, entered_by}
use Rattle.book.specs.declared.Book.{Book}
use Rattle.file_read.proofs.Steps.{got_within, refused_number, refused_near}
use Rattle.file_read.proofs.Pieces.{piece_got, piece_unknown, piece_end, read-drop}
use Rattle.file_load.specs.Load.{LoadedFile, carries_on, load_from, load}
use Rattle.file_load.proofs.From.{enough, from, from_step, by_turns}
use Rattle.demands.specs.Pieces.{unfinished, shifted_by, Pieces·theorem}
use Rattle.rules.specs.Answer.{Answer, Got}
use Rattle.std.specs.Prelude.{Err}
use Rattle.commands.specs.declared.refusal.Refusal.{Refusal}
use Rattle.commands.specs.Refusals.{number_of, refusal_of}
use Rattle.commands.specs.declared.refusal.Refusal.TheVariants.{CutOff}
use Rattle.commands.proofs.Outcomes.{refusal_back}

-- the refusal with a number is 2
abbrev is_cut : ℕ → Bool
is_cut n = eqb (number_of (refusal_of n)) 2

-- the book never answers 2
first_not : (cs : List Condition) → T (all (λ c. not (is_cut c.number)) cs) → (x : ℕ) → first_met cs ≡ some x → is_cut x ≡ false
unfolding first_met all
first_not [] t x e = absurd (none-ne-some x e)
first_not (c ∷ cs) t x e =
    let ts = T_and (not (is_cut c.number)) (all (λ c. not (is_cut c.number)) cs) t in
    either c.holds
    (λ h. subst (λ y. is_cut y ≡ false) (some-injective c.number x (sym (at_first c cs h) ∙ e)) (not_on (is_cut c.number) ts.0))
    (λ h. first_not cs ts.1 x (sym (past_first c cs h) ∙ e))

book_not_two : (b : Book) (m : Memory) (c : Command) (x : Refusal) → (enter_book b m c).entry.answer ≡ Err x → T (eqb (number_of x) 2) → ⊥
unfolding enter_book refusal conditions
book_not_two b m c x e t = go (refusal (not (sound b)) (room_in m) (ledger_in b m) c) refl e
  where
    go : (r : Option ℕ) → refusal (not (sound b)) (room_in m) (ledger_in b m) c ≡ r → (entered_by r b m c).entry.answer ≡ Err x → ⊥
    go none f h = let z : ◌≡◌ {A = ℕ} 0 1 = cc in omega arith
    go (some y) f h =
        let same : refusal_of y ≡ x = cc in
        subst (λ v. T v) (first_not (conditions (not (sound b)) (room_in m) (ledger_in b m) c) (unfold all refusal_of in tt) y f) (subst (λ v. T (eqb (number_of v) 2)) (sym same) t)

-- 1 in a piece is 1 in the whole
kept_refused : (p q : List ℕ) (at : ℕ) (x : Refusal) → read_at p at ≡ Err x → eqb (number_of x) 2 ≡ false → read_at (p ++ q) at ≡ Err x
kept_refused p q at x e t =
    ⊎_elim (λ one. subst⁻¹ (λ n. read_at (p ++ q) at ≡ Err n) one (piece_unknown p q at (subst (λ n. read_at p at ≡ Err n) one e)))
    (λ two. absurd (true≢false (sym (eq-eqb (number_of x) 2 (ap number_of two)) ∙ t)))
    (refused_number p at e)

-- the commands behind k bytes, of the bytes behind them
shifted : (n k : ℕ) (s : List ℕ) (at : ℕ) (b : Book) (m : Memory) → load_from n s (k + at) b m ≡ shifted_by k (load_from n (drop k s) at b m)
unfolding load_from
shifted n k s =
    by_turns (drop k s) (λ n at b m l. load_from n s (k + at) b m ≡ shifted_by k l) (λ at b m. refl)
    (λ n at b m e. rw (read-drop s k at, e)) (λ n at b m x e. rw (read-drop s k at, e))
    (λ n at b m c next x e a. rw (read-drop s k at, e, a)) (λ n at b m c next e a l h. rw (read-drop s k at, e, a) h) n

-- the reader never leaves the bytes
pub inside : (n : ℕ) (p : List ℕ) (at : ℕ) (b : Book) (m : Memory) → at ≤ length p → (load_from n p at b m).loaded.at ≤ length p
inside n p =
    by_turns p (λ n at b m l. at ≤ length p → l.loaded.at ≤ length p) (λ at b m h. h) (λ n at b m e h. h) (λ n at b m x e h. h)
    (λ n at b m c next x e a h. h) (λ n at b m c next e a l r h. r (got_within p at e).1) n

module _ (p q : List ℕ) where
  -- the whole, from where a piece stopped
  abbrev onwards : LoadedFile → LoadedFile
  onwards l = from (p ++ q) l.loaded.at l.loaded.book l.meter

  -- a command of the piece is entered into the whole
  enters : (at : ℕ) (b : Book) (m : Memory) {c : Command} {next : ℕ} {a : Answer} → read_at p at ≡ Got c next → (enter_book b m c).entry.answer ≡ a
      → from (p ++ q) at b m ≡ carries_on (from (p ++ q) next) at a (enter_book b m c)
  enters at b m e a = from_step (p ++ q) at b m ∙ rw (piece_got p q at e, a)

  -- where the piece is unfinished, the whole goes on from there
  goes_on_lem : (n at : ℕ) (b : Book) (m : Memory) → T (unfinished (load_from n p at b m).loaded.answer)
      → from (p ++ q) at b m ≡ onwards (load_from n p at b m)
  goes_on_lem =
      by_turns p (λ n at b m l. T (unfinished l.loaded.answer) → from (p ++ q) at b m ≡ onwards l) (λ at b m t. refl) (λ n at b m e t. refl)
      (λ n at b m x e t. refl) (λ n at b m c next x e a t. absurd (book_not_two b m c x a t)) (λ n at b m c next e a l r t. enters at b m e a ∙ r t)

  -- where it is not, the whole ends as the piece does
  ends_there : (n at : ℕ) (b : Book) (m : Memory) → unfinished (load_from n p at b m).loaded.answer ≡ false → from (p ++ q) at b m ≡ load_from n p at b m
  ends_there =
      by_turns p (λ n at b m l. unfinished l.loaded.answer ≡ false → from (p ++ q) at b m ≡ l) (λ at b m t. absurd (true≢false t))
      (λ n at b m e t. absurd (true≢false t)) (λ n at b m x e t. from_step (p ++ q) at b m ∙ rw (kept_refused p q at x e t))
      (λ n at b m c next x e a t. enters at b m e a) (λ n at b m c next e a l r t. enters at b m e a ∙ r t)

pub pieces : Pieces·theorem
unfolding Pieces·theorem load from
pieces p q b m =
    let k : ℕ = (load_from (length p) p 0 b m).loaded.at in
    let in_p : k ≤ length p = inside (length p) p 0 b m (omega arith) in
    let b' : Book = (load_from (length p) p 0 b m).loaded.book in
    let m' : Memory = (load_from (length p) p 0 b m).meter in
    let zeroed : k + 0 ≡ k = omega arith in
    record {
      goes_on = λ t.
          goes_on_lem p q (length p) 0 b m t ∙ ap (λ x. load_from (length (p ++ q)) (p ++ q) x b' m') (sym zeroed)
          ∙ shifted (length (p ++ q)) k (p ++ q) 0 b' m'
          ∙ ap (λ s. shifted_by k (load_from (length (p ++ q)) s 0 b' m')) (drop-append-le k p q in_p)
          ∙ ap (shifted_by k)
          (enough (length (p ++ q)) (length (drop k p ++ q)) (drop k p ++ q) 0 b' m' (simp (length-append, length-drop) (omega arith)) (omega arith));
      ends = λ t. ends_there p q (length p) 0 b m t;
    }

-- ---- what a piece leaves unread

-- the refusal with the number 2
cut_off : (x : Refusal) → number_of x ≡ 2 → x ≡ CutOff
unfolding refusal_of
cut_off x e = sym (refusal_back x) ∙ ap refusal_of e

left : (n : ℕ) (p : List ℕ) (at : ℕ) (b : Book) (m : Memory) → length p ≤ at + n → T (unfinished (load_from n p at b m).loaded.answer)
    → length p < (load_from n p at b m).loaded.at + 32
left n p =
    by_turns p (λ n at b m l. length p ≤ at + n → T (unfinished l.loaded.answer) → length p < l.loaded.at + 32) (λ at b m h t. omega arith)
    (λ n at b m e h t. omega (arith, piece_end p [] at e))
    (λ n at b m x e h t. refused_near p at (subst (λ n. read_at p at ≡ Err n) (cut_off x (eqb→eq (number_of x) 2 t)) e))
    (λ n at b m c next x e a h t. absurd (book_not_two b m c x a t)) (λ n at b m c next e a l r h t. r (omega (arith, got_within p at e)) t) n

-- where it is unfinished, fewer bytes than the longest command has
pub unread : (p : List ℕ) (b : Book) (m : Memory) → T (unfinished (load p b m).loaded.answer) → length p < (load p b m).loaded.at + 32
unfolding load
unread p b m t = left (length p) p 0 b m (omega arith) t
