-- What one command more adds to a ledger, and what is known of a command that no condition turns down.
use mathlib.Core.Path.{◌≡◌, refl, sym, ap, ◌∙◌}
use mathlib.Core.Bool.{Bool, true, false, not, ◌&&◌, ◌||◌}
use mathlib.Core.List.{List, [], ◌∷◌, ◌++◌, append-nil, append_assoc}
use mathlib.Core.Option.{Option, none, some, none-ne-some}
use Prim.Native.Nat.{ℕ}
use lib.Dec.{T, ltb}
use borrow.Author.Tests.{eqb-true}
use Rattle.energy.specs.Lists.{concat_map, is_empty, later}
use Rattle.energy.proofs.Tests.{off_not, of_T, any_snoc, either}
use Rattle.commands.specs.Input.{Condition, first_met, in_range, ramp_too_long, bad_window, no_such_date, input_conditions, input_refusal}
use Rattle.commands.proofs.Input.{input_none}
use Rattle.rules.specs.Ledger.{Ledger, ledger_of, contract_in, date_in, window_in, instruction_in, default_in, is_close, is_contract, reading_in}
use Rattle.rules.specs.Ledger.{reading_of}
use Rattle.rules.specs.Refusal.{book_conditions, kind_conditions, conditions, refusal, joined, taken_after, cells_for}
use Rattle.rules.specs.Refusal.{date_late, other_month, beyond_span}
use Rattle.rules.specs.Refusal.{rejected_committed, window_overlaps, cease_early, issue_early, outside_windows, has_reading, revision_held, table_full}
use Rattle.commands.specs.declared.entries.Command.{Command}

-- ---- the ledger of one command more

-- what a taken command adds to a ledger
abbrev pub grown : Ledger → Command → Ledger
grown g c =
    record {
      contracts = g.contracts ++ contract_in c;
      dates = g.dates ++ date_in c;
      windows = g.windows ++ window_in c;
      instructions = g.instructions ++ instruction_in c;
      defaults = g.defaults ++ default_in c;
      closed = g.closed || is_close c;
      reading = λ m. later (g.reading m) (reading_in c m);
    }

pub concat_map_append : {A B : Type 0} (f : A → List B) (s t : List A) → concat_map f (s ++ t) ≡ concat_map f s ++ concat_map f t
unfolding concat_map
concat_map_append f [] t = refl
concat_map_append f (x ∷ s) t = ap (λ r. f x ++ r) (concat_map_append f s t) ∙ sym (append_assoc (f x) (concat_map f s) (concat_map f t))

pub concat_map_snoc : {A B : Type 0} (f : A → List B) (t : List A) (c : A) → concat_map f (t ++ (c ∷ [])) ≡ concat_map f t ++ f c
unfolding concat_map
concat_map_snoc f t c = concat_map_append f t (c ∷ []) ∙ ap (λ r. concat_map f t ++ r) (append-nil (f c))

pub later_assoc : {A : Type 0} (a b c : Option A) → later (later a b) c ≡ later a (later b c)
unfolding later
later_assoc a b none = refl
later_assoc a b (some z) = refl

pub later-none : {A : Type 0} (b : Option A) → later none b ≡ b
unfolding later
later-none none = refl
later-none (some z) = refl

reading_of-snoc : (t : List Command) (c : Command) (m : ℕ) → reading_of (t ++ (c ∷ [])) m ≡ later (reading_of t m) (reading_in c m)
unfolding reading_of later
reading_of-snoc [] c m = rw later-none
reading_of-snoc (x ∷ t) c m = simp (reading_of-snoc t c m, later_assoc)

pub ledger_of-snoc : (t : List Command) (c : Command) → ledger_of (t ++ (c ∷ [])) ≡ grown (ledger_of t) c
unfolding ledger_of
ledger_of-snoc t c i =
    record {
      contracts = concat_map_snoc contract_in t c i;
      dates = concat_map_snoc date_in t c i;
      windows = concat_map_snoc window_in t c i;
      instructions = concat_map_snoc instruction_in t c i;
      defaults = concat_map_snoc default_in t c i;
      closed = any_snoc is_close t c i;
      reading = λ m. reading_of-snoc t c m i;
    }

-- ---- no condition holds

abbrev pub Clear : List Condition → Type 0
Clear [] = Unit {0}
Clear (c ∷ cs) = (c.holds ≡ false) × Clear cs

-- the first gives its number where it holds, and else the others decide
module _ (c : Condition) (cs : List Condition) where
  pub at_first : c.holds ≡ true → first_met (c ∷ cs) ≡ some c.number
  unfolding first_met
  at_first h = ap (λ b. elim b as (λ x. Option ℕ) [ true ↦ some c.number | false ↦ first_met cs ]) h

  pub past_first : c.holds ≡ false → first_met (c ∷ cs) ≡ first_met cs
  unfolding first_met
  past_first h = ap (λ b. elim b as (λ x. Option ℕ) [ true ↦ some c.number | false ↦ first_met cs ]) h

pub clear : (cs : List Condition) → first_met cs ≡ none → Clear cs
clear [] e = tt
clear (c ∷ cs) e =
    either c.holds (λ h. absurd (none-ne-some c.number (sym e ∙ at_first c cs h))) (λ h. (h, clear cs (sym (past_first c cs h) ∙ e)))

-- of two lists none holds: of each none does
pub clear_apart : (xs ys : List Condition) → Clear (xs ++ ys) → Clear xs × Clear ys
clear_apart [] ys h = (tt, h)
clear_apart (x ∷ xs) ys h = let r = clear_apart xs ys h.1 in ((h.0, r.0), r.1)

-- ---- each condition, by name, of a command that is taken

-- from its input
pub record InputAllowed (c : Command) : Type 0 where
  pub operands : T (in_range c)
  pub ramps : ramp_too_long c ≡ false
  pub shape : bad_window c ≡ false
  pub dated : no_such_date c ≡ false

-- from the book
pub record BookAllowed (size : ℕ) (g : Ledger) (c : Command) : Type 0 where
  pub not_closed : g.closed ≡ false
  pub agreed : (is_empty g.contracts && not (is_contract c)) ≡ false
  pub only : (not (is_empty g.contracts) && is_contract c) ≡ false
  pub memory : ltb size (cells_for g c) ≡ false

-- from its kind
pub record KindAllowed (g : Ledger) (c : Command) : Type 0 where
  pub early : date_late g c ≡ false
  pub month : other_month g c ≡ false
  pub inside : beyond_span g c ≡ false
  pub verdict : rejected_committed g c ≡ false
  pub after : window_overlaps g c ≡ false
  pub ceased : cease_early g c ≡ false
  pub recovered : issue_early g c ≡ false
  pub windowed : outside_windows g c ≡ false
  pub unread : has_reading g c ≡ false
  pub above : revision_held g c ≡ false
  pub room : table_full g c ≡ false

pub record Allowed (size : ℕ) (g : Ledger) (c : Command) : Type 0 where
  pub input : InputAllowed c
  pub book : BookAllowed size g c
  pub kind : KindAllowed g c

input_allowed : (c : Command) → Clear (input_conditions c) → InputAllowed c
input_allowed c h = record { operands = off_not (in_range c) h.0; ramps = h.1.0; shape = h.1.1.0; dated = h.1.1.1.0 }

book_allowed : (unsound : Bool) (size : ℕ) (g : Ledger) (c : Command) → Clear (book_conditions unsound size g c) → BookAllowed size g c
book_allowed unsound size g c h =
    let (sound, (not_closed, (agreed, (only, (memory, end))))) = h in
    record { not_closed = not_closed; agreed = agreed; only = only; memory = memory }

kind_allowed : (g : Ledger) (c : Command) → Clear (kind_conditions g c) → KindAllowed g c
kind_allowed g c h =
    let (early, (month, (inside, (verdict, (after, (ceased, (recovered, (windowed, (unread, (above, (room, end))))))))))) = h in
    record {
      early = early;
      month = month;
      inside = inside;
      verdict = verdict;
      after = after;
      ceased = ceased;
      recovered = recovered;
      windowed = windowed;
      unread = unread;
      above = above;
      room = room;
    }

pub allowed : (size : ℕ) (g : Ledger) (c : Command) → refusal false size g c ≡ none → Allowed size g c
unfolding refusal conditions
allowed size g c e =
    let book : List Condition = book_conditions false size g c in
    let first = clear_apart (input_conditions c) (book ++ kind_conditions g c) (clear (conditions false size g c) e) in
    let rest = clear_apart book (kind_conditions g c) first.1 in
    record { input = input_allowed c first.0; book = book_allowed false size g c rest.0; kind = kind_allowed g c rest.1 }

-- operands that are not turned down have no number
pub input_clear : (c : Command) → InputAllowed c → input_refusal c ≡ 0
input_clear c a =
    eqb-true (input_refusal c) 0 (input_none c ∙ rw (of_T (in_range c) a.operands, a.ramps, a.dated, a.shape))

-- ---- any list of commands

-- what holds of the commands taken so far, and with one more that is taken, holds of those of any list
pub taken_ind : (size : ℕ) (P : List Command → Type 0)
    → ((t : List Command) (c : Command) → P t → refusal false size (ledger_of t) c ≡ none → P (t ++ (c ∷ [])))
    → (t cs : List Command) → P t → P (taken_after size t cs)
unfolding taken_after
taken_ind size P more t [] p = p
taken_ind size P more t (c ∷ cs) p =
    let r = refusal false size (ledger_of t) c in
    taken_ind size P more (joined r t c) cs (go r refl)
  where
    go : (o : Option ℕ) → refusal false size (ledger_of t) c ≡ o → P (joined o t c)
    go none e = more t c p e
    go (some n) e = p
