-- Along a list the calls keep to the rules: the reader stands at the place that the file's bytes give, and book and lent memory follow the commands
-- taken. By induction over the list, with one step for each kind of call; what a call is answered goes by the book that follows.
use mathlib.Core.Path.{◌≡◌, refl, sym, ap, ap₂, ◌∙◌, subst, subst⁻¹}
use mathlib.Core.Bool.{false, not}
use mathlib.Core.List.{List, [], ◌∷◌, ◌++◌}
use mathlib.Core.Option.{Option, none, some}
use Prim.Native.Nat.{ℕ}
use lib.ListN.{length}
use Rattle.book_memory.specs.Meter.{Memory, room_in, put_meter}
use Rattle.rules.specs.Ledger.{ledger_of}
use Rattle.rules.specs.Refusal.{refusal, joined, taken, taken_after}
use Rattle.rules.specs.Statement.{settle_refusal}
use Rattle.commands.specs.declared.entries.Command.{Command}
use Rattle.rules.specs.declared.statement.Line.{Line}
use Rattle.book.specs.Book.{empty_book, ledger_in, put_all}
use Rattle.book.specs.Sound.{sound}
use Rattle.book.specs.Enter.{enter_book, entered_by}
use Rattle.book.specs.declared.Book.{Book}
use Rattle.book.proofs.Follow.{Follows, put_follows, answers, starts}
use Rattle.book.proofs.FromCommands.{Leads, leads, same_book_lem}
use Rattle.settle.specs.Settle.{settle_book, settled_by}
use Rattle.demands.specs.Steps.{Step, Call, command, stop, settlement, call_at, State, start, after, says, after_all, outcomes, entered}
use Rattle.demands.specs.Steps.{settled, Place, outset, onwards, place_from, ruled, ruled_from, put_into, left_at}

-- ---- one command more

put_snoc : (memory : Memory) (t : List Command) (c : Command) → put_into memory (t ++ c ∷ []) ≡ put_meter (put_into memory t) c
unfolding put_into
put_snoc memory [] c = refl
put_snoc memory (x ∷ t) c = put_snoc (put_meter memory x) t c

after-snoc : (size : ℕ) (t cs : List Command) (c : Command)
    → taken_after size t (cs ++ c ∷ []) ≡ joined (refusal false size (ledger_of (taken_after size t cs)) c) (taken_after size t cs) c
unfolding taken_after
after-snoc size t [] c = refl
after-snoc size t (x ∷ cs) c = after-snoc size (joined (refusal false size (ledger_of t) x) t x) cs c

pub taken-snoc : (size : ℕ) (cs : List Command) (c : Command)
    → taken size (cs ++ c ∷ []) ≡ joined (refusal false size (ledger_of (taken size cs)) c) (taken size cs) c
unfolding taken
taken-snoc size cs c = after-snoc size [] cs c

-- ---- book and lent memory follow the commands taken

pub record Along (memory : Memory) (t : List Command) (b : Book) (m : Memory) : Type 0 where
  pub follows : Follows (room_in memory) t b m
  pub put : m ≡ put_into memory t

pub sets_out : (memory : Memory) → Along memory [] empty_book memory
unfolding put_into
sets_out memory = record { follows = starts memory; put = refl }

module _ {memory : Memory} {t : List Command} {b : Book} {m : Memory} (a : Along memory t b m) where
  abbrev size : ℕ
  size = room_in memory

  -- a command that is taken is put into both, and a refused one into none
  pub enters : (c : Command) → Along memory (joined (refusal false size (ledger_of t) c) t c) (enter_book b m c).entry.book (enter_book b m c).meter
  unfolding enter_book
  enters c =
      let f : Follows size t b m = a.follows in
      let same : refusal (not (sound b)) (room_in m) (ledger_in b m) c ≡ refusal false size
      (ledger_of t) c = rw (f.stands.sound, f.stands.memory, f.ledger) in
      subst⁻¹ (λ o. Along memory (joined (refusal false size (ledger_of t) c) t c) (entered_by o b m c).entry.book (entered_by o b m c).meter) same
      (go (refusal false size (ledger_of t) c) refl)
    where
      go : (o : Option ℕ) → refusal false size (ledger_of t) c ≡ o → Along memory (joined o t c) (entered_by o b m c).entry.book (entered_by o b m c).meter
      go none e = record { follows = put_follows a.follows c e; put = ap (λ x. put_meter x c) a.put ∙ sym (put_snoc memory t c) }
      go (some n) e = a

  -- a settlement goes by their ledger
  pub settles : (records : List Line) → settle_book b m records ≡ settled_by (settle_refusal false size (length records) (ledger_of t)) (ledger_of t) records
  unfolding settle_book
  settles records = let f : Follows size t b m = a.follows in rw (f.stands.sound, f.stands.memory, f.ledger)

-- the book is the one that they leave
pub book_left : {memory : Memory} {b : Book} {m : Memory} (cs : List Command) → Along memory (taken (room_in memory) cs) b m
    → b ≡ put_all empty_book (taken (room_in memory) cs)
book_left {memory} {b} {m} cs a =
    let f : Follows (room_in memory) (taken (room_in memory) cs) b m = a.follows in
    let l : Leads (room_in memory) (taken (room_in memory) cs) = leads (room_in memory) cs in
    same_book_lem b (put_all empty_book (taken (room_in memory) cs)) m l.meter f.stands.shaped l.follows.stands.shaped f.stands.sound
    l.follows.stands.sound
    (f.ledger ∙ sym l.follows.ledger)

-- ---- at a place of a list

pub record At (memory : Memory) (p : Place) (s : State) : Type 0 where
  pub at : s.at ≡ p.at
  pub along : Along memory (taken (room_in memory) p.commands) s.book s.memory

pub at_start : (memory : Memory) → At memory outset (start memory)
unfolding taken taken_after
at_start memory = record { at = refl; along = sets_out memory }

-- by any call to the next one
next : {memory : Memory} {p : Place} {s : State} → At memory p s → (k : Call) → At memory (onwards p k) (after s k)
next {memory} {p} {s} h (command c at) =
    record {
      at = refl;
      along =
          subst⁻¹ (λ t. Along memory t (enter_book s.book s.memory c).entry.book (enter_book s.book s.memory c).meter)
          (taken-snoc (room_in memory) p.commands c) (enters h.along c);
    }
next h (stop r) = h
next h (settlement records) = h

-- which is answered by the rules
said : {memory : Memory} {p : Place} {s : State} → At memory p s → (k : Call) → says s k ≡ ruled (room_in memory) (taken (room_in memory) p.commands) k
said h (command c at) = ap entered (answers c h.along.follows)
said h (stop r) = refl
said h (settlement records) = ap settled (settles h.along records)

module _ (file : List ℕ) {memory : Memory} where
  -- a step's call is the one at its place
  stepped : {p : Place} {s : State} → At memory p s → (x : Step) → At memory (onwards p (call_at file p.at x)) (after s (call_at file s.at x))
  stepped {p} {s} h x = subst (λ n. At memory (onwards p (call_at file n x)) (after s (call_at file s.at x))) h.at (next h (call_at file s.at x))

  -- the place after a list
  pub at_place : (p : Place) (s : State) (steps : List Step) → At memory p s → At memory (place_from file p steps) (after_all file s steps)
  unfolding place_from after_all
  at_place p s [] h = h
  at_place p s (x ∷ xs) h = at_place (onwards p (call_at file p.at x)) (after s (call_at file s.at x)) xs (stepped h x)

  -- and the outcomes along it
  pub by_rules : (p : Place) (s : State) (steps : List Step) → At memory p s → outcomes file s steps ≡ ruled_from file (room_in memory) p steps
  unfolding outcomes ruled_from
  by_rules p s [] h = refl
  by_rules p s (x ∷ xs) h =
      ap₂ ◌∷◌ (said h (call_at file s.at x) ∙ ap (λ n. ruled (room_in memory) (taken (room_in memory) p.commands) (call_at file n x)) h.at)
      (by_rules (onwards p (call_at file p.at x)) (after s (call_at file s.at x)) xs (stepped h x))

-- the state at a place is what the commands taken leave
pub state_left : {memory : Memory} (p : Place) (s : State) → At memory p s → s ≡ left_at memory p
state_left p s h i = record { at = h.at i; book = book_left p.commands h.along i; memory = h.along.put i }
