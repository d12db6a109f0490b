-- Entering from a position on, with turns enough: more turns than bytes change nothing, so the rest of a file is one definition, `from`, with one
-- step. By induction over the turns: each command read lies behind the position, and past the end there is nothing.
use mathlib.Core.Path.{◌≡◌, refl, sym, ap}
use mathlib.Core.List.{List}
use Prim.Native.Nat.{ℕ, zero, suc, ◌+◌, ◌≤◌, ◌<◌}
use native.Mathlib.Omega.{arith}
use lib.ListN.{length}
use Rattle.book_memory.specs.Meter.{Memory}
use Rattle.rules.specs.File.{read_at}
use Rattle.commands.specs.declared.entries.Command.{Command}
use Rattle.book.specs.Enter.{enter_book, Entered}
use Rattle.book.specs.declared.Book.{Book}
use Rattle.file_read.proofs.Steps.{got_within}
pub use Rattle.rules.proofs.Reread.{at_end as past_end}
use Rattle.file_load.specs.Load.{LoadedFile, ended_at, carries_on, loads_on, load_from}
use Rattle.rules.specs.Answer.{Answer, Taken, Read, Got, End}
use Rattle.std.specs.Prelude.{Err}
use Rattle.commands.specs.declared.refusal.Refusal.{Refusal}

-- a command that is taken is followed by what `go` gives
carried : (go go' : Book → Memory → LoadedFile) (at : ℕ) (a : Answer) (e : Entered) → ((b : Book) (m : Memory) → go b m ≡ go' b m)
    → carries_on go at a e ≡ carries_on go' at a e
carried go go' at Taken e h = h e.entry.book e.meter
carried go go' at (Err r) e h = refl

pub enough : (n k : ℕ) (s : List ℕ) (at : ℕ) (b : Book) (m : Memory) → length s ≤ at + n → length s ≤ at + k → load_from n s at b m ≡ load_from k s at b m
unfolding load_from
enough zero zero s at b m h i = refl
enough zero (suc k) s at b m h i = sym (ap (loads_on (λ next b m. load_from k s next b m) at b m) (past_end s at (omega arith)))
enough (suc n) zero s at b m h i = ap (loads_on (λ next b m. load_from n s next b m) at b m) (past_end s at (omega arith))
enough (suc n) (suc k) s at b m h i = go (λ next b m. enough n k s next b m) (read_at s at) refl
  where
    go : ((next : ℕ) (b : Book) (m : Memory) → length s ≤ next + n → length s ≤ next + k → load_from n s next b m ≡ load_from k s next b m)
        → (r : Read) → read_at s at ≡ r → loads_on (λ next b m. load_from n s next b m) at b m r ≡ loads_on (λ next b m. load_from k s next b m) at b m r
    go rest (Got c next) e =
        let l : (at < next) × (next ≤ length s) = got_within s at e in
        carried (load_from n s next) (load_from k s next) at (enter_book b m c).entry.answer (enter_book b m c)
        (λ b' m'. rest next b' m' (omega arith) (omega arith))
    go rest (Err x) e = refl
    go rest End e = refl

-- all commands from a position on, with turns enough
unfoldable pub from : List ℕ → ℕ → Book → Memory → LoadedFile
from s at b m = load_from (length s) s at b m

pub from_step : (s : List ℕ) (at : ℕ) (b : Book) (m : Memory) → from s at b m ≡ loads_on (λ next b m. from s next b m) at b m (read_at s at)
unfolding from load_from
from_step s at b m = enough (length s) (suc (length s)) s at b m (omega arith) (omega arith)

-- ---- turn by turn: what holds where entering ends, and with a taken command in front of what it holds of, holds of entering from any position on
module _ (s : List ℕ) (P : ℕ → ℕ → Book → Memory → LoadedFile → Type 0)
    (spent : (at : ℕ) (b : Book) (m : Memory) → P 0 at b m (ended_at at Taken b m))
    (ends : (n at : ℕ) (b : Book) (m : Memory) → read_at s at ≡ End → P (suc n) at b m (ended_at at Taken b m))
    (unread : (n at : ℕ) (b : Book) (m : Memory) (x : Refusal) → read_at s at ≡ Err x → P (suc n) at b m (ended_at at (Err x) b m))
    (refused : (n at : ℕ) (b : Book) (m : Memory) (c : Command) (next : ℕ) (x : Refusal) → read_at s at ≡ Got c next → (enter_book b m c).entry.answer ≡ Err x
    → P (suc n) at b m (ended_at at (Err x) (enter_book b m c).entry.book (enter_book b m c).meter))
    (goes : (n at : ℕ) (b : Book) (m : Memory) (c : Command) (next : ℕ) → read_at s at ≡ Got c next → (enter_book b m c).entry.answer ≡ Taken
    → (l : LoadedFile) → P n next (enter_book b m c).entry.book (enter_book b m c).meter l → P (suc n) at b m l) where
  pub by_turns : (n at : ℕ) (b : Book) (m : Memory) → P n at b m (load_from n s at b m)
  unfolding load_from
  by_turns zero at b m = spent at b m
  by_turns (suc n) at b m = go (λ next b m. by_turns n next b m) (read_at s at) refl
    where
      Rest : Type 0
      Rest = (next : ℕ) (b : Book) (m : Memory) → P n next b m (load_from n s next b m)

      answered : Rest → (c : Command) (next : ℕ) → read_at s at ≡ Got c next → (a : Answer) → (enter_book b m c).entry.answer ≡ a
          → P (suc n) at b m (carries_on (load_from n s next) at a (enter_book b m c))
      answered rest c next e Taken f = goes n at b m c next e f _ (rest next (enter_book b m c).entry.book (enter_book b m c).meter)
      answered rest c next e (Err x) f = refused n at b m c next x e f

      go : Rest → (r : Read) → read_at s at ≡ r → P (suc n) at b m (loads_on (λ next b m. load_from n s next b m) at b m r)
      go rest (Got c next) e = answered rest c next e (enter_book b m c).entry.answer refl
      go rest (Err x) e = unread n at b m x e
      go rest End e = ends n at b m e
