-- Entering a whole file is reading and entering it step by step up to the first refusal: by induction over the loop's turns, some reads are all taken,
-- book and lent memory follow them, and what stands behind them decides. A file that is taken ends at its length, since the reader never leaves it.
use mathlib.Core.Path.{◌≡◌, refl, sym, ap, ◌∙◌, subst, subst⁻¹}
use mathlib.Core.Bool.{false}
use mathlib.Core.List.{List, [], ◌∷◌, ◌++◌, append-nil}
use mathlib.Core.Option.{Option, none, some}
use Prim.Native.Nat.{ℕ, zero, suc, ◌+◌, ◌≤◌}
use native.Mathlib.Omega.{arith}
use lib.ListN.{length, replicate}
use lib.Seq.{append_snoc}
use Rattle.book_memory.specs.Meter.{Memory, room_in}
use Rattle.energy.specs.Lists.{concat_map}
use Rattle.rules.specs.Ledger.{ledger_of}
use Rattle.rules.specs.Refusal.{refusal, taken, taken_after, joined, answer_of}
use Rattle.rules.specs.File.{read_at, read_on, write, commands_from, commands_in}
use Rattle.rules.specs.FileLength.{most_taken}
use Rattle.rules.proofs.FileLength.{file_length}
use Rattle.commands.specs.declared.entries.Command.{Command}
use Rattle.book.specs.Book.{empty_book}
use Rattle.book.specs.Enter.{enter_book, Entered}
use Rattle.book.specs.declared.Book.{Book}
use Rattle.book.proofs.Follow.{answers}
use Rattle.file_read.proofs.Steps.{got_within}
use Rattle.file_read.proofs.Pieces.{piece_end}
use Rattle.file_load.specs.Load.{LoadedFile, ended_at, carries_on, loads_on, load_from, load}
use Rattle.file_load.proofs.From.{past_end}
use Rattle.demands.specs.Steps.{read, command, read_call, Place, outset, onwards, place_from, reads_to}
use Rattle.demands.specs.Files.{read_refusal, state_at_end, FileRight, File·theorem}
use Rattle.demands.proofs.Along.{taken-snoc, Along, sets_out, enters, At, state_left}
use Rattle.demands.proofs.Settled.{refused_taken, settlement_right}
use Rattle.demands.proofs.FileReads.{behind}
use Rattle.rules.specs.Answer.{Answer, Taken, Read, Got, End}
use Rattle.std.specs.Prelude.{Err}
use Rattle.commands.specs.Refusals.{refusal_of}
use Rattle.commands.proofs.Outcomes.{refusal_back}

module _ (file : List ℕ) (memory : Memory) where
  abbrev size : ℕ
  size = room_in memory

  -- a place at which every command so far is taken, with the book and lent memory that follow them
  record Ready (p : Place) (b : Book) (m : Memory) : Type 0 where
    inside : p.at ≤ length file
    all_taken : taken size p.commands ≡ p.commands
    along : Along memory p.commands b m

  -- entering from a place on, for so many turns: some reads more bring it to another place, where it ends
  record Ran (n : ℕ) (p : Place) (l : LoadedFile) : Type 0 where
    reads : ℕ
    place : Place
    reached : place_from file p (replicate reads read) ≡ place
    stands : l.loaded.at ≡ place.at
    ready : Ready place l.loaded.book l.meter
    answer : l.loaded.answer ≡ answer_of (read_refusal size place.commands (read_at file place.at))
    ended : l.loaded.answer ≡ Taken → length file ≤ place.at
    whole : l.loaded.answer ≡ Taken → place.commands ≡ p.commands ++ commands_from n file p.at

  -- it ends at once
  stopped : {p : Place} {b : Book} {m : Memory} (n : ℕ) (a : Answer) → Ready p b m → a ≡ answer_of (read_refusal size p.commands (read_at file p.at))
      → (a ≡ Taken → length file ≤ p.at) → (a ≡ Taken → commands_from n file p.at ≡ []) → Ran n p (ended_at p.at a b m)
  unfolding place_from
  stopped {p} n a r e end last =
      record {
        reads = 0;
        place = p;
        reached = refl;
        stands = refl;
        ready = r;
        answer = e;
        ended = end;
        whole = λ t. sym (ap (λ cs. p.commands ++ cs) (last t) ∙ append-nil p.commands);
      }

  -- a command more, behind which the rest ran
  step : (n : ℕ) (p : Place) (c : Command) (next : ℕ) (l : LoadedFile) → read_at file p.at ≡ Got c next → Ran n (onwards p (command c next)) l
      → Ran (suc n) p l
  unfolding place_from commands_from
  step n p c next l e r =
      record {
        reads = suc r.reads;
        place = r.place;
        reached = ap (λ w. place_from file (onwards p (read_call w)) (replicate r.reads read)) e ∙ r.reached;
        stands = r.stands;
        ready = r.ready;
        answer = r.answer;
        ended = r.ended;
        whole = λ t.
            r.whole t ∙ append_snoc p.commands c (commands_from n file next)
            ∙ ap (λ w. p.commands ++ read_on (λ next. commands_from n file next) w) (sym e);
      }

  ran : (n : ℕ) (p : Place) (b : Book) (m : Memory) → length file ≤ p.at + n → Ready p b m → Ran n p (load_from n file p.at b m)
  unfolding load_from commands_from
  ran zero p b m h r =
      stopped 0 Taken r (ap (λ w. answer_of (read_refusal size p.commands w)) (sym (past_end file p.at (omega arith)))) (λ t. omega arith) (λ t. refl)
  ran (suc n) p b m h r = go (λ q b m. ran n q b m) (read_at file p.at) refl
    where
      Rest : Type 0
      Rest = (q : Place) (b : Book) (m : Memory) → length file ≤ q.at + n → Ready q b m → Ran n q (load_from n file q.at b m)

      t : List Command
      t = p.commands

      e : Command → Entered
      e c = enter_book b m c

      decides : {w : Read} → read_at file p.at ≡ w → answer_of (read_refusal size t w) ≡ answer_of (read_refusal size t (read_at file p.at))
      decides got = ap (λ w. answer_of (read_refusal size t w)) (sym got)

      entering : Rest → (c : Command) (next : ℕ) → read_at file p.at ≡ Got c next → (o : Option ℕ) → refusal false size (ledger_of t) c ≡ o
          → Along memory (joined o t c) (e c).entry.book (e c).meter
          → Ran (suc n) p (carries_on (load_from n file next) p.at (answer_of o) (e c))
      entering rest c next got none f a =
          let q : Place = record { at = next; commands = t ++ c ∷ [] } in
          step n p c next (load_from n file next (e c).entry.book (e c).meter) got
          (rest q (e c).entry.book (e c).meter (omega (arith, got_within file p.at got))
          (record {
            inside = (got_within file p.at got).1;
            all_taken = taken-snoc size t c ∙ ap (λ u. joined (refusal false size (ledger_of u) c) u c) r.all_taken ∙ ap (λ o. joined o t c) f;
            along = a;
          }))
      entering rest c next got (some x) f a =
          stopped (suc n) (Err (refusal_of x)) (record { inside = r.inside; all_taken = r.all_taken; along = a }) (sym (ap answer_of f) ∙ decides got)
          (λ d. absurd (refused_taken (refusal_of x) d)) (λ d. absurd (refused_taken (refusal_of x) d))

      go : Rest → (w : Read) → read_at file p.at ≡ w → Ran (suc n) p (loads_on (λ next b m. load_from n file next b m) p.at b m w)
      go rest (Got c next) got =
          subst⁻¹ (λ a. Ran (suc n) p (carries_on (load_from n file next) p.at a (e c))) (answers c r.along.follows)
          (entering rest c next got (refusal false size (ledger_of t) c) refl (enters r.along c))
      go rest (Err x) got = stopped (suc n) (Err x) r (sym (ap Err (refusal_back x)) ∙ decides got) (λ d. absurd (refused_taken x d)) (λ d. absurd (refused_taken x d))
      go rest End got =
          stopped (suc n) Taken r (decides got) (λ d. omega (arith, piece_end file [] p.at got)) (λ d. ap (read_on (λ next. commands_from n file next)) got)

  -- the whole file
  ran_whole : Ran (length file) outset (load file empty_book memory)
  unfolding load taken taken_after
  ran_whole = ran (length file) outset empty_book memory (omega arith) (record { inside = omega arith; all_taken = refl; along = sets_out memory })

  -- a file that is taken leaves what its commands leave
  pub taken_along : (load file empty_book memory).loaded.answer ≡ Taken
      → Along memory (commands_in file) (load file empty_book memory).loaded.book (load file empty_book memory).meter
  unfolding commands_in
  taken_along a =
      let l : LoadedFile = load file empty_book memory in
      subst (λ cs. Along memory cs l.loaded.book l.meter) (ran_whole.whole a) ran_whole.ready.along

pub file_right : File·theorem
unfolding File·theorem commands_in
file_right file memory records =
    let l : LoadedFile = load file empty_book memory in
    let r : Ran file memory (length file) outset l = ran_whole file memory in
    let p : Place = reads_to file r.reads in
    let same : r.place ≡ p = sym r.reached in
    let ready : Ready file memory p l.loaded.book l.meter = subst (λ q. Ready file memory q l.loaded.book l.meter) same r.ready in
    let at : At memory p (state_at_end l) =
    record {
      at = r.stands ∙ ap (λ q. q.at) same;
      along = subst⁻¹ (λ t. Along memory t l.loaded.book l.meter) ready.all_taken ready.along;
    } in
    record {
      reads = r.reads;
      all_taken = ready.all_taken;
      left = state_left p (state_at_end l) at;
      answer = subst (λ q. l.loaded.answer ≡ answer_of (read_refusal (room_in memory) q.commands (read_at file q.at))) same r.answer;
      ended = λ a. omega (arith, r.stands, r.ready.inside, r.ended a);
      whole = λ a. ap (λ q. q.commands) (sym same) ∙ r.whole a;
      settlement = λ a. settlement_right records (taken_along file memory a);
    }

-- ---- where entering stops

-- the commands before it are taken, so it is within the room that tables and lent memory have
pub stops_within : (file : List ℕ) (memory : Memory) → (load file empty_book memory).loaded.at ≤ most_taken (room_in memory)
unfolding File·theorem concat_map
stops_within file memory =
    let r : FileRight file memory [] = file_right file memory [] in
    let cs : List Command = (reads_to file r.reads).commands in
    omega (
      arith,
      ap (λ s. s.at) r.left,
      behind file r.reads outset refl,
      ap (λ x. length (concat_map write x)) r.all_taken,
      file_length.most (room_in memory) cs,
    )
