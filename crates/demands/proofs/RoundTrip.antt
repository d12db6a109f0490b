-- A book written as a unit file and loaded again is the same book with the same readings: the commands that it is written as are the commands of its file,
-- they are all taken, so that loading ends at the last byte, and they leave its ledger, which fixes the book and what a settlement answers.
use mathlib.Core.Path.{◌≡◌, refl, sym, ap, ◌∙◌, subst, subst⁻¹}
use mathlib.Core.Bool.{true, false, not}
use mathlib.Core.List.{List, [], ◌∷◌, ◌++◌}
use mathlib.Core.Option.{Option, none, some}
use Prim.Native.Nat.{ℕ, suc, ◌+◌, ◌≤◌}
use native.Mathlib.Omega.{arith}
use borrow.Author.Tests.{ltb-false}
use lib.ListN.{length, drop, length-append}
use lib.Seq.{take-append_seam}
use Rattle.book_memory.specs.Meter.{Memory, room_in}
use Rattle.energy.specs.Lists.{concat_map}
use Rattle.energy.proofs.Tests.{of_T, off_not}
use Rattle.commands.specs.Input.{Condition, first_met}
use Rattle.rules.specs.Ledger.{Ledger, ledger_of, cells_in}
use Rattle.rules.specs.Refusal.{refusal, joined, answer_of}
use Rattle.rules.specs.File.{write, written, file_of, commands_from, commands_in}
use Rattle.rules.specs.Reached.{Reached}
use Rattle.rules.specs.Rewritten.{Revised, Rewritten}
use Rattle.commands.specs.declared.entries.Command.{Command}
use Rattle.rules.proofs.Replay.{Accepted}
use Rattle.rules.proofs.Rewritten.{rewritten, written_replay, file_commands}
use Rattle.rules.proofs.Taken.{Clear, clear, grown, ledger_of-snoc}
use Rattle.book.specs.Book.{empty_book, book_cells, ledger_in}
use Rattle.book.specs.Sound.{sound, Shaped}
use Rattle.book.specs.Enter.{enter_book}
use Rattle.book.specs.declared.Book.{Book}
use Rattle.book.proofs.Follow.{Follows, follow, answers, starts}
use Rattle.book.proofs.Month.{cells_sound}
use Rattle.book.proofs.FromCommands.{given, book_reached, same_book_lem}
use Rattle.settle.specs.Settle.{settle_book}
use Rattle.file_read.proofs.Steps.{got_long}
use Rattle.file_load.specs.Load.{LoadedFile, load_from, load}
use Rattle.file_load.proofs.From.{past_end, by_turns}
use Rattle.file_write.specs.Write.{write_conditions, written_by, write_book}
use Rattle.demands.specs.Files.{File·theorem}
use Rattle.demands.specs.RoundTrip.{bytes_in, InBytes, SameAgain, RoundTrip·theorem}
use Rattle.demands.proofs.Along.{Along}
use Rattle.demands.proofs.Settled.{refused_taken}
use Rattle.demands.proofs.Files.{file_right, taken_along}
use Rattle.rules.specs.Answer.{Taken, End}
use Rattle.std.specs.Prelude.{Ok, Err}

-- ---- what was written

-- the conditions under which a book is written: it is sound, lent memory has the cells for it, and the lent bytes hold its file
record Writable (b : Book) (memory : Memory) (bytes : List ℕ) (size : ℕ) : Type 0 where
  sound : sound b ≡ true
  cells : cells_in (ledger_in b memory) ≤ room_in memory
  file : bytes_in size (write_book b memory bytes) ≡ file_of (ledger_in b memory)

writable : (b : Book) (memory : Memory) (bytes : List ℕ) (size : ℕ) → (write_book b memory bytes).answer ≡ Ok size → Writable b memory bytes size
unfolding write_book write_conditions
writable b memory bytes size e = go (first_met met) refl e
  where
    g : Ledger
    g = ledger_in b memory

    met : List Condition
    met = write_conditions (not (sound b)) (room_in memory) (length bytes) g

    go : (o : Option ℕ) → first_met met ≡ o → (written_by o g bytes).answer ≡ Ok size → Writable b memory bytes size
    go none q h =
        let c : Clear met = clear met q in
        let whole : length (file_of g) ≡ size = cc in
        record {
          sound = of_T (sound b) (off_not (sound b) c.0);
          cells = ltb-false (room_in memory) (cells_in g) c.1.0;
          file =
              ap (λ o. bytes_in size (written_by o g bytes)) q ∙ rw (← whole) (take-append_seam (file_of g) (drop (length (file_of g)) bytes));
        }
    go (some n) q h = cc

-- ---- loaded again

-- a file of nothing but commands that are taken is taken
module _ (file : List ℕ) {size : ℕ} where
  all_loaded : (n at : ℕ) (b : Book) (m : Memory) (t : List Command) → Follows size t b m → Accepted size (ledger_of t) (commands_from n file at)
      → length file ≡ at + length (concat_map write (commands_from n file at))
      → (load_from n file at b m).loaded.answer ≡ Taken
  unfolding commands_from Accepted concat_map
  all_loaded =
      by_turns file
      (λ n at b m l. (t : List Command) → Follows size t b m → Accepted size (ledger_of t) (commands_from n file at)
      → length file ≡ at + length (concat_map write (commands_from n file at))
      → l.loaded.answer ≡ Taken)
      (λ at b m t f a l. refl) (λ n at b m e t f a l. refl)
      (λ n at b m x e t f a l.
      let none : commands_from (suc n) file at ≡ [] = rw e in
      let z : Err x ≡ End = sym e ∙ past_end file at (omega (arith, l, ap (λ cs. length (concat_map write cs)) none)) in
      absurd (let o : ◌≡◌ {A = ℕ} 0 1 = cc in omega arith))
      (λ n at b m c next x e r t f a l.
      let first = rw e at a in
      absurd (refused_taken x (sym r ∙ answers c f ∙ ap answer_of first.0)))
      (λ n at b m c next e r loaded rest t f a l.
      let cs = commands_from n file next in
      let first : (refusal false size (ledger_of t) c ≡ none) × Accepted size (grown (ledger_of t) c) cs = rw e at a in
      let long : length file ≡ at + length (write c ++ concat_map write cs) = rw e at l in
      rest (t ++ c ∷ []) (subst (λ o. Follows size (joined o t c) (enter_book b m c).entry.book (enter_book b m c).meter) first.0 (follow c f))
      (rw ledger_of-snoc first.1) (omega (arith, got_long file at e, length-append (write c) (concat_map write cs))))

-- so is the file of a ledger that commands leave
file_taken : (fresh : Memory) (g : Ledger) → Reached (room_in fresh) g → Revised g → (load (file_of g) empty_book fresh).loaded.answer ≡ Taken
unfolding load commands_in file_of
file_taken fresh g r v =
    let size : ℕ = room_in fresh in
    let cs : List Command = commands_in (file_of g) in
    let back : cs ≡ written g = file_commands size g r v in
    let long : length (file_of g) ≡ length (concat_map write cs) = ap (λ cs. length (concat_map write cs)) (sym back) in
    all_loaded (file_of g) (length (file_of g)) 0 empty_book fresh [] (starts fresh)
    (subst⁻¹ (λ cs. Accepted size (ledger_of []) cs) back (written_replay size g r v).accepted)
    (omega (arith, long))

-- what a book's minutes hold is in bytes where its memory is
bytes_revised : (b : Book) (memory : Memory) → InBytes memory → Revised (ledger_in b memory)
bytes_revised b memory h m x e = omega (arith, h m, (given b memory m x e).byte)

again : (b : Book) (memory fresh : Memory) → Shaped b → InBytes memory → sound b ≡ true → book_cells b ≤ room_in fresh → room_in fresh ≡ room_in memory
    → SameAgain b memory (file_of (ledger_in b memory)) (load (file_of (ledger_in b memory)) empty_book fresh)
unfolding File·theorem settle_book
again b memory fresh s byte e h n =
    let g : Ledger = ledger_in b memory in
    let l : LoadedFile = load (file_of g) empty_book fresh in
    let r : Reached (room_in fresh) g = book_reached b memory (room_in fresh) e h in
    let v : Revised g = bytes_revised b memory byte in
    let w : Rewritten (room_in fresh) g = rewritten (room_in fresh) g r v in
    let taken : l.loaded.answer ≡ Taken = file_taken fresh g r v in
    let a : Along fresh (written g) l.loaded.book l.meter =
    subst (λ cs. Along fresh cs l.loaded.book l.meter) (file_commands (room_in fresh) g r v) (taken_along (file_of g) fresh taken) in
    let f : Follows (room_in fresh) (written g) l.loaded.book l.meter = a.follows in
    let same : ledger_in l.loaded.book l.meter ≡ g = f.ledger ∙ w.same in
    let book : l.loaded.book ≡ b = same_book_lem l.loaded.book b l.meter memory f.stands.shaped s f.stands.sound e same in
    record {
      answer = taken;
      ended = (file_right (file_of g) fresh []).ended taken;
      same_book = book;
      same_readings = λ m. ap (λ x. (ledger_in x l.meter).reading m) (sym book) ∙ ap (λ g. g.reading m) same;
      same_settlement = λ records. rw (f.stands.sound, f.stands.memory, same, n, e);
    }

pub round_trip : RoundTrip·theorem
unfolding RoundTrip·theorem
round_trip b memory fresh bytes size s byte n e =
    let w : Writable b memory bytes size = writable b memory bytes size e in
    subst⁻¹ (λ file. SameAgain b memory file (load file empty_book fresh)) w.file
    (again b memory fresh s byte w.sound (omega (arith, n, w.cells, cells_sound b memory w.sound)) n)
