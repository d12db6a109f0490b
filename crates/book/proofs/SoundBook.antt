-- What a sound book with a contract says of its contract, its windows, its instructions and its defaults, each entry by its place: read off the
-- tests of 11 by the laws that the rules have of tables.
use mathlib.Core.Path.{◌≡◌, sym, ◌∙◌}
use mathlib.Core.Bool.{true, true≢false}
use mathlib.Core.List.{List, [], ◌∷◌}
use Prim.Native.Nat.{ℕ, zero, suc, ◌+◌, ◌%◌, ◌≤◌, ◌<◌}
use native.Mathlib.Omega.{arith}
use lib.Dec.{T, ltb, ltb→lt}
use lib.IntN.{pos}
use lib.ListN.{length, get_or, take}
use Rattle.energy.specs.Lists.{all, any}
use Rattle.energy.proofs.Tests.{T_and}
use Rattle.commands.specs.Input.{kw_of, up_minutes, down_minutes, from_to, in_range, most_minute}
use Rattle.commands.specs.declared.contract.Contract.{Contract}
use Rattle.commands.specs.declared.entries.Default.{Default}
use Rattle.commands.specs.declared.entries.Instruction.{Instruction}
use Rattle.commands.specs.declared.entries.Window.{Window}
use Rattle.commands.specs.declared.entries.Command.TheVariants.{Default as defaultᶜ}
use Rattle.commands.proofs.Chain.{apart, true_or_false}
use Rattle.commands.proofs.Terms.{bounds, terms}
use Rattle.rules.specs.Ledger.{expiry, end_of, within}
use Rattle.rules.specs.Reached.{windows_sound, instructions_sound, default_sound}
use Rattle.rules.proofs.Tables.{windows-cons, instructions_cons}
use Rattle.book_sound.proofs.Search.{in_order}
use Rattle.book.specs.Book.{no_window, no_instruction, no_default, book_span, book_cells}
use Rattle.book.specs.Sound.{sound}
use Rattle.book.specs.declared.Book.{Book}
use Rattle.book.proofs.Month.{cells_most}
use Rattle.book.proofs.SoundTests.{sound-parts, sound_used, sound_empty}

-- ---- the contract

pub record SoundContract (k : Contract) : Type 0 where
  pub days : (1 ≤ k.days) × (k.days ≤ 31)
  pub kw : (3000 ≤ kw_of k) × (kw_of k ≤ 500000)
  pub plain : k.contracted.0 ≡ pos (kw_of k)
  pub response : (1 ≤ k.response.0) × (k.response.0 ≤ 240)
  pub recovery : k.recovery.0 ≤ 1200
  pub availability : k.availability ≤ 1000000
  pub utilisation : k.utilisation ≤ 1000000
  pub optional : k.optional ≤ 1000000
  pub ramp_start : (1 ≤ up_minutes k) × (up_minutes k ≤ k.response.0)
  pub fall : down_minutes k ≤ 240

-- ---- windows

pub record SoundWindow (span : ℕ) (w : Window) : Type 0 where
  pub order : w.start.0 < w.end.0
  pub start : w.start.0 % 30 ≡ 0
  pub end : w.end.0 % 30 ≡ 0
  pub inside : w.end.0 ≤ span

module _ (k : Contract) (span : ℕ) where
  pub record SoundWindows (ws : List Window) : Type 0 where
    pub window : (i : ℕ) → i < length ws → SoundWindow span (get_or ws i no_window)
    pub apart : (i j : ℕ) → i < j → j < length ws → (get_or ws i no_window).end.0 ≤ (get_or ws j no_window).start.0

  each_window : (e : ℕ) (ws : List Window) → T (windows_sound k span e ws) → (i : ℕ) → i < length ws → SoundWindow span (get_or ws i no_window)
  each_window e [] t i h = absurd (omega arith)
  each_window e (w ∷ ws) t zero h =
      let f = (windows-cons k span e w ws t).0 in record { order = f.order; start = f.start; end = f.end; inside = f.inside }
  each_window e (w ∷ ws) t (suc i) h = each_window w.end.0 ws (windows-cons k span e w ws t).1 i (omega arith)

  -- ---- instructions

  pub record SoundCall (i : Instruction) : Type 0 where
    pub three : 3 ≤ i.issue.0
    pub inside : end_of k i ≤ span
    pub steady : expiry k i ≤ i.cease.0

  pub record SoundCalls (is : List Instruction) : Type 0 where
    pub call : (j : ℕ) → j < length is → SoundCall (get_or is j no_instruction)
    pub order : (j : ℕ) → j + 1 < length is → end_of k (get_or is j no_instruction) + k.recovery.0 ≤ (get_or is (j + 1) no_instruction).issue.0

  each_call : (e : ℕ) (is : List Instruction) → T (instructions_sound k span e is) → (j : ℕ) → j < length is → SoundCall (get_or is j no_instruction)
  each_call e [] t j h = absurd (omega arith)
  each_call e (i ∷ is) t zero h =
      let f = (instructions_cons k span e i is t).0 in record { three = f.issue.0; inside = f.inside; steady = f.ceased }
  each_call e (i ∷ is) t (suc j) h = each_call (end_of k i + k.recovery.0) is (instructions_cons k span e i is t).1 j (omega arith)

  -- the first is not issued before minute e
  first-after : (e : ℕ) (is : List Instruction) → T (instructions_sound k span e is) → 0 < length is → e ≤ (get_or is 0 no_instruction).issue.0
  first-after e [] t h = absurd (omega arith)
  first-after e (i ∷ is) t h = (instructions_cons k span e i is t).0.after

  in_turn : (e : ℕ) (is : List Instruction) → T (instructions_sound k span e is) → (j : ℕ) → j + 1 < length is
      → end_of k (get_or is j no_instruction) + k.recovery.0 ≤ (get_or is (j + 1) no_instruction).issue.0
  in_turn e [] t j h = absurd (omega arith)
  in_turn e (i ∷ is) t zero h = first-after (end_of k i + k.recovery.0) is (instructions_cons k span e i is t).1 (omega arith)
  in_turn e (i ∷ is) t (suc j) h =
      let next : suc j + 1 ≡ suc (j + 1) = omega arith in
      rw next (in_turn (end_of k i + k.recovery.0) is (instructions_cons k span e i is t).1 j (omega arith))

  -- ---- defaults

  pub record SoundDefault (x : Default) : Type 0 where
    pub inside : x.minute.0 < span
    pub kind : (1 ≤ x.kind) × (x.kind ≤ 4)
    pub reach : (1 ≤ x.reach) × (x.reach ≤ 3)

  default-sound : (ws : List Window) (x : Default) → T (default_sound k span ws x) → SoundDefault x
  default-sound ws x t =
      let p = apart (in_range (defaultᶜ x)) (ltb x.minute.0 span ∷ any (λ w. within w x.minute.0) ws ∷ []) t in
      let r = apart (from_to 0 most_minute x.minute.0) (from_to 1 4 x.kind ∷ from_to 1 3 x.reach ∷ []) p.0 in
      record { inside = ltb→lt x.minute.0 span p.1.0; kind = bounds 1 4 x.kind r.1.0; reach = bounds 1 3 x.reach r.1.1.0 }

  each_default : (ws : List Window) (ds : List Default) → T (all (default_sound k span ws) ds) → (j : ℕ) → j < length ds → SoundDefault (get_or ds j no_default)
  unfolding all
  each_default ws [] t j h = absurd (omega arith)
  each_default ws (d ∷ ds) t zero h = default-sound ws d (T_and (default_sound k span ws d) (all (default_sound k span ws) ds) t).0
  each_default ws (d ∷ ds) t (suc j) h = each_default ws ds (T_and (default_sound k span ws d) (all (default_sound k span ws) ds) t).1 j (omega arith)

-- ---- the book

pub record SoundBook (b : Book) : Type 0 where
  pub counts : (b.nwindows ≤ 128) × (b.ninstructions ≤ 64) × (b.ndefaults ≤ 128)
  pub contract : SoundContract b.contract
  pub month : book_cells b ≤ most_minute
  pub windows : SoundWindows b.contract (book_span b) (take b.nwindows b.windows)
  pub calls : SoundCalls b.contract (book_span b) (take b.ninstructions b.instructions)
  pub defaults : (j : ℕ) → j < length (take b.ndefaults b.defaults)
      → SoundDefault b.contract (book_span b) (get_or (take b.ndefaults b.defaults) j no_default)

pub sound_book : (b : Book) → sound b ≡ true → b.agreed ≡ true → SoundBook b
sound_book b e s =
    let k : Contract = b.contract in
    let span : ℕ = book_span b in
    let t = (sound-parts b e).tables in
    let p = sound_used b e s in
    let n = terms k p.operands p.ramps in
    let r = n.ranges in
    record {
      counts = (t.windows, t.instructions, t.defaults);
      contract =
          record {
            days = r.days;
            kw = r.contracted;
            plain = r.positive;
            response = r.response;
            recovery = r.recovery;
            availability = r.availability;
            utilisation = r.utilisation;
            optional = r.optional;
            ramp_start = n.up;
            fall = n.down.1;
          };
      month = cells_most b e;
      windows = record { window = each_window k span 0 _ p.windows; apart = (in_order k span 0 _ p.windows).apart };
      calls = record { call = each_call k span 0 _ p.instructions; order = in_turn k span 0 _ p.instructions };
      defaults = each_default k span (take b.nwindows b.windows) _ p.defaults;
    }

-- a closed book has a contract
pub closed_agreed : (b : Book) → sound b ≡ true → b.closed ≡ true → b.agreed ≡ true
closed_agreed b e c = true_or_false b.agreed (λ q. q) (λ q. absurd (true≢false (sym c ∙ (sound_empty b e q).not_closed)))
