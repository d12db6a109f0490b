-- Tables of windows and instructions that could be entered: what they say of each entry, and one entry more.
use mathlib.Core.Path.{◌≡◌, refl}
use mathlib.Core.Bool.{Bool, false, not, ◌&&◌, ◌||◌}
use mathlib.Core.List.{List, [], ◌∷◌, ◌++◌}
use Prim.Native.Nat.{ℕ, ◌+◌, ◌%◌, ◌≤◌, ◌<◌}
use lib.Dec.{T, eqb, leb, ltb, leb→le, eqb→eq}
use borrow.Author.Tests.{leb-false, ltb-false, le-leb}
use Rattle.energy.specs.Lists.{all, any, last}
use Rattle.energy.proofs.Tests.{T_and, and_T, of_T, off_not, off_or, all_mono, or-T, any_snoc}
use Rattle.commands.specs.Input.{from_to, in_range, bad_window, most_minute}
use Rattle.rules.specs.Ledger.{expiry, end_of, within}
use Rattle.rules.specs.Refusal.{recovered}
use Rattle.rules.specs.Reached.{windows_sound, instructions_sound, default_sound}
use Rattle.commands.specs.declared.contract.Contract.{Contract}
use Rattle.commands.specs.declared.entries.Window.{Window}
use Rattle.commands.specs.declared.entries.Instruction.{Instruction}
use Rattle.commands.specs.declared.entries.Default.{Default}
use Rattle.commands.specs.declared.entries.Command.TheVariants.{Window as windowᶜ, Instruction as instructionᶜ, Default as defaultᶜ}
use Rattle.commands.proofs.Chain.{chain, apart, not_on}
use Rattle.commands.proofs.Terms.{bounds}

-- ---- tables in which each entry goes by the one before it

-- what f gives of the last entry, e where there is none
unfoldable pub last_of : {A : Type 0} → (A → ℕ) → ℕ → List A → ℕ
last_of f e [] = e
last_of f e (x ∷ xs) = last_of f (f x) xs

module _ {A : Type 0} (f : A → ℕ) where
  pub last_of_lem : (d : A) (xs : List A) → last_of f (f d) xs ≡ f (last d xs)
  unfolding last last_of
  last_of_lem d [] = refl
  last_of_lem d (x ∷ xs) = last_of_lem x xs

  pub last_snoc : (e : ℕ) (xs : List A) (x : A) → last_of f e (xs ++ (x ∷ [])) ≡ f x
  unfolding last_of
  last_snoc e [] x = refl
  last_snoc e (y ∷ xs) x = last_snoc (f y) xs x

  -- one entry more, after the last
  sound-snoc : (test : ℕ → A → Bool) (sound : ℕ → List A → Bool) → ((e : ℕ) (x : A) (xs : List A) → sound e (x ∷ xs) ≡ (test e x && sound (f x) xs))
      → (e : ℕ) (xs : List A) (x : A) → T (sound e xs) → T (sound (last_of f e xs) (x ∷ [])) → T (sound e (xs ++ (x ∷ [])))
  unfolding last_of
  sound-snoc test sound cons e [] x t s = s
  sound-snoc test sound cons e (y ∷ xs) x t s =
      let q = T_and (test e y) (sound (f y) xs) (rw cons at t) in
      rw cons (and_T (test e y) (sound (f y) (xs ++ (x ∷ []))) q.0 (sound-snoc test sound cons (f y) xs x q.1 s))

-- ---- windows

-- the tests of one window after minute e
abbrev pub window_tests : Contract → ℕ → ℕ → Window → List Bool
window_tests k span e w =
    not (bad_window (windowᶜ w))
    ∷ leb w.end.0 span
    ∷ not (eqb k.service 0 && eqb w.verdict 1)
    ∷ leb e w.start.0
    ∷ []

-- what they come to
pub record WindowFits (k : Contract) (span e : ℕ) (w : Window) : Type 0 where
  pub start : w.start.0 % 30 ≡ 0
  pub end : w.end.0 % 30 ≡ 0
  pub order : w.start.0 < w.end.0
  pub inside : w.end.0 ≤ span
  pub after : e ≤ w.start.0
  pub verdict : w.verdict ≤ 1

-- a table of windows taken apart at its first
pub windows-cons : (k : Contract) (span e : ℕ) (w : Window) (ws : List Window) → T (windows_sound k span e (w ∷ ws))
    → WindowFits k span e w × T (windows_sound k span w.end.0 ws)
unfolding windows_sound
windows-cons k span e w ws t =
    let q = T_and (chain (in_range (windowᶜ w)) (window_tests k span e w)) (windows_sound k span w.end.0 ws) t in
    let p = apart (in_range (windowᶜ w)) (window_tests k span e w) q.0 in
    let r = apart (from_to 0 most_minute w.start.0) (from_to 0 most_minute w.end.0 ∷ from_to 0 1 w.verdict ∷ []) p.0 in
    let wrong =
    off_or (leb w.end.0 w.start.0 || not (eqb (w.start.0 % 30) 0)) (not (eqb (w.end.0 % 30) 0)) (not_on (bad_window (windowᶜ w)) p.1.0) in
    let wrong' = off_or (leb w.end.0 w.start.0) (not (eqb (w.start.0 % 30) 0)) wrong.0 in (
      record {
        start = eqb→eq (w.start.0 % 30) 0 (off_not (eqb (w.start.0 % 30) 0) wrong'.1);
        end = eqb→eq (w.end.0 % 30) 0 (off_not (eqb (w.end.0 % 30) 0) wrong.1);
        order = leb-false w.end.0 w.start.0 wrong'.0;
        inside = leb→le w.end.0 span p.1.1.0;
        after = leb→le e w.start.0 p.1.1.1.1.0;
        verdict = (bounds 0 1 w.verdict r.1.1.0).1;
      },
      q.1,
    )

-- the end of the last window, e where there is none
abbrev pub last_end : ℕ → List Window → ℕ
last_end = last_of (λ (w : Window). w.end.0)

-- one window, by the conditions that do not turn it down
pub one_window : (k : Contract) (span e : ℕ) (w : Window) → T (in_range (windowᶜ w)) → bad_window (windowᶜ w) ≡ false → ltb span w.end.0 ≡ false
    → (eqb k.service 0 && eqb w.verdict 1) ≡ false → ltb w.start.0 e ≡ false → T (windows_sound k span e (w ∷ []))
unfolding windows_sound
one_window k span e w operands shape inside verdict after =
    let ends : w.end.0 ≤ span = ltb-false span w.end.0 inside in
    let starts : e ≤ w.start.0 = ltb-false w.start.0 e after in
    rw (of_T (in_range (windowᶜ w)) operands, shape, le-leb w.end.0 span ends, verdict, le-leb e w.start.0 starts) tt

-- one window more, after the last
pub windows-snoc : (k : Contract) (span e : ℕ) (ws : List Window) (w : Window) → T (windows_sound k span e ws) → T (windows_sound k span (last_end e ws) (w ∷ []))
    → T (windows_sound k span e (ws ++ (w ∷ [])))
unfolding windows_sound
windows-snoc k span =
    sound-snoc (λ (w : Window). w.end.0) (λ e w. chain (in_range (windowᶜ w)) (window_tests k span e w)) (windows_sound k span) (λ e w ws. refl)

-- ---- instructions

-- the tests of one instruction after minute e
abbrev pub instruction_tests : Contract → ℕ → ℕ → Instruction → List Bool
instruction_tests k span e i = leb (end_of k i) span ∷ leb (expiry k i) i.cease.0 ∷ leb e i.issue.0 ∷ []

-- what they come to
pub record InstructionFits (k : Contract) (span e : ℕ) (i : Instruction) : Type 0 where
  pub issue : (3 ≤ i.issue.0) × (i.issue.0 ≤ most_minute)
  pub cease : i.cease.0 ≤ most_minute
  pub inside : end_of k i ≤ span
  pub ceased : expiry k i ≤ i.cease.0
  pub after : e ≤ i.issue.0

-- a table of instructions taken apart at its first
pub instructions_cons : (k : Contract) (span e : ℕ) (i : Instruction) (is : List Instruction) → T (instructions_sound k span e (i ∷ is))
    → InstructionFits k span e i × T (instructions_sound k span (end_of k i + k.recovery.0) is)
unfolding instructions_sound
instructions_cons k span e i is t =
    let q = T_and (chain (in_range (instructionᶜ i)) (instruction_tests k span e i)) (instructions_sound k span (end_of k i + k.recovery.0) is) t in
    let p = apart (in_range (instructionᶜ i)) (instruction_tests k span e i) q.0 in
    let r = T_and (from_to 3 most_minute i.issue.0) (from_to 0 most_minute i.cease.0) p.0 in (
      record {
        issue = bounds 3 most_minute i.issue.0 r.0;
        cease = (bounds 0 most_minute i.cease.0 r.1).1;
        inside = leb→le (end_of k i) span p.1.0;
        ceased = leb→le (expiry k i) i.cease.0 p.1.1.0;
        after = leb→le e i.issue.0 p.1.1.1.0;
      },
      q.1,
    )

-- when an instruction may be issued after those before it
abbrev pub ready : Contract → ℕ → List Instruction → ℕ
ready k = last_of (λ (i : Instruction). end_of k i + k.recovery.0)

pub ready_recovered : (k : Contract) (is : List Instruction) → ready k 0 is ≡ recovered k is
unfolding last_of
ready_recovered k [] = refl
ready_recovered k (i ∷ is) = last_of_lem (λ (i : Instruction). end_of k i + k.recovery.0) i is

-- one instruction, by the conditions that do not turn it down
pub one_instruction : (k : Contract) (span e : ℕ) (i : Instruction) → T (in_range (instructionᶜ i)) → ltb span (end_of k i) ≡ false
    → ltb i.cease.0 (expiry k i) ≡ false → ltb i.issue.0 e ≡ false → T (instructions_sound k span e (i ∷ []))
unfolding instructions_sound
one_instruction k span e i operands inside ceased after =
    let ends : end_of k i ≤ span = ltb-false span (end_of k i) inside in
    let expires : expiry k i ≤ i.cease.0 = ltb-false i.cease.0 (expiry k i) ceased in
    let issued : e ≤ i.issue.0 = ltb-false i.issue.0 e after in
    let o = of_T (in_range (instructionᶜ i)) operands in
    rw (o, le-leb (end_of k i) span ends, le-leb (expiry k i) i.cease.0 expires, le-leb e i.issue.0 issued) tt

-- one instruction more, after the last
pub instructions_snoc : (k : Contract) (span e : ℕ) (is : List Instruction) (i : Instruction) → T (instructions_sound k span e is)
    → T (instructions_sound k span (ready k e is) (i ∷ [])) → T (instructions_sound k span e (is ++ (i ∷ [])))
unfolding instructions_sound
instructions_snoc k span =
    sound-snoc (λ (i : Instruction). end_of k i + k.recovery.0) (λ e i. chain (in_range (instructionᶜ i)) (instruction_tests k span e i))
    (instructions_sound k span) (λ e i is. refl)

-- ---- defaults

-- a default stays in a window of the table when there is one window more
pub defaults_more : (k : Contract) (span : ℕ) (ws : List Window) (w : Window) (ds : List Default) → T (all (default_sound k span ws) ds)
    → T (all (default_sound k span (ws ++ (w ∷ []))) ds)
defaults_more k span ws w ds t = all_mono (default_sound k span ws) (default_sound k span (ws ++ (w ∷ []))) ds one t
  where
    one : (d : Default) → T (default_sound k span ws d) → T (default_sound k span (ws ++ (w ∷ [])) d)
    one d q =
        let a : Bool = in_range (defaultᶜ d) && ltb d.minute.0 span in
        let r = T_and a (any (λ w. within w d.minute.0) ws) q in
        and_T a (any (λ w. within w d.minute.0) (ws ++ (w ∷ []))) r.0
        (rw any_snoc (or-T (any (λ w. within w d.minute.0) ws) (within w d.minute.0) r.1))
