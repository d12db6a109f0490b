-- Proved of the rules: "When a command or call is turned down": the numbers of the conditions that each call meets, in their order, and that the
-- first number in this order that applies is given, whenever one applies.
use Rattle.std.specs.Prelude.{◌≡◌, Bool, true, false, ℕ}
use mathlib.Core.List.{List, [], ◌∷◌, ◌++◌, map, Memᴰ}
use Rattle.std.proofs.Math.Option.{some}
use Rattle.energy.specs.Lists.{between, any}
use Rattle.commands.specs.Input.{Condition, ◌when◌, first_met}
use Rattle.rules.specs.Ledger.{Ledger}
use Rattle.rules.specs.Refusal.{conditions}
use Rattle.rules.specs.Statement.{settle_conditions}
use Rattle.rules.specs.File.{write_conditions}
use Rattle.commands.specs.declared.entries.Command.{Command}

-- ---- in order

-- the numbers of conditions
abbrev pub numbers : List Condition → List ℕ
numbers cs = map (λ c. c.number) cs

-- whatever the command, the book and the memory. 1 and 2 are the reader's
pub record Numbered : Type 0 where
  -- a command meets 3 to 5 and 28 from its input and 11 to 23 from the state, with 29 and 30 after 15 and 27 after 22
  pub command :
      (unsound : Bool) (size : ℕ) (g : Ledger) (c : Command)
      → numbers (conditions unsound size g c) ≡ between 3 6 ++ 28 ∷ between 11 16 ++ 29 ∷ 30 ∷ between 16 23 ++ 27 ∷ 23 ∷ []
  -- settling meets 11, 15, 24, 25 and 26
  pub settling :
      (unsound : Bool) (size room : ℕ) (g : Ledger) → numbers (settle_conditions unsound size room g) ≡ 11 ∷ 15 ∷ 24 ∷ 25 ∷ 26 ∷ []
  -- writing meets 11, 15 and 26
  pub writing : (unsound : Bool) (size room : ℕ) (g : Ledger) → numbers (write_conditions unsound size room g) ≡ 11 ∷ 15 ∷ 26 ∷ []

-- ---- the first

-- number n applies: its condition is one of these, and holds
abbrev pub Applies : ℕ → List Condition → Type 0
Applies n cs = Memᴰ (n when true) cs

-- number n applies and none before it does
pub record AppliesFirst (n : ℕ) (cs : List Condition) : Type 0 where
  pub before : List Condition
  pub after : List Condition
  pub stands : cs ≡ before ++ (n when true) ∷ after
  pub none : any (λ (c : Condition). c.holds) before ≡ false

-- the number that is given applies and none before it does, and one is given whenever one applies
pub record GivesFirst (cs : List Condition) : Type 0 where
  pub given : (n : ℕ) → first_met cs ≡ some n → AppliesFirst n cs
  pub whenever : (m : ℕ) → Applies m cs → (n : ℕ) × (first_met cs ≡ some n)

-- so it is of every command, of settling and of writing
pub record First : Type 0 where
  pub command : (unsound : Bool) (size : ℕ) (g : Ledger) (c : Command) → GivesFirst (conditions unsound size g c)
  pub settling : (unsound : Bool) (size room : ℕ) (g : Ledger) → GivesFirst (settle_conditions unsound size room g)
  pub writing : (unsound : Bool) (size room : ℕ) (g : Ledger) → GivesFirst (write_conditions unsound size room g)
