-- Laws by the command's kind, where every kind but one says the same: the one kind, and all others by what the definitions leave to them.
use mathlib.Core.Path.{◌≡◌, refl}
use Prim.Native.Nat.{ℕ, zero, suc, ◌≤◌}
use native.Mathlib.Omega.{arith}
use Rattle.commands.specs.Command.{on_contract, on_date, on_window, on_instruction, on_default, on_reading, on_revision, on_close, on_metered, revised_as}
use Rattle.calendar.specs.declared.Date.{Date}
use Rattle.commands.specs.declared.contract.Contract.{Contract}
use Rattle.commands.specs.declared.entries.Window.{Window}
use Rattle.commands.specs.declared.entries.Instruction.{Instruction}
use Rattle.commands.specs.declared.entries.Default.{Default}
use Rattle.commands.specs.declared.entries.Reading.{Reading}
use Rattle.commands.specs.declared.entries.Revision.{Revision}
use Rattle.commands.specs.declared.entries.Command.{Command}
use Rattle.commands.specs.declared.entries.Command.TheVariants.{Contract as contractᶜ, Date as dateᶜ, Window as windowᶜ}
use Rattle.commands.specs.declared.entries.Command.TheVariants.{Instruction as instructionᶜ, Default as defaultᶜ, Reading as readingᶜ}
use Rattle.commands.specs.declared.entries.Command.TheVariants.{Revision as revisionᶜ, Close as closeᶜ}

-- what the kinds of command say one by one
by_kind : (P : Command → Type 0) → ((k : Contract) → P (contractᶜ k)) → ((d : Date) → P (dateᶜ d)) → ((w : Window) → P (windowᶜ w))
    → ((i : Instruction) → P (instructionᶜ i)) → ((d : Default) → P (defaultᶜ d)) → ((r : Reading) → P (readingᶜ r)) → ((v : Revision) → P (revisionᶜ v))
    → P closeᶜ → (c : Command) → P c
by_kind P k t w i d r v z (contractᶜ x) = k x
by_kind P k t w i d r v z (dateᶜ x) = t x
by_kind P k t w i d r v z (windowᶜ x) = w x
by_kind P k t w i d r v z (instructionᶜ x) = i x
by_kind P k t w i d r v z (defaultᶜ x) = d x
by_kind P k t w i d r v z (readingᶜ x) = r x
by_kind P k t w i d r v z (revisionᶜ x) = v x
by_kind P k t w i d r v z closeᶜ = z

-- a command of another kind: what a definition says of that kind, it leaves to the next
abbrev pub Not : {X : Type 0} → ((A : Type 0) → (X → A) → (Command → A) → Command → A) → Command → Type 1
Not {X} on c = (A : Type 0) (f : X → A) (g : Command → A) → on A f g c ≡ g c

module _ (P : Command → Type 0) where
  pub contract_or_not : ((k : Contract) → P (contractᶜ k)) → ((c : Command) → Not (λ A. on_contract) c → P c) → (c : Command) → P c
  contract_or_not f g =
      by_kind P f (λ t. g _ (λ A p q. refl)) (λ w. g _ (λ A p q. refl)) (λ i. g _ (λ A p q. refl))
      (λ d. g _ (λ A p q. refl)) (λ r. g _ (λ A p q. refl)) (λ v. g _ (λ A p q. refl)) (g _ (λ A p q. refl))

  pub date_or_not : ((d : Date) → P (dateᶜ d)) → ((c : Command) → Not (λ A. on_date) c → P c) → (c : Command) → P c
  date_or_not f g =
      by_kind P (λ k. g _ (λ A p q. refl)) f (λ w. g _ (λ A p q. refl)) (λ i. g _ (λ A p q. refl))
      (λ d. g _ (λ A p q. refl)) (λ r. g _ (λ A p q. refl)) (λ v. g _ (λ A p q. refl)) (g _ (λ A p q. refl))

  pub window_or_not : ((w : Window) → P (windowᶜ w)) → ((c : Command) → Not (λ A. on_window) c → P c) → (c : Command) → P c
  window_or_not f g =
      by_kind P (λ k. g _ (λ A p q. refl)) (λ t. g _ (λ A p q. refl)) f (λ i. g _ (λ A p q. refl))
      (λ d. g _ (λ A p q. refl)) (λ r. g _ (λ A p q. refl)) (λ v. g _ (λ A p q. refl)) (g _ (λ A p q. refl))

  pub instruction_or_not : ((i : Instruction) → P (instructionᶜ i)) → ((c : Command) → Not (λ A. on_instruction) c → P c) → (c : Command) → P c
  instruction_or_not f g =
      by_kind P (λ k. g _ (λ A p q. refl)) (λ t. g _ (λ A p q. refl)) (λ w. g _ (λ A p q. refl)) f
      (λ d. g _ (λ A p q. refl)) (λ r. g _ (λ A p q. refl)) (λ v. g _ (λ A p q. refl)) (g _ (λ A p q. refl))

  pub default_or_not : ((d : Default) → P (defaultᶜ d)) → ((c : Command) → Not (λ A. on_default) c → P c) → (c : Command) → P c
  default_or_not f g =
      by_kind P (λ k. g _ (λ A p q. refl)) (λ t. g _ (λ A p q. refl)) (λ w. g _ (λ A p q. refl)) (λ i. g _ (λ A p q. refl))
      f (λ r. g _ (λ A p q. refl)) (λ v. g _ (λ A p q. refl)) (g _ (λ A p q. refl))

  pub close_or_not : P closeᶜ → ((c : Command) → Not {X = Unit} (λ A f. on_close (f tt)) c → P c) → (c : Command) → P c
  close_or_not f g =
      by_kind P (λ k. g _ (λ A p q. refl)) (λ t. g _ (λ A p q. refl)) (λ w. g _ (λ A p q. refl)) (λ i. g _ (λ A p q. refl))
      (λ d. g _ (λ A p q. refl)) (λ r. g _ (λ A p q. refl)) (λ v. g _ (λ A p q. refl)) f

  -- a reading of either kind, or neither
  pub metered_or_not : ((r : Reading) → P (readingᶜ r)) → ((v : Revision) → P (revisionᶜ v))
      → ((c : Command) → Not (λ A. on_reading) c → Not (λ A. on_revision) c → P c) → (c : Command) → P c
  metered_or_not f h g =
      by_kind P (λ k. g _ (λ A p q. refl) (λ A p q. refl)) (λ t. g _ (λ A p q. refl) (λ A p q. refl)) (λ w. g _ (λ A p q. refl) (λ A p q. refl))
      (λ i. g _ (λ A p q. refl) (λ A p q. refl)) (λ d. g _ (λ A p q. refl) (λ A p q. refl)) f h (g _ (λ A p q. refl) (λ A p q. refl))

-- ---- a reading by its revision

-- what goes by reading and revision goes by the command that is made of them
pub on-revised : {A : Type 0} (f : ℕ → Reading → A) (g : Command → A) (n : ℕ) (r : Reading) → on_metered f g (revised_as n r) ≡ f n r
on-revised f g zero r = refl
on-revised f g (suc n) r = refl

-- a revision with a number above 0 is made of it and its reading
pub revised_is : (v : Revision) → 1 ≤ v.number → revised_as v.number v.reading ≡ revisionᶜ v
revised_is v l = go v.number l
  where
    go : (n : ℕ) → 1 ≤ n → revised_as n v.reading ≡ revisionᶜ (record { number = n; reading = v.reading })
    go zero l = absurd (omega arith)
    go (suc n) l = refl

-- a command made of a reading is no contract
pub revised_not : {A : Type 0} (f : Contract → A) (g : Command → A) (n : ℕ) (r : Reading) → on_contract f g (revised_as n r) ≡ g (revised_as n r)
revised_not f g zero r = refl
revised_not f g (suc n) r = refl
