-- Inner, and for hosts: a step over plain numbers. The totals are the first seven numbers of memory that the host lends and keeps.
use Rattle.std.specs.Prelude.{Bool, cond, ◌&&◌, List, [], ◌∷◌, ◌++◌, ℕ, leb, ℤ, pos, negsuc, nat_abs, length, drop, Result, Ok, Err}
use Rattle.energy.specs.Energy.{cell}
use Rattle.commands.specs.Input.{from_to_ℤ}
use Rattle.commands.specs.declared.entries.Reading.{Reading}
use Rattle.watch_step.specs.Step.{step_of, refused_number}
use Rattle.watch_step.specs.declared.step.NotStepped.{NotStepped}
use Rattle.watch_step.specs.declared.step.NotStepped.TheVariants.{Unfit}
use Rattle.watch_step.specs.declared.totals.Totals.{Totals}

-- how many numbers totals are
abbrev pub total_count : ℕ
total_count = 7

-- totals as numbers: instruction, minute, base load, the two sums, capped kWh, pence
abbrev pub numbers_of : Totals → List ℤ
numbers_of s =
    pos s.instruction
    ∷ pos s.minute.0
    ∷ s.base
    ∷ s.expected
    ∷ s.delivered
    ∷ s.capped.0
    ∷ s.pence.0
    ∷ []

-- a number of 32 bits, with a sign
abbrev pub is_sum : ℤ → Bool
is_sum z = from_to_ℤ (negsuc 2147483647) (pos 2147483647) z

-- the memory holds totals: seven numbers at least, the first five each in the range of its type
unfoldable pub are_totals : List ℤ → Bool
are_totals xs =
    leb total_count (length xs) && from_to_ℤ (pos 0) (pos 4294967295) (cell xs 0) && from_to_ℤ (pos 0) (pos 65535) (cell xs 1) && is_sum (cell xs 2)
    && is_sum (cell xs 3)
    && is_sum (cell xs 4)

-- the totals that it holds
unfoldable pub totals_in : List ℤ → Totals
totals_in xs =
    record {
      instruction = nat_abs (cell xs 0);
      minute = record { 0 = nat_abs (cell xs 1) };
      base = cell xs 2;
      expected = cell xs 3;
      delivered = cell xs 4;
      capped = record { 0 = cell xs 5 };
      pence = record { 0 = cell xs 6 };
    }

-- what a step over numbers is: the number that it answers, and the memory after it
pub record SteppedNumbers : Type 0 where
  pub number : ℕ
  pub memory : List ℤ

-- what a call answers and leaves, as one
abbrev pub stepped_numbers : ℕ → List ℤ → SteppedNumbers
stepped_numbers n xs = record { number = n; memory = xs }

-- a step as numbers: where it is taken, which is 0, its totals stand in place of those before; else the memory is as it was
abbrev pub written_back : Result Totals NotStepped → List ℤ → SteppedNumbers
written_back (Ok after) xs = stepped_numbers 0 (numbers_of after ++ drop total_count xs)
written_back (Err e) xs = stepped_numbers (refused_number e) xs

-- one step over numbers: that of the totals in the memory; memory that holds none is unfit, and as it was
unfoldable pub step_numbers : List ℕ → List ℤ → ℕ → Reading → List ℤ → SteppedNumbers
step_numbers month xs n r base =
    cond (are_totals xs) (written_back (step_of month (totals_in xs) n r base) xs) (stepped_numbers (refused_number Unfit) xs)
