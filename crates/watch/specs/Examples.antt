-- Proved of the rules: live totals by example: where sums begin anew, when a line is counted, whose base load it is and at which rate it pays.
use Rattle.std.specs.Prelude.{◌≡◌, ◌∷◌, ◌++◌, ℕ, ℤ, pos, length, replicate, set}
use Rattle.rules.specs.Delivered.{touching}
use Rattle.rules.specs.Examples.{agree, guide, service, flexible, accepted, rejected, offer, instructed, readings_from, minus}
use Rattle.rules.specs.Examples.{appendix2, appendix3, ledger, two_days}
use Rattle.rules.specs.Floor.{reducer_rises, stopped}
use Rattle.rules.specs.Ledger.{Ledger}
use Rattle.watch_step.specs.declared.totals.Totals.{Totals}
use Rattle.watch.specs.Running.{active_minutes, running_of}

-- totals: instruction and minute; base load; expected and delivered; capped kWh and pence
abbrev pub total : ℕ → ℕ → ℤ → ℤ → ℤ → ℤ → ℤ → Totals
total n m base x d c p =
    record {
      instruction = n;
      minute = record { 0 = m };
      base = base;
      expected = x;
      delivered = d;
      capped = record { 0 = c };
      pence = record { 0 = p };
    }

-- a ramp up over the end of a period, with a delivery of 1,000 kW
abbrev pub across_periods : Ledger
across_periods = ledger (agree guide ∷ instructed 13 33 ∷ (readings_from 10 (replicate 4 (pos 0)) ++ readings_from 27 (replicate 12 (pos 1000))))

-- an accepted window in which the response expires, and a rejected one in which the ramp down lies
abbrev pub anchored : Ledger
anchored =
    ledger
    (agree (set guide service flexible) ∷ offer 30 60 accepted ∷ offer 60 90 rejected ∷ instructed 10 60
    ∷ (readings_from 7 (replicate 4 (pos 0)) ++ readings_from 24 (replicate 42 (pos 12000))))

-- the second day's first minutes
abbrev pub next_day : Ledger
next_day = two_days guide (instructed 1443 1463 ∷ (readings_from 1440 (replicate 4 (minus 1000)) ++ readings_from 1457 (replicate 12 (minus 500))))

-- the states
pub record Examples : Type 0 where
  -- F1: before the first minute, in the ramp up, at its end, where the steady stage begins, and after the last minute
  pub F1-before : running_of (ledger appendix2) 0 ≡ total 0 0 (pos 0) (pos 0) (pos 0) (pos 0) (pos 0)
  pub F1-20 : running_of (ledger appendix2) 2 ≡ total 1 20 (pos 0) (pos 48000) (pos 8000) (pos 0) (pos 0)
  pub F1-24 : running_of (ledger appendix2) 6 ≡ total 1 24 (pos 0) (pos 144000) (pos 120000) (pos 500) (pos 15000)
  pub F1-25 : running_of (ledger appendix2) 7 ≡ total 1 25 (pos 0) (pos 48000) (pos 48000) (pos 500) (pos 15000)
  pub F1-90 : running_of (ledger appendix2) 72 ≡ total 1 90 (pos 0) (pos 24000) (pos 12000) (pos 12800) (pos 384000)
  pub F1-minutes : length (active_minutes (ledger appendix2)) ≡ 72
  -- F2, a demand reducer: its base load less its readings
  pub F2-20 : running_of (ledger appendix3) 2 ≡ total 1 20 (pos 60000) (pos 48000) (pos 20000) (pos 0) (pos 0)
  pub F2-90 : running_of (ledger appendix3) 72 ≡ total 1 90 (pos 60000) (pos 24000) (pos 12000) (pos 12900) (pos 387000)
  -- a second instruction, whose base minutes are active ones of the first: the first one's base load stands until its first active minute
  pub second-last : running_of (ledger touching) 12 ≡ total 1 28 (pos 0) (pos 144000) (pos 24000) (pos 200) (pos 11000)
  pub second-first : running_of (ledger touching) 13 ≡ total 2 43 (pos 4000) (pos 24000) (pos 8000) (pos 200) (pos 11000)
  pub second_end : running_of (ledger touching) 24 ≡ total 2 54 (pos 4000) (pos 144000) (pos 48000) (pos 600) (pos 33000)
  -- a stage over the end of a period is two segments
  pub period_ends : running_of across_periods 3 ≡ total 1 29 (pos 0) (pos 72000) (pos 12000) (pos 50) (pos 2750)
  pub period_begins : running_of across_periods 4 ≡ total 1 30 (pos 0) (pos 24000) (pos 4000) (pos 50) (pos 2750)
  -- a ramp up pays at the rate of the window in which the response expires, a ramp down at that of the minute before cease
  pub ramp_before : running_of anchored 6 ≡ total 1 29 (pos 0) (pos 144000) (pos 288000) (pos 600) (pos 18000)
  pub ramp_after : running_of anchored 42 ≡ total 1 65 (pos 0) (pos 144000) (pos 288000) (pos 7200) (pos 216000)
  -- on a later day, above a base load below 0
  pub later-day : running_of next_day 6 ≡ total 1 1462 (minus 4000) (pos 144000) (pos 12000) (pos 50) (pos 2750)
  -- a segment that runs backwards, a generator's and a demand reducer's on a later day: its sum keeps its sign, its line adds nothing, and takes nothing from
  -- the next
  pub backwards : running_of stopped 6 ≡ total 1 24 (pos 120) (pos 144000) (minus 720) (pos 0) (pos 0)
  pub backwards_next : running_of stopped 7 ≡ total 1 25 (pos 120) (pos 24000) (minus 120) (pos 0) (pos 0)
  pub reducer_ends : running_of reducer_rises 6 ≡ total 1 1462 (pos 4000) (pos 144000) (minus 24000) (pos 0) (pos 0)
  pub reducer_then : running_of reducer_rises 12 ≡ total 1 1468 (pos 4000) (pos 144000) (pos 24000) (pos 100) (pos 5500)
  -- after the last minute nothing more comes
  pub no_more : running_of (ledger touching) 25 ≡ total 2 54 (pos 4000) (pos 144000) (pos 48000) (pos 600) (pos 33000)
