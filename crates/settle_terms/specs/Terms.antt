-- Inner, and proved equal to the rules: what settling reads off a book once: the contract's figures; and the times of an instruction.
use Rattle.std.specs.Prelude.{List, ℕ, get_or}
use Rattle.commands.specs.Input.{up_minutes, down_minutes}
use Rattle.commands.specs.declared.contract.Contract.{Contract}
use Rattle.commands.specs.declared.entries.Instruction.{Instruction}
use Rattle.rules.specs.Ledger.{no_instruction}
use Rattle.settle_terms.specs.declared.Terms.{Terms}

-- what lines need of a contract
unfoldable pub terms_of : Contract → Terms
terms_of k =
    record {
      kw = k.contracted;
      kind = k.kind;
      response = k.response;
      upminutes = record { 0 = up_minutes k };
      downminutes = record { 0 = down_minutes k };
      utilisation = k.utilisation;
      optional = k.optional;
    }

-- the periods of the longest month: an October of 31 days and an hour
abbrev pub most_periods : ℕ
most_periods = 1490

-- the places of a table of periods: those of the longest month and one more, so that the minute at which the last of them ends has a place too
abbrev pub period_places : ℕ
period_places = 1491

-- instruction j of a list, from 0: its issue
abbrev pub issue_of : List Instruction → ℕ → ℕ
issue_of calls j = (get_or calls j no_instruction).issue.0

-- and its cease
abbrev pub cease_of : List Instruction → ℕ → ℕ
cease_of calls j = (get_or calls j no_instruction).cease.0
