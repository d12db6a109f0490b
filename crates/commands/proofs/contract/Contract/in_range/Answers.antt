-- `commands::contract::Contract::in_range` meets its contract: each call answers one test of the chain. Assumes nothing.
use mathlib.Core.Bool.{◌&&◌}
use Rattle.energy.proofs.Ranges.{contains_by, kw_tested, minutes_tested, u8_tested, u32_tested}
use Rattle.commands.proofs.contract.Contract.in_range.Goals as goal

pub returns : goal.returns
returns c = λ i.
    contains_by u8_tested _ c.new.ensures.start c.new.ensures.end c.new.ensures.exhausted c.contains.ensures.value i
    && contains_by u8_tested _ c.new-2.ensures.start c.new-2.ensures.end c.new-2.ensures.exhausted c.contains-2.ensures.value i
    && contains_by u8_tested _ c.new-3.ensures.start c.new-3.ensures.end c.new-3.ensures.exhausted c.contains-3.ensures.value i
    && contains_by kw_tested _ c.new-4.ensures.start c.new-4.ensures.end c.new-4.ensures.exhausted c.contains-4.ensures.value i
    && contains_by u32_tested _ c.new-5.ensures.start c.new-5.ensures.end c.new-5.ensures.exhausted c.contains-5.ensures.value i
    && contains_by u32_tested _ c.new-6.ensures.start c.new-6.ensures.end c.new-6.ensures.exhausted c.contains-6.ensures.value i
    && contains_by minutes_tested _ c.new-7.ensures.start c.new-7.ensures.end c.new-7.ensures.exhausted c.contains-7.ensures.value i
    && contains_by minutes_tested _ c.new-8.ensures.start c.new-8.ensures.end c.new-8.ensures.exhausted c.contains-8.ensures.value i
    && contains_by u32_tested _ c.new-9.ensures.start c.new-9.ensures.end c.new-9.ensures.exhausted c.contains-9.ensures.value i
    && contains_by u32_tested _ c.new-10.ensures.start c.new-10.ensures.end c.new-10.ensures.exhausted c.contains-10.ensures.value i
    && contains_by u32_tested _ c.new-11.ensures.start c.new-11.ensures.end c.new-11.ensures.exhausted c.contains-11.ensures.value i
