-- `calendar::Date::exists` meets its contract: the code is its definition. Assumes nothing.
use mathlib.Core.Path.{◌≡◌, refl}
use Rattle.std.proofs.Common.{arith}
use Rattle.std.proofs.lemmas.Grind.{common_steps}
use Rattle.calendar.specs.Calendar.{days_of, from_to, is_date}
use Rattle.calendar.proofs.Date.exists.Goals as goal

pub returns : goal.returns
unfolding is_date
returns c =
    let year : c.contains.result ≡ from_to 2007 2099 c.args.self.year = grind (arith, common_steps) in
    let month : c.contains-2.result ≡ from_to 1 12 c.args.self.month = grind (arith, common_steps) in
    let day : c.contains-3.result ≡ from_to 1 (days_of c.args.self.year c.args.self.month) c.args.self.day = grind (arith, common_steps) in
    rw (year, month, day) refl
