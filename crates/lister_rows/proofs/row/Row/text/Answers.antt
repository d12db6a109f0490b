-- `Row::text` leaves zeros behind the bytes that count.
use Rattle.std.proofs.Common.{rules}
use Rattle.lister_rows.proofs.Appending.{zeros_put}
use Rattle.lister_rows.proofs.row.Row.text.Goals as goal

pub invariant_of-self : goal.invariant_of-self
invariant_of-self c =
    let h = c.self.invariant in
    (search rules, search rules, zeros_put c.self.inside.bytes c.copy_from_slice.new.self c.self.inside.len _ _ h.1 (search rules) (search rules) (search rules) h.2)
