-- What `put_field` leaves: the number, and the space behind it.
use Rattle.std.proofs.Common.{rules, arith}
use Rattle.decimal.proofs.Texts.{appends_both}
use Rattle.listing.specs.Listing.{field}
use Rattle.listing.proofs.put_field.Goals as goal

pub returns : goal.returns
unfolding field
returns c =
    let both = appends_both _ _ _ _ _ (omega arith) c.put_number.ensures c.put_byte.ensures in
    search (rules, both)
