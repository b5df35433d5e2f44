-- One more for the row at the position, where that has the address.
use Rattle.lookup.proofs.Lookup.{near_none, near_own}
use Rattle.lookup.proofs.near.Goals as goal

pub returns-then-addresses-position : goal.returns-then-addresses-position
returns-then-addresses-position c = λ h. search (near_own, h)

pub returns : goal.returns
returns c = λ h. search (near_none, h)
