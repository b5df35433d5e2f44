-- The rows of its own block, then those of the blocks below.
use Rattle.lookup.proofs.Lookup.{below_found, below_on, below_rest}
use Rattle.lookup.proofs.scan_below.Goals as goal
use Rattle.lookup.proofs.scan_below.Goals.{then-there+in_default, else-there}

pub returns-in-Some : goal.returns-in-Some
returns-in-Some g c = search below_found

pub returns : goal.returns
returns g c = elim c.if-there.branch [ then-there+in_default w ↦ search below_on | else-there w ↦ search below_rest ]
