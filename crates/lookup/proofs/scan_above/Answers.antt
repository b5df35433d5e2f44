-- The rows of the blocks above, then those of its own block.
use Rattle.lookup.proofs.Lookup.{above_found, above_on, above_rest}
use Rattle.lookup.proofs.scan_above.Goals as goal

pub returns-in-Some : goal.returns-in-Some
returns-in-Some g c = search above_found

pub returns-then-there : goal.returns-then-there
returns-then-there g c = search above_on

pub returns : goal.returns
returns g c = search above_rest
