-- What is to find is what the rows below i have: row i - 1, what the rows below that have, and nothing.
use Rattle.lookup.proofs.Lookup.{part_hit, part_miss, part_none}
use Rattle.lookup.proofs.scan_few.Goals as goal

pub returns-then-wanted : goal.returns-then-wanted
returns-then-wanted g c = search part_hit

pub loop-i-preserved : goal.loop-i-preserved
loop-i-preserved g c = search part_miss

pub returns : goal.returns
returns g c = search part_none
