-- A place that is found is one of the c.
use Rattle.std.proofs.Common.{arith}
use Rattle.lookup.proofs.Lookup.{scan_within}
use Rattle.lookup.proofs.newest_write.Goals as goal

pub returns : goal.returns
returns c = (c.scan_apart.ensures, rw c.scan_apart.ensures (scan_within _ _ _ _ _ (omega arith) (omega arith)))
