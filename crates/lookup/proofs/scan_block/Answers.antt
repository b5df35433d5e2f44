-- A block that does not have the address has no row of it.
use Rattle.lookup.proofs.Lookup.{block_free}
use Rattle.lookup.proofs.scan_block.Goals as goal

pub returns-then-times-eq0 : goal.returns-then-times-eq0
returns-then-times-eq0 g c = search block_free
