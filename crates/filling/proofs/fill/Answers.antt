-- `filling::fill` meets its contract: row p first, or in its turn, is the same. Assumes nothing.
use Rattle.filling.proofs.Filled.{filled_few, filled_first}
use Rattle.filling.proofs.fill.Goals as goal

pub returns-then-c-lt-BLOCK : goal.returns-then-c-lt-BLOCK
returns-then-c-lt-BLOCK c = search filled_few

pub returns : goal.returns
returns c = search filled_first
