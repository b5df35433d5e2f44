-- Every length is exact, so the fresh start answers 0. Assumes nothing.
use Rattle.replay.proofs.Opens.{begins}
use Rattle.replay.proofs.begin.Goals as goal

pub returns : goal.returns
returns c = begins c.args.s _ _ _ c.fresh_start-started.result c.requires.0 c.requires.1 c.fresh_start-started.ensures
