-- The program's room is zeros. Assumes nothing.
use Rattle.std.proofs.Common.{rules, refl}
use Rattle.replay.proofs.Opens.{opened}
use Rattle.cyclerun.proofs.start.Goals as goal

pub cut-requires : goal.cut-requires
cut-requires g c = (search (opened), refl, search rules, search rules)
