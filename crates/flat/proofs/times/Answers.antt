use Rattle.std.proofs.Common.{arith, rules}
use Rattle.flat.proofs.Flat.{times_none, times-next, byte_most}
use Rattle.flat.proofs.times.Goals as goal

pub loop-y-init : goal.loop-y-init
loop-y-init c = (omega arith, search times_none)

pub loop-y-preserved : goal.loop-y-preserved
loop-y-preserved c = (omega (arith, byte_most, c.from-n.ensures), search (rules, times-next))
