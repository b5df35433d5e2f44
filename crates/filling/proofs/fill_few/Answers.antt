-- The rows from `from` up to i are done: none at first, one more, and all of them.
use Rattle.std.proofs.Common.{◌≤◌, arith}
use Rattle.filling.proofs.Filled.{filled-start, filled_step, filled_end}
use Rattle.filling.proofs.fill_few.Goals as goal

pub loop-i-init : goal.loop-i-init
loop-i-init c = search filled-start

pub loop-i-preserved : goal.loop-i-preserved
loop-i-preserved c = search filled_step

pub returns : goal.returns
returns c = let b : c.loop-i.i ≤ c.args.to = omega arith in search filled_end
