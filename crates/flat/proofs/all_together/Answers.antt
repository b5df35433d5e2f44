use Rattle.std.proofs.Common.{arith, refl}
use Rattle.flat.proofs.Flat.{upto_more}
use Rattle.flat.proofs.all_together.Goals as goal

pub loop-i-preserved : goal.loop-i-preserved
loop-i-preserved c =
    (refl, omega arith, upto_more _ _ c.loop-i.i c.together-o.result 256 c.loop-i.invariant.2 c.together-o.ensures)

pub loop-i-2-preserved : goal.loop-i-2-preserved
loop-i-2-preserved c =
    (refl, omega arith, upto_more _ _ c.loop-i-2.i c.together-o-in-loop-i-2.result 64 c.loop-i-2.invariant.2 c.together-o-in-loop-i-2.ensures)
