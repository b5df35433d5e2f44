-- Each turn puts one record more. Assumes nothing.
use Rattle.std.proofs.Common.{arith, rules, refl}
use Rattle.replay.proofs.Lines.{number_next, listed_none, listed_next, listed-ended, record_cut}
use Rattle.replay.proofs.part.Goals as goal

pub loop-i-init : goal.loop-i-init
loop-i-init c = record {
  end = omega arith;
  number = omega arith;
  text = listed_none _ _ _ _ _ refl;
}

pub loop-i-preserved : goal.loop-i-preserved
loop-i-preserved c = record {
  end = omega (arith, c.one-r.ensures.1, c.loop-i.invariant.end);
  number = number_next _ _ _ _ _ _ _ _ _ _ c.one-r.ensures.0 c.loop-i.invariant.number;
  text = listed_next _ _ _ _ _ _ _ _ c.loop-i.invariant.text _ (search rules)
      (record_cut _ c.loop-i.i _ _ refl (search rules) (omega arith)) c.one-r.ensures.0;
}

pub returns-then-not-r : goal.returns-then-not-r
returns-then-not-r c = (
  listed-ended _ _ _ _ _ _ _ _ (omega arith) (search rules) c.loop-i.invariant.text,
  search rules,
)
