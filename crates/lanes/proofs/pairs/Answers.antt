use Rattle.std.proofs.Common.{rules, tests, arith}
use Rattle.std.proofs.lemmas.Iterator.{YieldsList-from_slice}
use Rattle.std.proofs.lemmas.Iterator.Search.{all_from_yields_List}
use Rattle.lanes.proofs.Lanes.{pair_in, rows_in, look_each, look_below}
use Rattle.lanes.proofs.pairs.Goals as goal

pub returns-then-all-a : goal.returns-then-all-a
returns-then-all-a c =
    look_below _ _ _ _ _ _ c.requires.1 (rows_in 2 _ _ _ (omega arith) c.requires.0 c.as_chunks.ensures.front) (c.all_together-all.ensures 1 (omega arith)) _
    (c.all_together-all.ensures 0 (omega arith)) c.if-all-a.true

pub returns : goal.returns
returns c =
    look_each _ _ _ _ _ _ c.requires.1 (rows_in 2 _ _ _ (omega arith) c.requires.0 c.as_chunks.ensures.front) (c.all_together-all.ensures 1 (omega arith)) _
    (all_from_yields_List (pair_in c.args.a c.args.b) _ _ _ c.all-below.ensures.ran (YieldsList-from_slice c.as_chunks.result.0.now cc)
    (λ x b q k. search (rules, tests)))
