use Rattle.std.proofs.Common.{rules, tests, arith}
use Rattle.std.proofs.lemmas.Iterator.{YieldsList-from_slice}
use Rattle.std.proofs.lemmas.Iterator.Search.{all_from_yields_List}
use Rattle.lanes.proofs.Lanes.{four_in, rows_in, fours_all, fours_tested}
use Rattle.lanes.proofs.fours_below.Goals as goal

pub returns-then-all-a : goal.returns-then-all-a
returns-then-all-a c =
    fours_tested _ _ _ _ _ _ (rows_in 4 _ _ _ (omega arith) c.requires c.as_chunks.ensures.front) _ _ _ (c.all_together-all.ensures 0 (omega arith)) (c.all_together-all.ensures 1 (omega arith))
    (c.all_together-all.ensures 2 (omega arith)) c.if-all-a.true

pub returns : goal.returns
returns c =
    fours_all _ _ _ _ _ _ (rows_in 4 _ _ _ (omega arith) c.requires c.as_chunks.ensures.front) _
    (all_from_yields_List (four_in c.args.a c.args.b c.args.c) _ _ _ c.all.ensures.ran (YieldsList-from_slice c.as_chunks.result.0.now cc)
    (λ x b q k. search (rules, tests)))
