use Rattle.std.proofs.Common.{◌≡◌, ◌/◌, length, arith, ◌∙◌}
use Rattle.lanes.proofs.Lanes.{round_next, rounds_all}
use Rattle.lanes.proofs.all_together.Goals as goal

pub loop-round-preserved : goal.loop-round-preserved
loop-round-preserved g c k h =
    c.put_rows.ensures k h ∙ round_next k 16 _ _ _ _ _ _ (c.loop-round.invariant k h) c.as_chunks.ensures.front c.round-item.is (omega arith)

pub returns : goal.returns
returns g c k h =
    let e : c.loop-round.round-index ≡ length c.args.rows.now / 16 = omega arith in
    c.put_rows-2.ensures k h ∙ rounds_all k 16 _ _ _ _ _ (c.loop-round.invariant k h) e c.as_chunks.ensures.back
