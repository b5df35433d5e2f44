use Rattle.std.proofs.Common.{lt-ltb, ◌∙◌}
use Rattle.flat.proofs.Flat.{upto_below}
use Rattle.flat.proofs.all_below.Goals as goal

pub returns-then-all_together-bound : goal.returns-then-all_together-bound
returns-then-all_together-bound c =
    let h = c.if-all_together-bound.true in
    lt-ltb _ _ h ∙ upto_below _ _ _ c.all_together.ensures h
