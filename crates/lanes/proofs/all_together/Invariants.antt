-- The loop's invariant: the rounds before are put together.
use Rattle.std.proofs.Common.{ℕ, ◌≡◌, ◌*◌, ◌<◌, get_or, take}
use Rattle.lanes.specs.Lanes.{together, column}
use Rattle.lanes.proofs.all_together.Given as goal

abbrev pub invariant-loop-round : goal.invariant-loop-round
invariant-loop-round g l = (k : ℕ) → k < g.row.W → get_or l.all k 0 ≡ together (column k (take (l.round-index * 16) l.rows))
