-- The loop's invariant: the first k numbers are put together with the row's, and the others are as they were.
use Rattle.std.proofs.Common.{ℕ, ◌≡◌, ◌≤◌, ◌<◌, bit_or, get_or, length}
use Rattle.lanes.proofs.put.Given as goal

abbrev pub invariant-loop-k : goal.invariant-loop-k
invariant-loop-k g l =
    (length l.all ≡ g.row.W)
    × ((j : ℕ) → j < l.k → get_or l.all j 0 ≡ bit_or (get_or l.initial.all j 0) (get_or l.row j 0))
    × ((j : ℕ) → l.k ≤ j → get_or l.all j 0 ≡ get_or l.initial.all j 0)
