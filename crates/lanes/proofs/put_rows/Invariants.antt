-- The loop's invariant: the rows before are put with what was there.
use Rattle.std.proofs.Common.{ℕ, ◌≡◌, ◌<◌, bit_or, fold, get_or, take}
use Rattle.lanes.specs.Lanes.{column}
use Rattle.lanes.proofs.put_rows.Given as goal

abbrev pub invariant-loop-row : goal.invariant-loop-row
invariant-loop-row g l =
    (k : ℕ) → k < g.row.W → get_or l.all k 0 ≡ fold bit_or (get_or l.initial.all k 0) (column k (take l.row-index l.rows))
