-- The loop's invariant: what is to find is what the rows below i have.
use Rattle.std.proofs.Common.{◌≡◌, ◌≤◌}
use Rattle.lookup.specs.Lookup.{last_wanted}
use Rattle.lookup.proofs.scan_part.Given as goal

abbrev pub invariant-loop-i : goal.invariant-loop-i
invariant-loop-i g l =
    (l.from ≤ l.i) × (l.i ≤ l.to) × (last_wanted g.K.Kinds.includes l.a l.t l.from l.i ≡ last_wanted g.K.Kinds.includes l.a l.t l.from l.to)

abbrev pub decreases-loop-i : goal.decreases-loop-i
decreases-loop-i g l = l.i
