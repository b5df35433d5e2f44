-- The loop's invariant: n says how many of the first y-index are x.
use Rattle.std.proofs.Common.{◌≡◌, ◌≤◌, take}
use Rattle.flat.specs.Flat.{times}
use Rattle.flat.proofs.times.Given as goal

abbrev pub invariant-loop-y : goal.invariant-loop-y
invariant-loop-y l = (l.n ≤ l.y-index) × (l.n ≡ times l.x (take l.y-index l.part))
