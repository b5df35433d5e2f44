-- Each loop's invariant: o is at least each of the first i numbers.
use Rattle.std.proofs.Common.{◌-◌, ◌≡◌, ◌≤◌, length}
use Rattle.flat.specs.Flat.{UpTo}
use Rattle.flat.proofs.all_together.Given as goal

abbrev pub invariant-loop-i : goal.invariant-loop-i
invariant-loop-i l = (l.n ≡ length l.part) × (l.i ≤ l.n) × UpTo l.o l.part 0 l.i

abbrev pub decreases-loop-i : goal.decreases-loop-i
decreases-loop-i l = l.n - l.i

abbrev pub invariant-loop-i-2 : goal.invariant-loop-i-2
invariant-loop-i-2 l = (l.n ≡ length l.part) × (l.i ≤ l.n) × UpTo l.o l.part 0 l.i

abbrev pub decreases-loop-i-2 : goal.decreases-loop-i-2
decreases-loop-i-2 l = l.n - l.i

abbrev pub invariant-loop-i-3 : goal.invariant-loop-i-3
invariant-loop-i-3 l = (l.n ≡ length l.part) × (l.i ≤ l.n) × UpTo l.o l.part 0 l.i

abbrev pub decreases-loop-i-3 : goal.decreases-loop-i-3
decreases-loop-i-3 l = l.n - l.i
