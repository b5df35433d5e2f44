-- The loop's invariant: o is at least each of the first j numbers.
use Rattle.flat.specs.Flat.{UpTo}
use Rattle.flat.proofs.together.Given as goal

abbrev pub invariant-loop-j : goal.invariant-loop-j
invariant-loop-j g l = UpTo l.o l.part l.at l.j
