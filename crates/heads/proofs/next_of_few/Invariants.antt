-- `heads::next_of_few` meets its contract. The loop's invariant: nothing waits at the banks before i. Assumes nothing.
use Rattle.heads.specs.Heads.{Quiet}
use Rattle.heads.proofs.next_of_few.Given as goal

abbrev pub invariant-loop-i : goal.invariant-loop-i
invariant-loop-i l = Quiet l.heads l.b l.i
