-- `heads::next_waiting` meets its contract. The loop's invariant: nothing waits at the banks before i. Assumes nothing.
use Prim.Native.Nat.{◌≤◌, ◌-◌}
use Rattle.heads.specs.Heads.{Quiet}
use Rattle.heads.proofs.next_waiting.Given as goal

abbrev pub invariant-loop-i : goal.invariant-loop-i
invariant-loop-i l = (l.b ≤ l.i) × (l.i ≤ l.banks) × Quiet l.heads l.b l.i

abbrev pub decreases-loop-i : goal.decreases-loop-i
decreases-loop-i l = l.banks - l.i
