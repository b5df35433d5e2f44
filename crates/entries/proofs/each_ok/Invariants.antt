-- `entries::each_ok` meets its contract. The loop's invariant: the buffers of the banks below b are in range. Assumes nothing.
use Prim.Native.Nat.{◌≤◌, ◌-◌}
use mathlib.Core.Path.{◌≡◌}
use mathlib.Core.Bool.{true}
use Rattle.model.specs.Lent.{buffers_in}
use Rattle.model.specs.Range.{buffers_ok}
use Rattle.entries.proofs.each_ok.Given as goal

abbrev pub invariant-loop-b : goal.invariant-loop-b
invariant-loop-b l = (l.b ≤ l.banks) × (buffers_ok l.s (buffers_in l.entries l.heads) l.b ≡ true)

abbrev pub decreases-loop-b : goal.decreases-loop-b
decreases-loop-b l = l.banks - l.b
