-- `service::serve` meets its contract: the banks below b are served. Assumes nothing.
use Prim.Native.Nat.{◌-◌, ◌≤◌}
use mathlib.Core.Path.{◌≡◌}
use Rattle.model.specs.Lent.{lent}
use Rattle.model.specs.Cycle.{served_below}
use Rattle.service.proofs.serve.Given as goal

abbrev pub invariant-loop-b : goal.invariant-loop-b
invariant-loop-b l =
    (l.b ≤ l.banks) × (lent l.memory l.rows l.entries l.heads ≡ served_below l.s l.turn l.b (lent l.initial.memory l.initial.rows l.entries l.initial.heads))

abbrev pub decreases-loop-b : goal.decreases-loop-b
decreases-loop-b l = l.banks - l.b
