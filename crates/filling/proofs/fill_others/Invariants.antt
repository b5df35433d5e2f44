-- `filling::fill_others` meets its contract. The loop's invariant: the rows below i are done. Assumes nothing.
use Prim.Native.Nat.{◌-◌, ◌*◌, ◌≤◌}
use mathlib.Core.Path.{◌≡◌}
use lib.ListN.{length}
use Rattle.model.specs.Lent.{row_numbers}
use Rattle.model.specs.Cycle.{filled_below}
use Rattle.filling.proofs.fill_others.Given as goal

abbrev pub invariant-loop-i : goal.invariant-loop-i
invariant-loop-i l = (l.i ≤ l.c) × (length l.rows ≡ row_numbers * l.c) × (l.rows ≡ filled_below l.c l.p l.w l.i l.initial.rows)

abbrev pub decreases-loop-i : goal.decreases-loop-i
decreases-loop-i l = l.c - l.i
