-- `arrival::arrive` meets its contract: the calls give the row and what is placed. Assumes nothing.
use Prim.Native.Nat.{ℕ}
use mathlib.Core.Path.{◌≡◌}
use mathlib.Core.Bool.{Bool}
use mathlib.Core.List.{List}
use Rattle.choice.specs.Choice.{pick}
use Rattle.setup.specs.declared.Setup.{Setup}
use Rattle.model.specs.declared.Row.{Row}
use Rattle.model.specs.declared.Plan.{Plan}
use Rattle.model.specs.Lent.{Buffers, put_row, empty_row}
use Rattle.model.specs.Cycle.{placed_if, arrived}
use Rattle.arrival.proofs.arrive.Goals as goal

plan-arrives : (s : Setup) (position : ℕ) (p : Plan) (rows : List ℕ) (q q' : Buffers) (taken : Bool) (x : Row) (rows' : List ℕ) → (taken, q') ≡ placed_if s p.placing q
    → x ≡ pick taken p.row empty_row → rows' ≡ put_row s.c rows position x → (taken, (rows', q')) ≡ arrived s position p rows q
unfolding arrived
plan-arrives s position p rows q q' taken x rows' z ex er = rw (← z, er, ex)

pub returns : goal.returns
returns c = search (plan-arrives)
