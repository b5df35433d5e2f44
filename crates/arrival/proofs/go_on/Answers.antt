-- `arrival::go_on` meets its contract: what is looked at and planned lands. The buffers of a good room are each as asked for. Assumes nothing.
use Rattle.std.specs.Prelude.{Option}
use Prim.Native.Nat.{ℕ}
use mathlib.Core.Path.{◌≡◌}
use mathlib.Core.List.{List}
use Rattle.setup.specs.declared.Setup.{Setup}
use Rattle.setup.specs.Setup.{Ranges}
use Rattle.port.specs.declared.Operation.{Operation}
use Rattle.port.specs.declared.Delivery.{Delivery}
use Rattle.model.specs.declared.State.{State}
use Rattle.model.specs.declared.Entry.{Entry}
use Rattle.model.specs.declared.Cycled.{Cycled}
use Rattle.model.specs.Lent.{Buffers, buffers_in}
use Rattle.model.specs.Cycle.{delivered, placed_if, given_up, retired, planned, going, after_service}
use Rattle.model.specs.Range.{GoodBuffers}
use Rattle.buffers.proofs.Banks.{good_buffer}
use Rattle.arrival.specs.Banks.{EachBuffer}
use Rattle.arrival.proofs.go_on.Goals as goal

good-each : (s : Setup) (entries heads : List ℕ) → Ranges s → GoodBuffers s (buffers_in entries heads) → EachBuffer s (buffers_in entries heads)
good-each s entries heads r g = record { of = good_buffer s entries heads r g }

planned-lands : (s : Setup) (t : State) (op : Operation) (rows : List ℕ) (q : Buffers) (d : Delivery) (g : Option Entry) (w : Cycled × (List ℕ × Buffers))
    → d ≡ delivered s t.position rows → g ≡ given_up s t.position rows → w ≡ going s t (planned s t.position op rows) d rows (placed_if s g q)
    → w ≡ after_service s t op rows q
unfolding after_service retired
planned-lands s t op rows q d g w ed eg z = rw (← ed, ← eg) z

pub returns : goal.returns
returns c = search (planned-lands)
