-- `passage::pass` meets its contract: service, and the rest of the cycle on what it leaves. Assumes nothing.
use Prim.Native.Nat.{ℕ}
use mathlib.Core.Path.{◌≡◌}
use mathlib.Core.List.{List}
use lib.ListN.{length}
use Rattle.setup.specs.declared.Setup.{Setup}
use Rattle.setup.specs.Setup.{Ranges}
use Rattle.port.specs.declared.Operation.{Operation}
use Rattle.model.specs.declared.State.{State}
use Rattle.model.specs.declared.Cycled.{Cycled}
use Rattle.model.specs.Lent.{lent, buffers_in}
use Rattle.model.specs.Cycle.{served, after_service, passed}
use Rattle.model.specs.Range.{lengths_of, GoodBuffers, Good}
use Rattle.model.proofs.Service.{served-at_good}
use Rattle.passage.proofs.pass.Goals as goal

-- what is left by service is good, so the rest of the cycle may go on
served_good : (s : Setup) (turn : ℕ) (memory rows entries heads memory' rows' heads' : List ℕ) → Good s (lent memory rows entries heads)
    → lent memory' rows' entries heads' ≡ served s turn (lent memory rows entries heads)
    → Ranges s × (length rows' ≡ (lengths_of s).rows) × GoodBuffers s (buffers_in entries heads')
served_good s turn memory rows entries heads memory' rows' heads' g e =
    let h : Good s (lent memory' rows' entries heads') = served-at_good s turn (lent memory rows entries heads) g e in
    (h.ranges, h.rows.long, h.buffers)

-- both calls are the definition's
went_on : (s : Setup) (t : State) (op : Operation) (memory rows entries heads memory' rows' heads' rows'' entries'' heads'' : List ℕ) (r : Cycled)
    → lent memory' rows' entries heads' ≡ served s t.turn (lent memory rows entries heads)
    → (r, (rows'', buffers_in entries'' heads'')) ≡ after_service s t op rows' (buffers_in entries heads')
    → (r, lent memory' rows'' entries'' heads'') ≡ passed s t op (lent memory rows entries heads)
unfolding passed
went_on s t op memory rows entries heads memory' rows' heads' rows'' entries'' heads'' r e z = rw (← e, ← z)

pub go_on-requires : goal.go_on-requires
go_on-requires c =
    let g = served_good _ _ _ _ _ _ _ _ _ c.requires.good c.serve.ensures in
    (g.0, g.1, g.2, c.requires.turn, c.requires.position)

pub returns : goal.returns
returns c = search (went_on)
