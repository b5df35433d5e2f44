-- `arrival::place_if` meets its contract: what is to be placed is the case of the definition. Assumes nothing.
use Rattle.std.specs.Prelude.{Option, Some, None}
use mathlib.Core.Path.{◌≡◌}
use mathlib.Core.Bool.{Bool, true}
use Rattle.setup.specs.declared.Setup.{Setup}
use Rattle.setup.specs.Setup.{map_of}
use Rattle.map.specs.Map.{bank_of}
use Rattle.map.proofs.Split.{bank_below}
use Rattle.model.specs.declared.Entry.{Entry}
use Rattle.model.specs.Lent.{Buffers}
use Rattle.model.specs.Cycle.{placed, placed_if}
use Rattle.buffers.specs.Bank.{Buffer}
use Rattle.arrival.specs.Banks.{EachBuffer}
use Rattle.arrival.proofs.place_if.Goals as goal

module _ (s : Setup) (q : Buffers) where
  -- the bank of any cell is one of the B
  each-of-cell : (e : Entry) → EachBuffer s q → Buffer s (bank_of (map_of s) e.cell) q
  each-of-cell e each = each.of (bank_of (map_of s) e.cell) (bank_below (map_of s) e.cell)

  none-placed : (p : Option Entry) → p ≡ None → (true, q) ≡ placed_if s p q
  none-placed p h = rw h

  one_placed : (p : Option Entry) (e : Entry) (w : Bool × Buffers) → p ≡ Some e → w ≡ placed s e q → w ≡ placed_if s p q
  one_placed p e w h z = rw h z

pub place-requires : goal.place-requires
place-requires c = search (each-of-cell)
