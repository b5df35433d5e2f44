-- What the range check of the buffers asks of one buffer.
use Rattle.std.specs.Prelude.{ℕ, zero, suc, Bool, true, ◌&&◌, List}
use Rattle.rings.specs.Places.{onward}
use Rattle.model.specs.Lent.{entry_at}
use Rattle.model.specs.Range.{entry_ok}

-- of n words and c rows: the i entries of the part from the oldest place on, going round k places, are in range
unfoldable pub part_ok : ℕ → ℕ → ℕ → ℕ → List ℕ → ℕ → Bool
part_ok n c k oldest part zero = true
part_ok n c k oldest part (suc i) = part_ok n c k oldest part i && entry_ok n c (entry_at part (onward k oldest i))
