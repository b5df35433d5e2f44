-- What placing an entry asks of the lent slices.
use Rattle.std.specs.Prelude.{ℕ, ◌<◌}
use Rattle.setup.specs.declared.Setup.{Setup}
use Rattle.setup.specs.Setup.{banks_of}
use Rattle.model.specs.Lent.{Buffers}
use Rattle.buffers.specs.Bank.{Buffer}

-- each bank's buffer is there, with the numbers of its head in range
pub record EachBuffer (s : Setup) (q : Buffers) : Type 0 where
  pub of : (b : ℕ) → b < banks_of s → Buffer s b q
