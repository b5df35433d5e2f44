-- What a call on one bank's buffer asks.
use Rattle.std.specs.Prelude.{ℕ, ◌+◌, ◌*◌, ◌≤◌, length}
use Rattle.setup.specs.declared.Setup.{Setup}
use Rattle.model.specs.Lent.{Buffers, entry_numbers}
use Rattle.heads.specs.Heads.{GoodHead}

-- where bank b's part of the entry room begins
abbrev pub part_start : Setup → ℕ → ℕ
part_start s b = entry_numbers * (b * s.k)

-- bank b's head is there and in range, and so is its part of the entry room
pub record Buffer (s : Setup) (b : ℕ) (q : Buffers) : Type 0 where
  pub head : GoodHead s b q.heads
  pub part_within : part_start s b + entry_numbers * s.k ≤ length q.entries
