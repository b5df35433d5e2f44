-- Texts that grow in a room.
use Rattle.std.specs.Prelude.{◌≡◌, ℕ, ◌+◌, List, length}
use Rattle.decimal.specs.declared.Text.{Text}
use Rattle.decimal.specs.Decimal.{stored}

-- the text with the bytes behind it, in the same room
pub record Appends (before after : Text) (bytes : List ℕ) : Type 0 where
  pub same_room : after.room.ghost_name ≡ before.room.ghost_name
  pub bytes_stored : after.room.now ≡ stored before.room.now before.end bytes
  pub end_moved : after.end ≡ before.end + length bytes
  pub same_length : length after.room.now ≡ length before.room.now
