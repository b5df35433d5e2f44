-- A text that grew twice. Assumes nothing.
use Prim.Native.Nat.{ℕ, ◌≤◌}
use mathlib.Core.Path.{◌∙◌}
use mathlib.Core.List.{List, ◌++◌}
use native.Mathlib.Omega.{arith}
use lib.ListN.{length, length-append}
use Rattle.decimal.specs.declared.Text.{Text}
use Rattle.decimal.specs.Texts.{Appends}
use Rattle.decimal.proofs.Stores.{stored-after}

pub appends_both : (before between after : Text) (xs ys : List ℕ) → before.end ≤ length before.room.now
    → Appends before between xs → Appends between after ys → Appends before after (xs ++ ys)
appends_both before between after xs ys h first second = record {
  same_room = second.same_room ∙ first.same_room;
  bytes_stored = second.bytes_stored ∙ rw (first.bytes_stored, first.end_moved) (stored-after before.room.now before.end xs ys h);
  end_moved = rw (second.end_moved, first.end_moved, length-append xs ys) (omega arith);
  same_length = second.same_length ∙ first.same_length;
}
