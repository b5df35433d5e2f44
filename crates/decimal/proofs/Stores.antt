-- Bytes stored in a room: what one store leaves, and one store behind another.
-- Assumes nothing.
use Prim.Native.Nat.{ℕ, suc, ◌+◌, ◌≤◌, ◌<◌}
use mathlib.Core.Path.{◌≡◌, sym, ◌∙◌}
use mathlib.Core.List.{List, [], ◌∷◌, ◌++◌, append_assoc, append-nil}
use native.Mathlib.Nat.{add-zero}
use native.Mathlib.Numerals.{add-one}
use native.Mathlib.Omega.{arith}
use lib.ListN.{length, take, drop, set, length-append, take-append-drop}
use lib.Seq.{length-take-le, take_at, drop_at, drop-drop, set_split, append_snoc}
use Rattle.decimal.specs.Decimal.{stored}

------------------------------------------------------------------------
-- One store

module _ (room : List ℕ) (at : ℕ) where
  pub stored_none : stored room at [] ≡ room
  unfolding stored
  stored_none = rw (append-nil (take at room), add-zero at) (take-append-drop at room)

  pub stored_byte : (byte : ℕ) → at < length room → set room at byte ≡ stored room at (byte ∷ [])
  unfolding stored
  stored_byte byte h = set_split room at byte h ∙ rw (add-one at) (sym (append_snoc (take at room) byte (drop (suc at) room)))

  -- what stands before the place is as it was, and from the place on stand the bytes and what stood behind them
  pub stored_from : (room' bytes : List ℕ) → take at room' ≡ take at room → drop at room' ≡ bytes ++ drop (at + length bytes) room
      → room' ≡ stored room at bytes
  unfolding stored
  stored_from room' bytes e e' =
      sym (take-append-drop at room') ∙ rw (e, e') (sym (append_assoc (take at room) bytes (drop (at + length bytes) room)))

  length_head : (xs : List ℕ) → at ≤ length room → length (take at room ++ xs) ≡ at + length xs
  length_head xs h = rw (length-append (take at room) xs, length-take-le at room h)

  pub take-stored : (xs : List ℕ) → at ≤ length room → take (at + length xs) (stored room at xs) ≡ take at room ++ xs
  unfolding stored
  take-stored xs h = take_at (take at room ++ xs) (drop (at + length xs) room) (at + length xs) (length_head xs h)

  pub drop-stored : (xs : List ℕ) → at ≤ length room → drop (at + length xs) (stored room at xs) ≡ drop (at + length xs) room
  unfolding stored
  drop-stored xs h = drop_at (take at room ++ xs) (drop (at + length xs) room) (at + length xs) (length_head xs h)

------------------------------------------------------------------------
-- One store behind another

module _ (room : List ℕ) (at : ℕ) (xs ys : List ℕ) where
  -- the second behind the first
  pub stored-after : at ≤ length room → stored (stored room at xs) (at + length xs) ys ≡ stored room at (xs ++ ys)
  unfolding stored
  stored-after h =
      let end : ℕ = at + length xs in
      let head : take end (stored room at xs) ≡ take at room ++ xs = take-stored room at xs h in
      let tail : drop (end + length ys) (stored room at xs) ≡ drop (end + length ys) room = rw (← drop-drop (length ys) end (stored room at xs), drop-stored room at xs h) (drop-drop (length ys) end room) in
      let long : end + length ys ≡ at + length (xs ++ ys) = rw (length-append xs ys) (omega arith) in
      rw (head, tail, long, append_assoc (take at room) xs ys)
