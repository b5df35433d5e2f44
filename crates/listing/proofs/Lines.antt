-- How long the fields of a line can be.
-- Assumes nothing.
use Prim.Native.Nat.{ℕ, ◌+◌, ◌^◌, ◌≤◌, ◌<◌}
use mathlib.Core.Path.{◌≡◌}
use mathlib.Core.List.{[], ◌∷◌}
use native.Mathlib.Omega.{arith}
use lib.ListN.{length, length-append}
use Rattle.decimal.specs.Decimal.{decimal, number_most, word_most}
use Rattle.decimal.proofs.Digits.{number_most_lem, word_most_lem}
use Rattle.listing.specs.Listing.{space, field}

pub length-field : (n : ℕ) → length (field n) ≡ length (decimal n) + 1
unfolding field
length-field n = length-append (decimal n) (space ∷ [])

pub number_field : (n : ℕ) → n < 2 ^ 64 → length (field n) ≤ number_most + 1
number_field n h = omega (arith, length-field n, number_most_lem n h)

pub word_field : (n : ℕ) → n < 2 ^ 32 → length (field n) ≤ word_most + 1
word_field n h = omega (arith, length-field n, word_most_lem n h)
