-- A shift by the row's bits is a division by 2^(a − s), a mask of s ones a remainder by 2^s.
use Rattle.std.proofs.Common.{◌≡◌, ℕ, ◌-◌, ◌^◌, ◌%◌, ◌/◌, bit_and}
use Rattle.std.proofs.lemmas.Nat.{and_mask}
use Rattle.map.specs.Map.{bank_of}
use Rattle.map.proofs.Cell.bank.Goals as goal

-- the field of s bits above the k of the row
field : (x k n s : ℕ) {bits : ℕ} → bits ≡ k → n ≡ 2 ^ s → bit_and (x / 2 ^ bits) (n - 1) ≡ x / 2 ^ k % 2 ^ s
field x k n s h e = rw (h, e) (and_mask _ _)

pub returns : goal.returns
unfolding bank_of
returns c = search (field)
