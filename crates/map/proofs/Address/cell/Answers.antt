-- A mask of a ones is a remainder by 2^a.
use Rattle.std.proofs.Common.{◌≡◌, ℕ, ◌-◌, ◌^◌, ◌%◌, bit_and}
use Rattle.std.proofs.lemmas.Nat.{and_mask}
use Rattle.map.specs.Map.{cell_of}
use Rattle.map.specs.declared.Cell.{Cell}
use Rattle.map.proofs.Address.cell.Goals as goal

-- n words, of which there are 2^a: the mask n - 1 leaves the remainder
masked : (x n a : ℕ) → n ≡ 2 ^ a → ◌≡◌ {A = Cell} (record { 0 = bit_and x (n - 1) }) (record { 0 = x % 2 ^ a })
masked x n a e = rw (e, and_mask _ _)

pub returns : goal.returns
unfolding cell_of
returns c = search (masked)
