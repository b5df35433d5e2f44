-- A mask of as many ones as a row has bits is a remainder by 2^(a − s).
use Rattle.std.proofs.Common.{◌≡◌, ℕ, ◌-◌, ◌^◌, ◌%◌, bit_and}
use Rattle.std.proofs.lemmas.Nat.{and_mask}
use Rattle.map.proofs.Cell.row.Goals as goal

masked : (x k n : ℕ) {bits : ℕ} → bits ≡ k → n ≡ 2 ^ bits → bit_and x (n - 1) ≡ x % 2 ^ k
masked x k n h e = rw (e, h) (and_mask _ _)

pub returns : goal.returns
returns c = search (masked)
