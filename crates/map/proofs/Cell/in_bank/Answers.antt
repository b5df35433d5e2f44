-- Nothing is shifted out, and the row's bits lie below the bank's.
use Rattle.std.proofs.Common.{◌≡◌, ℕ, ◌+◌, ◌*◌, ◌^◌, ◌%◌, ◌≤◌, ◌<◌, bit_or, ap, ◌∙◌, arith}
use Rattle.std.proofs.lemmas.Nat.{or_shifted}
use Rattle.std.proofs.Math.Pow.{shl_exact}
use Rattle.map.proofs.Cell.in_bank.Goals as goal

-- `(b << k) | r` at 32 bits, for an r of k bits and a b of j
shifted : (b r j k : ℕ) {bits : ℕ} → bits ≡ k → b < 2 ^ j → r < 2 ^ k → j + k ≤ 32 → bit_or (b * 2 ^ bits % 2 ^ 32) r ≡ b * 2 ^ k + r
shifted b r j k e hb hr l = rw e (ap (λ (n : ℕ). bit_or n r) (shl_exact j k 32 hb l) ∙ or_shifted b k r hr)

pub returns : goal.returns
returns c =
    ap (λ (n : ℕ). record { 0 = n })
    (shifted _ _ c.args.map.s _ c.row_bits.ensures c.requires.bank_bound.0 c.requires.bank_bound.1 (omega arith))
