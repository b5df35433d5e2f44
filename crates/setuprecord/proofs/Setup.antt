-- Reading a setup: the numbers in a record are its fields. Assumes nothing.
use Prim.Native.Nat.{ℕ}
use mathlib.Core.Path.{◌≡◌, ◌∙◌}
use mathlib.Core.List.{List, [], ◌∷◌}
use Rattle.std.specs.Int.{w16, w32, from_le_bytes}
use Rattle.octets.specs.Bytes.{byte_at}
use Rattle.octets.proofs.Numbers.{two_read, four_read}
use Rattle.setuprecord.specs.SetupRecord.{setup_fields}

-- what the library reads in the bytes are the numbers of two and four bytes
pub fields_read : (s : List ℕ) (k delta c u v : ℕ)
    → k ≡ from_le_bytes w16 (byte_at s 4 ∷ byte_at s 5 ∷ [])
    → delta ≡ from_le_bytes w16 (byte_at s 6 ∷ byte_at s 7 ∷ [])
    → c ≡ from_le_bytes w16 (byte_at s 8 ∷ byte_at s 9 ∷ [])
    → u ≡ from_le_bytes w32 (byte_at s 12 ∷ byte_at s 13 ∷ byte_at s 14 ∷ byte_at s 15 ∷ [])
    → v ≡ from_le_bytes w32 (byte_at s 16 ∷ byte_at s 17 ∷ byte_at s 18 ∷ byte_at s 19 ∷ [])
    → record { mode = byte_at s 0; a = byte_at s 1; s = byte_at s 2; m = byte_at s 3; k = k; delta = delta; c = c; u = u; v = v } ≡ setup_fields s
unfolding setup_fields
fields_read s k delta c u v e₀ e₁ e₂ e₃ e₄ =
    rw (e₀ ∙ two_read s 4, e₁ ∙ two_read s 6, e₂ ∙ two_read s 8, e₃ ∙ four_read s 12, e₄ ∙ four_read s 16)
