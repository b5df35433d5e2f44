-- The document's "Records": numbers in bytes, of fixed size, no header, little-endian.
use Rattle.std.specs.Prelude.{ℕ, zero, suc, ◌+◌, ◌*◌, ◌/◌, ◌%◌, ◌<◌, Bool, List, [], ◌∷◌, eqb, get_or, replicate}

-- how many values a byte has
abbrev pub base : ℕ
base = 256

-- byte i of a record
abbrev pub byte_at : List ℕ → ℕ → ℕ
byte_at s i = get_or s i 0

-- each element is a byte
abbrev pub Bytes : List ℕ → Type 0
Bytes s = (i : ℕ) → byte_at s i < base

-- the number in n bytes from i, the lowest first
unfoldable pub number_at : ℕ → List ℕ → ℕ → ℕ
number_at zero s i = 0
number_at (suc n) s i = byte_at s i + base * number_at n s (suc i)

-- the n lowest bytes of x, the lowest first
unfoldable pub bytes_of : ℕ → ℕ → List ℕ
bytes_of zero x = []
bytes_of (suc n) x = x % base ∷ bytes_of n (x / base)

-- byte i is zero
abbrev pub zero_at : List ℕ → ℕ → Bool
zero_at s i = eqb (byte_at s i) 0

-- n zero bytes
abbrev pub zeros : ℕ → List ℕ
zeros n = replicate n 0
