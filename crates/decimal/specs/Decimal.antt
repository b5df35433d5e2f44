-- Numbers in decimal, and the room that their digits are put into.
use Rattle.std.specs.Prelude.{ℕ, zero, suc, ◌+◌, ◌/◌, ◌%◌, List, [], ◌∷◌, ◌++◌, length, take, drop}

------------------------------------------------------------------------
-- Decimal

abbrev pub ten : ℕ
ten = 10

-- `0`
abbrev pub nought : ℕ
nought = 48

-- the last digit of n as a byte
abbrev pub digit : ℕ → ℕ
digit n = nought + n % ten

-- the digits of q, and none for 0: a step takes off the last, so q steps are enough
unfoldable pub digits_in : (steps q : ℕ) → List ℕ
digits_in zero q = []
digits_in (suc steps) zero = []
digits_in (suc steps) (suc q) = digits_in steps (suc q / ten) ++ (digit (suc q) ∷ [])

-- n in decimal: no leading zero, and 0 is `0`
unfoldable pub decimal : ℕ → List ℕ
decimal n = digits_in n (n / ten) ++ (digit n ∷ [])

-- the most digits of a number of 64 bits
abbrev pub number_most : ℕ
number_most = 20

-- the most digits of a word
abbrev pub word_most : ℕ
word_most = 10

------------------------------------------------------------------------
-- The room

-- the room with the bytes written from a place on
unfoldable pub stored : (room : List ℕ) (at : ℕ) (bytes : List ℕ) → List ℕ
stored room at bytes = take at room ++ bytes ++ drop (at + length bytes) room
