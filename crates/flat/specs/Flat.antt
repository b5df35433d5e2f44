-- What a flat look at numbers tells.
use Rattle.std.specs.Prelude.{ℕ, ◌+◌, ◌≤◌, ◌<◌, Bool, true, false, ◌&&◌, List, [], ◌∷◌, ltb, eqb, get_or}

-- how many numbers one look takes in
abbrev pub block : ℕ
block = 64

-- how many of the numbers are x
abbrev pub one_if : Bool → ℕ
one_if true = 1
one_if false = 0

unfoldable pub times : ℕ → List ℕ → ℕ
times x [] = 0
times x (y ∷ l) = one_if (eqb y x) + times x l

-- every number is below the bound
unfoldable pub all_below : ℕ → List ℕ → Bool
all_below bound [] = true
all_below bound (y ∷ l) = ltb y bound && all_below bound l

------------------------------------------------------------------------
-- What numbers put together tell

-- r is at least each of the n numbers from a place on
abbrev pub UpTo : ℕ → List ℕ → ℕ → ℕ → Type 0
UpTo r l at n = (k : ℕ) → k < n → get_or l (at + k) 0 ≤ r
