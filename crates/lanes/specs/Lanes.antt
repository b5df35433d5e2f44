-- What a flat look at numbers by twos and by fours tells.
use Rattle.std.specs.Prelude.{ℕ, zero, suc, ◌+◌, ◌*◌, Bool, true, ◌&&◌, List, map, fold, bit_or, ltb, get_or}
use Rattle.lanes.specs.declared.Look.{Look}

-- of each of the first n pairs, the first number is below a and the second below b
unfoldable pub pairs_below : ℕ → ℕ → List ℕ → ℕ → Bool
pairs_below a b l zero = true
pairs_below a b l (suc n) = pairs_below a b l n && (ltb (get_or l (2 * n) 0) a && ltb (get_or l (2 * n + 1) 0) b)

-- the same, and the same with every second number 0
abbrev pub pairs_look : ℕ → ℕ → List ℕ → ℕ → Look
pairs_look a b l n = record { below = pairs_below a b l n; none = pairs_below a 1 l n }

-- of each of the first n fours, the first number is below a, the second below b and the third below c
unfoldable pub fours_below : ℕ → ℕ → ℕ → List ℕ → ℕ → Bool
fours_below a b c l zero = true
fours_below a b c l (suc n) =
    fours_below a b c l n && (ltb (get_or l (4 * n) 0) a && (ltb (get_or l (4 * n + 1) 0) b && ltb (get_or l (4 * n + 2) 0) c))

------------------------------------------------------------------------
-- Rows of numbers

-- numbers put together by or
abbrev pub together : List ℕ → ℕ
together l = fold bit_or 0 l

-- the number at place k of each row
abbrev pub column : ℕ → List (List ℕ) → List ℕ
column k rows = map (λ row. get_or row k 0) rows
