-- Banks and rows by example: whole memories of four cells, and the ends of large ones. proofs/Examples.antt computes them.
use Rattle.std.specs.Prelude.{ℕ, ◌≡◌, List, [], ◌∷◌, map}
use Rattle.map.specs.declared.Map.{Map}
use Rattle.map.specs.declared.Cell.{Cell}
use Rattle.map.specs.Map.{bank_of, row_of}

abbrev pub sized : (a s : ℕ) → Map
sized a s = record { a = a; s = s; u = 1; v = 0 }

abbrev pub cell : ℕ → Cell
cell n = record { 0 = n }

-- some cells, and the bank and the row of each
pub record Named : Type 0 where
  pub of : Map
  pub cells : List ℕ
  pub banks : List ℕ
  pub rows : List ℕ

abbrev pub named : Map → (cells banks rows : List ℕ) → Named
named of cells banks rows = record { of = of; cells = cells; banks = banks; rows = rows }

abbrev pub names : List Named
names =
    -- s = 0: all in bank 0
    named (sized 2 0) (0 ∷ 1 ∷ 2 ∷ 3 ∷ []) (0 ∷ 0 ∷ 0 ∷ 0 ∷ []) (0 ∷ 1 ∷ 2 ∷ 3 ∷ [])
    -- the top bit names the bank, the low bit the row
    ∷ named (sized 2 1) (0 ∷ 1 ∷ 2 ∷ 3 ∷ []) (0 ∷ 0 ∷ 1 ∷ 1 ∷ []) (0 ∷ 1 ∷ 0 ∷ 1 ∷ [])
    -- s = a: row 0 alone
    ∷ named (sized 2 2) (0 ∷ 1 ∷ 2 ∷ 3 ∷ []) (0 ∷ 1 ∷ 2 ∷ 3 ∷ []) (0 ∷ 0 ∷ 0 ∷ 0 ∷ [])
    -- the smallest memory, and the largest: the first bank, the second and the last, each at its ends
    ∷ named (sized 1 0) (0 ∷ 1 ∷ []) (0 ∷ 0 ∷ []) (0 ∷ 1 ∷ [])
    ∷ named (sized 1 1) (0 ∷ 1 ∷ []) (0 ∷ 1 ∷ []) (0 ∷ 0 ∷ [])
    ∷ named (sized 6 6) (0 ∷ 1 ∷ 63 ∷ []) (0 ∷ 1 ∷ 63 ∷ []) (0 ∷ 0 ∷ 0 ∷ [])
    ∷ named (sized 20 0) (0 ∷ 1 ∷ 1048575 ∷ []) (0 ∷ 0 ∷ 0 ∷ []) (0 ∷ 1 ∷ 1048575 ∷ [])
    ∷ named (sized 20 6) (0 ∷ 16383 ∷ 16384 ∷ 32767 ∷ 1032192 ∷ 1048575 ∷ []) (0 ∷ 0 ∷ 1 ∷ 1 ∷ 63 ∷ 63 ∷ []) (0 ∷ 16383 ∷ 0 ∷ 16383 ∷ 0 ∷ 16383 ∷ [])
    ∷ []

abbrev pub NamedSo : Type 0
NamedSo =
    (map (λ (n : Named). map (λ (x : ℕ). bank_of n.of (cell x)) n.cells) names ≡ map (λ (n : Named). n.banks) names)
    × (map (λ (n : Named). map (λ (x : ℕ). row_of n.of (cell x)) n.cells) names ≡ map (λ (n : Named). n.rows) names)
