-- The document's "From address to bank".
use Rattle.std.specs.Prelude.{ℕ, ◌+◌, ◌-◌, ◌*◌, ◌^◌, ◌%◌, ◌/◌, ◌≤◌, ◌<◌, ◌≡◌}
use Rattle.map.specs.declared.Map.{Map}
use Rattle.map.specs.declared.Address.{Address}
use Rattle.map.specs.declared.Cell.{Cell}

-- N = 2^a words
abbrev pub words_of : Map → ℕ
words_of map = 2 ^ map.a

-- B = 2^s banks
abbrev pub banks_of : Map → ℕ
banks_of map = 2 ^ map.s

-- cell = (u·address + v) mod N
unfoldable pub cell_of : Map → Address → Cell
cell_of map x = record { 0 = (map.u * x.0 + map.v) % words_of map }

-- 2^(a − s) rows inside each bank
abbrev pub rows_of : Map → ℕ
rows_of map = 2 ^ (map.a - map.s)

-- the top s of the cell number's a bits name the bank
unfoldable pub bank_of : Map → Cell → ℕ
bank_of map x = x.0 / rows_of map % banks_of map

-- the bank of an address
abbrev pub bank_at : Map → Address → ℕ
bank_at map x = bank_of map (cell_of map x)

-- the other a − s bits name the row inside it
abbrev pub row_of : Map → Cell → ℕ
row_of map x = x.0 % rows_of map

-- the split turned round: the cell of a row of a bank
abbrev pub join_of : Map → ℕ → ℕ → Cell
join_of map bank row = record { 0 = bank * rows_of map + row }

------------------------------------------------------------------------
-- What a checked setup knows of its map

-- a from 1 to 20; s from 0 to 6, at most a
pub record Sizes (map : Map) : Type 0 where
  pub a_least : 1 ≤ map.a
  pub a_most : map.a ≤ 20
  pub s_most : map.s ≤ 6
  pub s-within : map.s ≤ map.a

-- u and v below N, u odd
pub record Ranges (map : Map) : Type 0 where
  pub sizes : Sizes map
  pub u_below : map.u < words_of map
  pub u_odd : map.u % 2 ≡ 1
  pub v_below : map.v < words_of map

------------------------------------------------------------------------
-- What is proved of them

-- it is one to one because u is odd
abbrev pub OneToOne : Type 0
OneToOne = (map : Map) (x y : Address) → Ranges map → x.0 < words_of map → y.0 < words_of map → cell_of map x ≡ cell_of map y → x ≡ y

-- every cell is one of the N lent words, and its bank is one of the B
abbrev pub WithinMemory : Type 0
WithinMemory = (map : Map) (x : Address) → Ranges map → ((cell_of map x).0 < words_of map) × (bank_of map (cell_of map x) < banks_of map)

-- bank and row of each of the N cells together name it, and the cell of a row of a bank names both
abbrev pub SplitJoins : Type 0
SplitJoins = (map : Map) (x : Cell) → x.0 < words_of map → join_of map (bank_of map x) (row_of map x) ≡ x

abbrev pub JoinSplits : Type 0
JoinSplits = (map : Map) (b r : ℕ) → b < banks_of map → r < rows_of map → (bank_of map (join_of map b r) ≡ b) × (row_of map (join_of map b r) ≡ r)

-- B addresses in steps of N/B have B different banks
abbrev pub StepsMeetEach : Type 0
StepsMeetEach =
    (map : Map) (x i j : ℕ) → Ranges map → i < banks_of map → j < banks_of map
    → bank_at map (record { 0 = x + i * rows_of map }) ≡ bank_at map (record { 0 = x + j * rows_of map }) → i ≡ j
