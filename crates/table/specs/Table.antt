-- The table's columns, and what the range check knows of them.
use Rattle.std.specs.Prelude.{ℕ, ◌+◌, ◌≤◌, ◌<◌, List, get_or, slice_range}
use Rattle.model.specs.Lent.{kinds, addresses, links, waiting_kind}

-- the c numbers from place `at` on
abbrev pub column : ℕ → ℕ → List ℕ → List ℕ
column at c l = slice_range l at (at + c)

-- the numbers of every row are in range whatever its kind is
pub record InRange (n c : ℕ) (l : List ℕ) : Type 0 where
  pub kinds_in : (i : ℕ) → i < c → get_or l (kinds c + i) 0 ≤ waiting_kind
  pub addresses_in : (i : ℕ) → i < c → get_or l (addresses c + i) 0 < n
  pub links_in : (i : ℕ) → i < c → get_or l (links c + i) 0 < c
