-- The table by position: C = suc rest rows, cycle r at place r mod C, and rows and entries that name a row by its place. Assumes nothing.
use mathlib.Core.Bool.{Bool, true, false, cond, ◌||◌}
use mathlib.Core.List.{List, [], ◌∷◌}
use Prim.Native.Nat.{ℕ, zero, suc, ◌%◌}
use lib.ListN.{get_or}
use Rattle.theory.proofs.Test.{same}
use Rattle.theory.proofs.Machine.{Entry, rd, wr, Row, none, put, got, wait, Found, nothing, there, names, writes}

-- the place before p
abbrev pub back : ℕ → ℕ → ℕ
back rest zero = rest
back rest (suc p) = p

-- what a lookup's answer, a row and an entry are, where rows are named by their place
abbrev pub found_at : ℕ → Found → Found
found_at C nothing = nothing
found_at C (there r) = there (r % C)

module _ {W : Type 0} where
  abbrev pub at_place : ℕ → Row W → Row W
  at_place C none = none
  at_place C (put a w) = put a w
  at_place C (got a w) = got a w
  at_place C (wait a n) = wait a (n % C)

  abbrev pub entry_at : ℕ → Entry W → Entry W
  entry_at C (rd a n) = rd a (n % C)
  entry_at C (wr a w) = wr a w

  -- the n places before p, newest first
  abbrev pub look_back : ℕ → ℕ → List (Row W) → ℕ → ℕ → Found
  look_back rest a tab zero p = nothing
  look_back rest a tab (suc n) p = cond (names a (get_or tab (back rest p) none)) (there (back rest p)) (look_back rest a tab n (back rest p))

  abbrev pub newer_back : ℕ → ℕ → List (Row W) → ℕ → ℕ → Bool
  newer_back rest a tab zero p = false
  newer_back rest a tab (suc n) p = cond (writes a (get_or tab (back rest p) none)) true (newer_back rest a tab n (back rest p))

  -- the word v goes to the row at place p and to every row that waits on it, where these are reads still lacking a word; i is the row's place
  abbrev pub fill_at : ℕ → W → ℕ → Row W → Row W
  fill_at p v i none = none
  fill_at p v i (put a w) = put a w
  fill_at p v i (got a w) = got a w
  fill_at p v i (wait a n) = cond (same i p || same n p) (got a v) (wait a n)

  -- the rows from place i on
  abbrev pub fill_from : ℕ → W → ℕ → List (Row W) → List (Row W)
  fill_from p v i [] = []
  fill_from p v i (x ∷ tab) = fill_at p v i x ∷ fill_from p v (suc i) tab

  -- service of one bank's oldest entry, at the table
  abbrev pub fill_tab : List (Entry W) → (ℕ → W) → List (Row W) → List (Row W)
  fill_tab [] mem tab = tab
  fill_tab (wr a w ∷ q) mem tab = tab
  fill_tab (rd a p ∷ q) mem tab = fill_from p (mem a) 0 tab
