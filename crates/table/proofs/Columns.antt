-- The table's columns, and the range check: by columns, and row by row. Assumes nothing.
use Prim.Native.Nat.{ℕ, ◌+◌, ◌-◌, ◌*◌, ◌≤◌, ◌<◌}
use native.Mathlib.Omega.{arith}
use mathlib.Core.Path.{◌≡◌, refl, sym, ◌∙◌}
use mathlib.Core.Bool.{Bool, true, false}
use mathlib.Core.List.{List}
use lib.ListN.{get_or, length}
use lib.Seq.{get_or-take, get_or-drop}
use borrow.Rule.Slice.PartMut.{mid_len}
use Rattle.flat.specs.Flat.{all_below}
use Rattle.flat.proofs.Flat.{below_at}
use Rattle.flat.proofs.Below.{below_more, below_out, below_all}
use Rattle.model.specs.Lent.{row_numbers, kinds, addresses, links, row_at, waiting_kind}
use Rattle.model.specs.Range.{row_ok, rows_ok}
use Rattle.model.specs.declared.Row.{Row}
use Rattle.model.proofs.Range.{row_ok_lem, rows_all}
use Rattle.table.specs.Table.{column, InRange}

-- x is the column from place `at` on
module _ (at c : ℕ) (l x : List ℕ) (o : at + c ≤ length l) (h : x ≡ column at c l) where
  pub column_at : (i : ℕ) → i < c → get_or x i 0 ≡ get_or l (at + i) 0
  column_at i b = let z : i < at + c - at = omega arith in rw h (simp (get_or-take, get_or-drop))

  pub column_long : length x ≡ c
  column_long = let n : length (column at c l) ≡ at + c - at = mid_len at (at + c) l o in rw h (omega arith)

  -- its numbers are below a bound, where t is how the look at it came out
  column_below : (bound : ℕ) (t : Bool) → t ≡ all_below bound x → t ≡ true → (i : ℕ) → i < c → get_or l (at + i) 0 < bound
  column_below bound t e y i b =
      let n = column_long in
      let z = column_at i b in
      let f = below_at bound x (sym e ∙ y) i (omega arith) in
      omega arith

module _ (n c : ℕ) (l : List ℕ) where
  -- the three columns
  pub in_range_lem : (x y z : List ℕ) (t u v : Bool) → length l ≡ row_numbers * c
      → x ≡ column (kinds c) c l → t ≡ all_below (waiting_kind + 1) x → t ≡ true
      → y ≡ column (addresses c) c l → u ≡ all_below n y → u ≡ true
      → z ≡ column (links c) c l → v ≡ all_below c z → v ≡ true → InRange n c l
  in_range_lem x y z t u v long ex ht et ey hu eu ez hv ev =
      record {
        kinds_in = λ i h. let b = column_below (kinds c) c l x (omega arith) ex (waiting_kind + 1) t ht et i h in omega arith;
        addresses_in = column_below (addresses c) c l y (omega arith) ey n u hu eu;
        links_in = column_below (links c) c l z (omega arith) ez c v hv ev;
      }

  pub range_ok : InRange n c l → true ≡ rows_ok n c l c
  range_ok g = sym (rows_all n c l c (λ i h. row_ok_lem n c (row_at c l i) (g.kinds_in i h) (λ _. g.addresses_in i h) (λ _. g.links_in i h)))

  -- the rows below i. Row i is r, and t says whether it is in range
  pub rows_more : (i : ℕ) (r : Row) (t : Bool) → rows_ok n c l i ≡ true → r ≡ row_at c l i → t ≡ row_ok n c r → t ≡ true → rows_ok n c l (i + 1) ≡ true
  unfolding rows_ok
  rows_more i r t h q e x = below_more (λ (j : ℕ). row_ok n c (row_at c l j)) (rows_ok n c l) (λ j. refl) i h (cc)

  pub rows_out : (i k : ℕ) (r : Row) (t : Bool) → i < k → r ≡ row_at c l i → t ≡ row_ok n c r → t ≡ false → false ≡ rows_ok n c l k
  unfolding rows_ok
  rows_out i k r t h q e x = below_out (λ (j : ℕ). row_ok n c (row_at c l j)) (rows_ok n c l) (λ j. refl) i k h (cc)

  pub rows_every : (i : ℕ) → c ≤ i → i ≤ c → rows_ok n c l i ≡ true → true ≡ rows_ok n c l c
  unfolding rows_ok
  rows_every i = below_all (λ (j : ℕ). row_ok n c (row_at c l j)) (rows_ok n c l) (λ j. refl) i c
