-- Places that go round, and cells, are the same to the machine by position. Assumes nothing.
use Prim.Native.Nat.{ℕ, zero, suc, ◌+◌, ◌-◌, ◌≤◌, ◌<◌}
use native.Mathlib.Omega.{arith}
use mathlib.Core.Path.{◌≡◌, sym, ap}
use mathlib.Core.Logic.{◌⊎◌, inl, inr}
use mathlib.Core.Bool.{Bool, cond}
use lib.Dec.{eqb}
use borrow.Author.Tests.{eq-eqb, ne_eqb}
use Rattle.setup.specs.Setup.{Ranges, map_of, words_of}
use Rattle.setup.specs.declared.Setup.{Setup}
use Rattle.map.specs.Map.{cell_of}
use Rattle.map.specs.declared.Address.{Address}
use Rattle.map.proofs.OneToOne.{one_to_one}
use Rattle.rings.specs.Places.{onward, back}
use Rattle.rings.proofs.Rings.{onward_either, back_straight, back-round}
use Rattle.theory.proofs.Test.{same, lt, Says, is, isnt, same?, lt?}
use Rattle.theory.proofs.Table as table
use Rattle.theory.proofs.Concrete.{ago}
use Rattle.theory.proofs.Concrete as concrete

------------------------------------------------------------------------
-- Places that go round

-- one place on
pub onward-shown : (n p : ℕ) → p < n → concrete.onward n p ≡ onward n p 1
onward-shown n p h = go (same (suc p) n) (same? _ _) (onward_either n p 1)
  where
    go : (b : Bool) → Says (suc p ≡ n) b
        → ((p + 1 < n) × (onward n p 1 ≡ p + 1)) ⊎ ((n ≤ p + 1) × (onward n p 1 ≡ p + 1 - n))
        → cond b 0 (suc p) ≡ onward n p 1
    go b (is e) (inl w) = absurd (omega arith)
    go b (is e) (inr w) = omega arith
    go b (isnt f) (inl w) = omega arith
    go b (isnt f) (inr w) = absurd (omega arith)

-- the place before
pub back-shown : (c p : ℕ) → 0 < c → table.back (c - 1) p ≡ back c p 1
back-shown c zero h = omega (arith, back-round c 0 1 (omega arith))
back-shown c (suc p) h = omega (arith, back_straight c (suc p) 1 (omega arith))

-- the place of d cycles ago
pub ago-shown : (c d p : ℕ) → 0 < c → ago (c - 1) d p ≡ back c p d
ago-shown c d p h = go (lt p d) (lt? _ _)
  where
    go : (b : Bool) → Says (p < d) b → cond b (p + suc (c - 1) - d) (p - d) ≡ back c p d
    go b (is l) = omega (arith, back-round c p d l)
    go b (isnt l) = omega (arith, back_straight c p d (omega arith))

------------------------------------------------------------------------
-- Cells: below N, two addresses are the same exactly when their cells are

pub cells_same : (s : Setup) → Ranges s → (x y : Address) → x.0 < words_of s → y.0 < words_of s
    → same (cell_of (map_of s) x).0 (cell_of (map_of s) y).0 ≡ eqb x.0 y.0
cells_same s r x y l m = go (same (cell_of (map_of s) x).0 (cell_of (map_of s) y).0) (same? _ _)
  where
    go : (b : Bool) → Says ((cell_of (map_of s) x).0 ≡ (cell_of (map_of s) y).0) b → b ≡ eqb x.0 y.0
    go b (is e) =
        let z : x ≡ y = one_to_one (map_of s) x y r.map l m (ap (λ (n : ℕ). record { 0 = n }) e) in
        sym (eq-eqb x.0 y.0 (ap (λ (a : Address). a.0) z))
    go b (isnt f) = sym (ne_eqb x.0 y.0 (λ e. f (ap (λ (n : ℕ). (cell_of (map_of s) (record { 0 = n })).0) e)))
