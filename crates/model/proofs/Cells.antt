-- What an operation says of an address is what the theory's says of its cell: whether it writes or touches it, its word after it. Assumes nothing.
use Prim.Native.Nat.{ℕ, ◌<◌}
use mathlib.Core.Path.{◌≡◌, refl, ap}
use mathlib.Core.Bool.{Bool, true, false, cond, ◌||◌}
use lib.Dec.{eqb}
use borrow.Author.Tests.{ltb-true, eq-eqb, ne_eqb}
use Rattle.choice.specs.Choice.{pick}
use Rattle.setup.specs.Setup.{Ranges, map_of, words_of}
use Rattle.setup.specs.declared.Setup.{Setup}
use Rattle.map.specs.Map.{cell_of}
use Rattle.map.specs.declared.Address.{Address}
use Rattle.map.proofs.OneToOne.{one_to_one}
use Rattle.port.specs.declared.Operation.{Operation}
use Rattle.port.specs.declared.Operation.TheVariants.{Idle, Read, Write}
use Rattle.model.specs.Calls.{address_ok}
use Rattle.model.specs.Sram.{wrote, touched, written}
use Rattle.model.proofs.Config.{shown_op}
use Rattle.theory.proofs.Test.{same, Says, is, isnt, same?}
use Rattle.theory.proofs.Operations.{rewrites, touches, upd}

------------------------------------------------------------------------
-- Addresses below N

abbrev pub Below : Setup → Operation → Type 0
Below s Idle = Unit {0}
Below s (Read a) = a.0 < words_of s
Below s (Write a w) = a.0 < words_of s

pub ok_below : (s : Setup) (op : Operation) → address_ok s op ≡ true → Below s op
ok_below s Idle h = tt
ok_below s (Read a) h = ltb-true a.0 (words_of s) h
ok_below s (Write a w) h = ltb-true a.0 (words_of s) h

------------------------------------------------------------------------
-- Tests

pub or-cond : (x y : Bool) → x || y ≡ cond x true y
or-cond true y = refl
or-cond false y = refl

-- the same test decides both
pub pick-cond : {A : Type 0} (t u : Bool) (x y : A) → t ≡ u → pick t x y ≡ cond u x y
pick-cond t true x y e = rw e
pick-cond t false x y e = rw e

------------------------------------------------------------------------
-- Cells

module _ (s : Setup) (r : Ranges s) where
  -- the map is one to one, so comparing addresses is comparing cells
  pub same-cell : (x y : Address) → x.0 < words_of s → y.0 < words_of s → eqb y.0 x.0 ≡ same (cell_of (map_of s) y).0 (cell_of (map_of s) x).0
  same-cell x y lx ly = go (same (cell_of (map_of s) y).0 (cell_of (map_of s) x).0) (same? (cell_of (map_of s) y).0 (cell_of (map_of s) x).0)
    where
      go : (t : Bool) → Says ((cell_of (map_of s) y).0 ≡ (cell_of (map_of s) x).0) t → eqb y.0 x.0 ≡ t
      go t (is e) =
          let c : cell_of (map_of s) y ≡ cell_of (map_of s) x = ap (λ (n : ℕ). record { 0 = n }) e in
          eq-eqb y.0 x.0 (ap (λ (a : Address). a.0) (one_to_one (map_of s) y x r.map ly lx c))
      go t (isnt f) = ne_eqb y.0 x.0 (λ e. f (ap (λ (n : ℕ). (cell_of (map_of s) (record { 0 = n })).0) e))

  ----------------------------------------------------------------------
  -- Whether an operation writes an address, or touches it; its word after it

  module _ (a : Address) (l : a.0 < words_of s) where
    pub wrote-rewrites : (o : Operation) → Below s o → wrote a o ≡ rewrites (cell_of (map_of s) a).0 (shown_op s o)
    wrote-rewrites Idle h = refl
    wrote-rewrites (Read x) h = refl
    wrote-rewrites (Write x w) h = same-cell a x l h

    pub touched-touches : (o : Operation) → Below s o → touched a o ≡ touches (cell_of (map_of s) a).0 (shown_op s o)
    touched-touches Idle h = refl
    touched-touches (Read x) h = same-cell a x l h
    touched-touches (Write x w) h = same-cell a x l h

    pub written-upd : (o : Operation) → Below s o → (v : ℕ) → written o a v ≡ upd (cell_of (map_of s) a).0 (shown_op s o) v
    written-upd Idle h v = refl
    written-upd (Read x) h v = refl
    written-upd (Write x w) h v = pick-cond (eqb x.0 a.0) (same (cell_of (map_of s) x).0 (cell_of (map_of s) a).0) w v (same-cell a x l h)
