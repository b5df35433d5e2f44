-- Laws on tests: joined tests, a choice by a test, and two numbers compared. Assumes nothing.
use Prim.Native.Nat.{ℕ, ◌≤◌, ◌<◌}
use mathlib.Core.Path.{◌≡◌, refl}
use mathlib.Core.Logic.{◌⊎◌, inl, inr}
use mathlib.Core.Bool.{Bool, true, false, not, ◌&&◌, ◌||◌}
use lib.Dec.{ltb, eqb}
use borrow.Author.Tests.{ltb-true, ltb-false, eqb-true, eqb-false}
use Rattle.choice.specs.Choice.{pick}

------------------------------------------------------------------------
-- Joined tests

pub and_true : (x y : Bool) → x ≡ true → y ≡ true → x && y ≡ true
and_true x y p q = rw (p, q)

pub or_true : (x y : Bool) → (x ≡ false → y ≡ true) → x || y ≡ true
or_true true y h = refl
or_true false y h = h refl

pub or_r : (x y : Bool) → x || y ≡ true → x ≡ false → y ≡ true
or_r true y h e = cc
or_r false y h e = h

-- `not x || y`: y where x holds
pub not-or_true : (x y : Bool) → (x ≡ true → y ≡ true) → not x || y ≡ true
not-or_true true y h = h refl
not-or_true false y h = refl

pub not-or_r : (x y : Bool) → not x || y ≡ true → x ≡ true → y ≡ true
not-or_r true y h e = h
not-or_r false y h e = cc

------------------------------------------------------------------------
-- A choice by a test

-- what holds of both holds of the one that is picked
pub pick_good : {A : Type 0} (P : A → Type 0) (b : Bool) {x y : A} → P x → P y → P (pick b x y)
pick_good P true p q = p
pick_good P false p q = q

-- the same, where each side knows what the test answered
pub pick_either : {A : Type 0} (P : A → Type 0) (b : Bool) {x y : A} → (b ≡ true → P x) → (b ≡ false → P y) → P (pick b x y)
pick_either P true p q = p refl
pick_either P false p q = q refl

-- f of what is picked is the pick of what f makes of each
pub pick-map : {A B : Type 0} (f : A → B) (b : Bool) (x y : A) → f (pick b x y) ≡ pick b (f x) (f y)
pick-map f true x y = refl
pick-map f false x y = refl

------------------------------------------------------------------------
-- Two numbers compared

pub below_or_not : (a b : ℕ) → (a < b) ⊎ (b ≤ a)
below_or_not a b = go (ltb a b) refl
  where
    go : (t : Bool) → ltb a b ≡ t → (a < b) ⊎ (b ≤ a)
    go true e = inl (ltb-true a b e)
    go false e = inr (ltb-false a b e)

pub same_or_not : (a b : ℕ) → (a ≡ b) ⊎ (a ≡ b → ⊥)
same_or_not a b = go (eqb a b) refl
  where
    go : (t : Bool) → eqb a b ≡ t → (a ≡ b) ⊎ (a ≡ b → ⊥)
    go true e = inl (eqb-true a b e)
    go false e = inr (eqb-false a b e)
