-- What the outcome of a choice tells of its test. Assumes nothing.
use mathlib.Core.Path.{◌≡◌, refl}
use mathlib.Core.Bool.{Bool, true, false}
use Rattle.choice.specs.Choice.{pick}

-- the outcome is not the second, so it is the first
pub first : {A : Type 0} (b : Bool) (x y z : A) → (y ≡ z → ⊥) → pick b x y ≡ z → (b ≡ true) × (x ≡ z)
first true x y z n h = (refl, h)
first false x y z n h = absurd (n h)
