-- The examples of specs/Examples.antt, computed. Assumes nothing.
use mathlib.Core.Path.{refl}
use Rattle.setup.specs.Examples.{EdgesHold, DefaultsStand}

pub edges_hold : EdgesHold
edges_hold = refl

pub defaults_stand : DefaultsStand
defaults_stand = (refl, refl, refl)
