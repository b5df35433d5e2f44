-- The examples of specs/Examples.antt, computed. Assumes nothing.
use mathlib.Core.Path.{refl}
use Rattle.map.specs.Map.{bank_of}
use Rattle.map.specs.Examples.{NamedSo}

pub named_so : NamedSo
unfolding bank_of
named_so = (refl, refl)
