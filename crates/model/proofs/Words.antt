-- The words lie by cell, whatever names the banks: computed. Assumes nothing.
use mathlib.Core.Path.{refl}
use Rattle.map.specs.Map.{cell_of}
use Rattle.model.specs.Words.{WordsByCell}

pub words_by_cell : WordsByCell
unfolding cell_of
words_by_cell g (t, x) a = refl
