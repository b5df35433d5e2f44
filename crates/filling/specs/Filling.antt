-- What filling knows of row p, whose entry brings a word, and of the rows of a part.
use Rattle.std.specs.Prelude.{ℕ, zero, suc, ◌+◌, ◌<◌, false, List, ◌≡◌}
use Rattle.model.specs.Lent.{row_at}
use Rattle.model.specs.Cycle.{lacks, filled_row}

-- row p has its word, or needs none
abbrev pub Has : ℕ → ℕ → List ℕ → Type 0
Has c p l = lacks p p (row_at c l p) ≡ false

-- none of the n rows from place i on lacks the word that row p's entry brings
abbrev pub Calm : ℕ → ℕ → List ℕ → ℕ → ℕ → Type 0
Calm c p l i n = (k : ℕ) → k < n → lacks p (i + k) (row_at c l (i + k)) ≡ false

-- n rows from place i on, once row p's entry has brought the word w
unfoldable pub filled_from : ℕ → ℕ → ℕ → ℕ → ℕ → List ℕ → List ℕ
filled_from c p w i zero l = l
filled_from c p w i (suc n) l = filled_row c p w (i + n) (filled_from c p w i n l)
