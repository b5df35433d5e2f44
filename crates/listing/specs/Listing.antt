-- The document's "Records", last paragraph: the text of a line per record.
use Rattle.std.specs.Prelude.{ℕ, ◌+◌, List, [], ◌∷◌, ◌++◌}
use Rattle.port.specs.declared.Delivery.{Delivery}
use Rattle.decimal.specs.Decimal.{decimal, number_most, word_most}

-- ` `
abbrev pub space : ℕ
space = 32

abbrev pub newline : ℕ
newline = 10

-- `-`
abbrev pub dash : ℕ
dash = 45

-- `?`
abbrev pub question : ℕ
question = 63

-- delivery (`-` for none, `?` for unready, else the word in decimal)
unfoldable pub delivery_text : Delivery → List ℕ
delivery_text Delivery.None = dash ∷ []
delivery_text Delivery.Unready = question ∷ []
delivery_text (Delivery.Word w) = decimal w

-- a number and the space after it
unfoldable pub field : ℕ → List ℕ
field n = decimal n ++ (space ∷ [])

-- record number, answer number, delivery
unfoldable pub line_of : (number answer : ℕ) → Delivery → List ℕ
line_of number answer d = field number ++ field answer ++ delivery_text d ++ (newline ∷ [])

-- the most bytes of a line: each of its three texts has one byte after it
abbrev pub line_most : ℕ
line_most = (number_most + 1) + (word_most + 1) + (word_most + 1)
