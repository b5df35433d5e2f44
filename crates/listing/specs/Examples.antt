-- Lines by example: P9's, those beside the powers of ten, and the widest. proofs/Examples.antt computes them.
use Rattle.std.specs.Prelude.{ℕ, ◌≡◌, List, [], ◌∷◌, map}
use Prim.Native.Char.{code}
use Prim.Native.String.{String, [] as nil, ◌∷◌ as ◌▹◌}
use Rattle.port.specs.declared.Delivery.{Delivery}
use Rattle.port.specs.declared.Delivery.TheVariants.{None, Unready, Word}
use Rattle.listing.specs.Listing.{line_of}

-- the bytes of a text of plain letters
abbrev pub letters : String → List ℕ
letters nil = []
letters (c ▹ s) = code c ∷ letters s

pub record LineExample : Type 0 where
  pub number : ℕ
  pub answer : ℕ
  pub delivery : Delivery
  pub line : String

abbrev pub row : ℕ → ℕ → Delivery → String → LineExample
row n a d s = record { number = n; answer = a; delivery = d; line = s }

abbrev pub line_examples : List LineExample
line_examples =
    -- P9
    row 0 0 None "0 0 -\n"
    ∷ row 1 0 None "1 0 -\n"
    ∷ row 2 0 None "2 0 -\n"
    ∷ row 3 0 (Word 10) "3 0 10\n"
    ∷ row 4 0 (Word 0) "4 0 0\n"
    ∷ row 5 0 None "5 0 -\n"
    ∷ row 6 5 (Word 0) "6 5 0\n"
    ∷ row 7 0 (Word 0) "7 0 0\n"
    -- beside the powers of ten, unready, and the widest
    ∷ row 9 3 (Word 99) "9 3 99\n"
    ∷ row 10 0 (Word 100) "10 0 100\n"
    ∷ row 1000 0 Unready "1000 0 ?\n"
    ∷ row 18446744073709551615 9 (Word 4294967295) "18446744073709551615 9 4294967295\n"
    ∷ []

abbrev pub LinesAsShown : Type 0
LinesAsShown =
    map (λ (x : LineExample). line_of x.number x.answer x.delivery) line_examples
    ≡ map (λ (x : LineExample). letters x.line) line_examples
