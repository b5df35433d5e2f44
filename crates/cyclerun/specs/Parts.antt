-- What the program reads and prints: the setup file, and the input in parts.
use Rattle.std.specs.Prelude.{ℕ, ◌+◌, ◌*◌, ◌^◌, ◌≡◌, ◌≤◌, Bool, false, ◌&&◌, List, [], ◌∷◌, ◌++◌, eqb, ltb, length, take, Ok}
use Rattle.setup.specs.declared.Setup.{Setup}
use Rattle.model.specs.Lent.{Lent}
use Rattle.records.specs.Records.{operation_size}
use Rattle.replay.specs.declared.Run.{Run}
use Rattle.replay.specs.Replay.{opening_of, Listed, listed, listed_from, first_of, printed_in, printed}
use Rattle.replay.specs.Parts.{apart}

------------------------------------------------------------------------
-- A read

-- so many bytes stand at the start of the room that was read into: the room has as many, and its start is as long
abbrev pub IsPrefixLen : ℕ → List ℕ → Type 0
IsPrefixLen n room = (n ≤ length room) × (n ≡ length (take n room))

------------------------------------------------------------------------
-- The setup file

-- its bytes open this setup
abbrev pub Opens : List ℕ → Setup → Type 0
Opens file s = opening_of file ≡ Ok s

-- it is refused: this text is all that is printed, whatever the input
abbrev pub PrintsOnly : List ℕ → List ℕ → Type 0
PrintsOnly file text = (input : List ℕ) → printed file input ≡ text

------------------------------------------------------------------------
-- The input

-- how many records a part has
abbrev pub part_most : ℕ
part_most = 1024

-- how many bytes: no record is cut
abbrev pub part_bytes : ℕ
part_bytes = operation_size * part_most

-- no input has as many parts
abbrev pub parts_most : ℕ
parts_most = 2 ^ 53

-- a run and its machine are where n parts of input lead
abbrev pub Reached : Setup → ℕ → Run → Lent → Type 0
Reached s n r x = (before : List ℕ) × ((length before ≡ part_bytes * n) × (listed_from r x ≡ apart (listed s before (first_of s))))

-- a text is what one part more adds to what n parts of input print
abbrev pub Adds : Setup → ℕ → List ℕ → List ℕ → Type 0
Adds s n part text =
    (before : List ℕ)
    × ((length before ≡ part_bytes * n) × (printed_in (Ok s) (before ++ part) ≡ printed_in (Ok s) before ++ text))

-- whether one part more is read behind a part and n before it: no bad record, its text written, the part whole, and parts to come
abbrev pub goes_on : Run → ℕ → Bool → ℕ → Bool
goes_on r read written n = r.on && written && eqb read part_bytes && ltb (n + 1) parts_most

-- a run and its machine are where n parts of input lead and the one that was read behind them, and none is read behind it
abbrev pub Ended : Setup → Run → ℕ → Bool → Lent → List ℕ → Type 0
Ended s r read written x input =
    (n : ℕ) × (before : List ℕ)
    × ((length before ≡ part_bytes * n)
    × (listed_from r x ≡ apart (listed s (before ++ take read input) (first_of s)))
    × (goes_on r read written n ≡ false))

------------------------------------------------------------------------
-- All parts together: whole ones, and a last one of any length

abbrev pub AllWhole : List (List ℕ) → Type 0
AllWhole [] = Unit
AllWhole (p ∷ ps) = (length p ≡ part_bytes) × AllWhole ps

unfoldable pub joined : List (List ℕ) → List ℕ → List ℕ
joined [] last = last
joined (p ∷ ps) last = p ++ joined ps last

-- their texts, each from where the part before it leaves the run
unfoldable pub texts_of : Setup → List (List ℕ) → List ℕ → Listed → List ℕ
texts_of s [] last x = (listed s last x).text
texts_of s (p ∷ ps) last x = (listed s p x).text ++ texts_of s ps last (apart (listed s p x))

-- are what the whole input prints
abbrev pub Together : Type 0
Together = (s : Setup) (ps : List (List ℕ)) (last : List ℕ) → AllWhole ps
    → texts_of s ps last (first_of s) ≡ printed_in (Ok s) (joined ps last)
