-- The document's "Bench examples": each row has what is asked and what is expected, P1, P8 and P9 with the bank by the top bits (Q-1).
use Rattle.std.specs.Prelude.{ℕ, ◌≡◌, List, [], ◌∷◌, map, Result, Ok, Err}
use Rattle.setup.specs.declared.Setup.{Setup}
use Rattle.answers.specs.declared.Refusal.{Refusal}
use Rattle.answers.specs.Answers.{number}
use Rattle.setup.specs.Setup.{checked_of, map_of}
use Rattle.setup.specs.Examples.{setup_with}
use Rattle.map.specs.declared.Cell.{Cell}
use Rattle.map.specs.Map.{cell_of, bank_of, row_of}
use Rattle.port.specs.declared.Operation.{Operation}
use Rattle.port.specs.declared.Operation.TheVariants.{Idle}
use Rattle.port.specs.declared.Delivery.{Delivery}
use Rattle.port.specs.declared.Delivery.TheVariants.{None, Word}
use Rattle.model.specs.Examples.{heard, read, write, memories, counts}

pub data Question : Type 0 where
  place : Setup → (address : ℕ) → Question
  check : Setup → Question
  run : Setup → List Operation → Question
  waiting : Setup → List Operation → (cycles : List ℕ) → Question
  memory : Setup → List Operation → (cycles : List ℕ) → Question

pub data Outcome : Type 0 where
  cell_bank_row : (cell bank row : ℕ) → Outcome
  accepted : (delta c : ℕ) → Outcome
  refused : (answer : ℕ) → Outcome
  replied : List (ℕ × Delivery) → Outcome
  told : (counts : List ℕ) → Outcome
  held : (words : List ℕ) → Outcome

-- an accepted setup is shown by its delay and its C, once the defaults are in
abbrev pub setup_outcome : Result Setup Refusal → Outcome
setup_outcome (Ok s) = accepted s.delta s.c
setup_outcome (Err r) = refused (number r)

abbrev pub cell_outcome : Setup → Cell → Outcome
cell_outcome s x = cell_bank_row x.0 (bank_of (map_of s) x) (row_of (map_of s) x)

-- a run over memory of zeros: its answers and deliveries; after each of these cycles, what a question of bank 0 tells, and the memory word at cell 0
abbrev pub outcome_of : Question → Outcome
outcome_of (place s x) = cell_outcome s (cell_of (map_of s) (record { 0 = x }))
outcome_of (check s) = setup_outcome (checked_of s)
outcome_of (run s ops) = replied (heard s ops)
outcome_of (waiting s ops cycles) = told (counts s ops 0 cycles)
outcome_of (memory s ops cycles) = held (memories s ops 0 cycles)

------------------------------------------------------------------------
-- The table

pub record Example : Type 0 where
  pub question : Question
  pub expected : Outcome

infixl 20 ◌gives◌
abbrev pub ◌gives◌ : Question → Outcome → Example
q gives t = record { question = q; expected = t }

abbrev pub plain : (a s m k delta c u v : ℕ) → Setup
plain = setup_with 0

abbrev pub merging : (a s m k delta c u v : ℕ) → Setup
merging = setup_with 1

abbrev pub sheet : List Example
sheet =
    -- P1
    (place (plain 4 2 1 1 0 0 5 3) 7 gives cell_bank_row 6 1 2)
    -- P2
    ∷ (check (plain 4 2 3 2 6 0 1 0) gives accepted 6 6)
    ∷ (check (plain 4 2 3 2 5 0 1 0) gives refused 1)
    -- P3
    ∷ (check (plain 4 2 3 2 6 6 1 0) gives accepted 6 6)
    ∷ (check (plain 4 2 3 2 6 5 1 0) gives refused 1)
    ∷ (check (plain 4 2 3 2 6 0 1 0) gives accepted 6 6)
    -- P4
    ∷ (check (plain 20 2 1 1 0 0 1 0) gives accepted 1 1)
    ∷ (check (plain 21 2 1 1 0 0 1 0) gives refused 1)
    ∷ (check (plain 4 2 1 1 0 0 2 0) gives refused 1)
    -- P5
    ∷ (run (plain 1 0 2 1 0 0 1 0) (read 0 ∷ read 0 ∷ read 0 ∷ []) gives replied ((0, None) ∷ (5, None) ∷ (0, Word 0) ∷ []))
    -- P6: each entry waits in the cycle that places it, and is served in the next; the read at 2 places none, the read at 3 a second
    ∷ (waiting (merging 1 0 1 1 1 3 1 0) (read 0 ∷ Idle ∷ read 0 ∷ []) (0 ∷ 1 ∷ 2 ∷ []) gives told (1 ∷ 0 ∷ 0 ∷ []))
    ∷ (waiting (merging 1 0 1 1 1 3 1 0) (read 0 ∷ Idle ∷ Idle ∷ read 0 ∷ []) (0 ∷ 1 ∷ 2 ∷ 3 ∷ []) gives told (1 ∷ 0 ∷ 0 ∷ 1 ∷ []))
    -- P7: the memory holds 6 after cycle 4 and never 5
    ∷ (memory (merging 1 0 1 1 1 2 1 0) (write 0 5 ∷ write 0 6 ∷ Idle ∷ Idle ∷ Idle ∷ []) (0 ∷ 1 ∷ 2 ∷ 3 ∷ 4 ∷ []) gives held (0 ∷ 0 ∷ 0 ∷ 0 ∷ 6 ∷ []))
    -- P8: the two writes are in two banks, and each finds its place
    ∷ (run (merging 2 1 2 1 2 2 1 0) (write 0 1 ∷ write 2 2 ∷ Idle ∷ Idle ∷ Idle ∷ Idle ∷ []) gives
    replied ((0, None) ∷ (0, None) ∷ (0, None) ∷ (0, None) ∷ (0, None) ∷ (0, None) ∷ []))
    -- P8 with two writes to one bank: the second finds none
    ∷ (run (merging 2 1 2 1 2 2 1 0) (write 0 1 ∷ write 1 2 ∷ Idle ∷ Idle ∷ Idle ∷ Idle ∷ []) gives
    replied ((0, None) ∷ (0, None) ∷ (0, None) ∷ (6, None) ∷ (7, None) ∷ (7, None) ∷ []))
    -- P9
    ∷ (run (merging 2 1 2 1 2 3 1 0) (write 1 10 ∷ read 1 ∷ read 2 ∷ Idle ∷ read 2 ∷ read 3 ∷ read 1 ∷ Idle ∷ []) gives
    replied ((0, None) ∷ (0, None) ∷ (0, None) ∷ (0, Word 10) ∷ (0, Word 0) ∷ (0, None) ∷ (0, Word 0) ∷ (0, Word 0) ∷ []))
    ∷ []

-- every row gives what is expected
abbrev pub Sheet : Type 0
Sheet = map (λ (r : Example). outcome_of r.question) sheet ≡ map (λ (r : Example). r.expected) sheet
