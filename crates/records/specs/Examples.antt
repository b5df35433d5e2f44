-- Operation records byte by byte, and a room of another length. proofs/Examples.antt computes them.
use Rattle.std.specs.Prelude.{ℕ, List, ◌≡◌, [], ◌∷◌, replicate}
use Rattle.answers.specs.Answers.{answer_of}
use Rattle.port.specs.declared.Operation.{Operation}
use Rattle.port.specs.declared.Operation.TheVariants.{Idle, Read, Write}
use Rattle.records.specs.Records.{operation_written}

-- the answer's number, and the room
abbrev pub written : Operation → List ℕ → ℕ × List ℕ
written op room = (answer_of (operation_written op room).0, (operation_written op room).1)

-- kind, three zero bytes, address (4), word (4), little-endian: 67,305,985 is 4·2^24 + 3·2^16 + 2·2^8 + 1
abbrev pub OperationLaidOut : Type 0
OperationLaidOut =
    (written Idle (replicate 12 7) ≡ (0, replicate 12 0))
    × (written (Read (record { 0 = 67305985 })) (replicate 12 7) ≡ (0, 1 ∷ 0 ∷ 0 ∷ 0 ∷ 1 ∷ 2 ∷ 3 ∷ 4 ∷ 0 ∷ 0 ∷ 0 ∷ 0 ∷ []))
    × (written (Write (record { 0 = 67305985 }) 134678021) (replicate 12 7) ≡ (0, 2 ∷ 0 ∷ 0 ∷ 0 ∷ 1 ∷ 2 ∷ 3 ∷ 4 ∷ 5 ∷ 6 ∷ 7 ∷ 8 ∷ []))
    × (written Idle (replicate 11 7) ≡ (2, replicate 11 7))
    × (written Idle (replicate 13 7) ≡ (2, replicate 13 7))
