-- Reading and writing an operation turn each other round: the statements. proofs/RoundTrip.antt proves them.
use Rattle.std.specs.Prelude.{ℕ, ◌^◌, ◌<◌, ◌≡◌, ◌⊎◌, List, length, Ok}
use Rattle.answers.specs.Answers.{done, bad_record}
use Rattle.port.specs.declared.Operation.{Operation}
use Rattle.port.specs.declared.Operation.TheVariants.{Idle, Read, Write}
use Rattle.octets.specs.Bytes.{Bytes}
use Rattle.records.specs.Records.{operation_size, operation_of, operation_answer, operation_or, operation_written}

-- words are 32 bits, and so are addresses
abbrev pub FitsWord : ℕ → Type 0
FitsWord x = x < 2 ^ 32

abbrev pub Fits : Operation → Type 0
Fits Idle = Unit
Fits (Read x) = FitsWord x.0
Fits (Write x word) = FitsWord x.0 × FitsWord word

-- writing into a room of 12 bytes answers 0, and reading what it then holds answers 0 and gives the operation back
abbrev pub OperationReadAsWritten : Type 0
OperationReadAsWritten = (op none : Operation) (room : List ℕ) → Fits op → length room ≡ operation_size
    → ((operation_written op room).0 ≡ Ok tt)
    × (operation_answer (operation_of (operation_written op room).1) ≡ done)
    × (operation_or none (operation_of (operation_written op room).1) ≡ op)

-- where reading answers 0, writing what was read gives the same bytes
abbrev pub OperationWrittenAsRead : Type 0
OperationWrittenAsRead = (bytes room : List ℕ) (none : Operation) → Bytes bytes → operation_answer (operation_of bytes) ≡ done
    → length room ≡ operation_size → operation_written (operation_or none (operation_of bytes)) room ≡ (Ok tt, bytes)

-- and else it answers 9, so exactly for what no operation is written as
abbrev pub OperationAnswered : Type 0
OperationAnswered = (bytes : List ℕ)
    → (operation_answer (operation_of bytes) ≡ done) ⊎ (operation_answer (operation_of bytes) ≡ bad_record)
