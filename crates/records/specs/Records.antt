-- The document's "Records": the operation record.
use Rattle.std.specs.Prelude.{ℕ, Bool, ◌&&◌, List, ◌∷◌, ◌++◌, eqb, length, ⊤, Result, Ok, Err}
use Rattle.answers.specs.declared.Refusal.{Refusal}
use Rattle.answers.specs.declared.Refusal.TheVariants.{BadLength, BadRecord}
use Rattle.answers.specs.Answers.{done, number}
use Rattle.choice.specs.Choice.{pick}
use Rattle.port.specs.declared.Operation.{Operation}
use Rattle.port.specs.declared.Operation.TheVariants.{Idle, Read, Write}
use Rattle.octets.specs.Bytes.{byte_at, number_at, bytes_of, zero_at, zeros}

-- an operation has 12 bytes
abbrev pub operation_size : ℕ
operation_size = 12

-- kind (0 idle, 1 read, 2 write)
abbrev pub idle_record_kind : ℕ
idle_record_kind = 0

abbrev pub read_record_kind : ℕ
read_record_kind = 1

abbrev pub write_record_kind : ℕ
write_record_kind = 2

-- three zero bytes
abbrev pub operation_zeros : List ℕ → Bool
operation_zeros s = zero_at s 1 && zero_at s 2 && zero_at s 3

-- an operation where a test holds, else a bad record
abbrev pub good_if : Bool → Operation → Result Operation Refusal
good_if test op = pick test (Ok op) (Err BadRecord)

-- word is zero in a read; address and word are zero in idle
unfoldable pub operation_from : (kind address word : ℕ) → Result Operation Refusal
operation_from kind address word =
    pick (eqb kind idle_record_kind)
    (good_if (eqb address 0 && eqb word 0) Idle)
    (pick (eqb kind read_record_kind)
    (good_if (eqb word 0) (Read (record { 0 = address })))
    (good_if (eqb kind write_record_kind) (Write (record { 0 = address }) word)))

-- bad: a record has the wrong length, is of unknown kind, or has a nonzero byte where zero is due
unfoldable pub operation_of : List ℕ → Result Operation Refusal
operation_of s =
    pick (eqb (length s) operation_size && operation_zeros s)
    (operation_from (byte_at s 0) (number_at 4 s 4) (number_at 4 s 8))
    (Err BadRecord)

-- the document's number for each case, and its value: the operation, or none
abbrev pub operation_answer : Result Operation Refusal → ℕ
operation_answer (Ok op) = done
operation_answer (Err r) = number r

abbrev pub operation_or : Operation → Result Operation Refusal → Operation
operation_or none (Ok op) = op
operation_or none (Err r) = none

-- kind, three zero bytes, address (4), word (4)
abbrev pub operation_layout : (kind address word : ℕ) → List ℕ
operation_layout kind address word = (kind ∷ zeros 3) ++ bytes_of 4 address ++ bytes_of 4 word

-- an operation's address is written as given
unfoldable pub operation_bytes : Operation → List ℕ
operation_bytes Idle = operation_layout idle_record_kind 0 0
operation_bytes (Read x) = operation_layout read_record_kind x.0 0
operation_bytes (Write x word) = operation_layout write_record_kind x.0 word

-- writing a record refuses a room of another length by 2, and then leaves the room unchanged
unfoldable pub operation_written : Operation → List ℕ → Result ⊤ Refusal × List ℕ
operation_written op room = pick (eqb (length room) operation_size) (Ok tt, operation_bytes op) (Err BadLength, room)
