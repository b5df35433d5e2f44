-- Reading and writing a setup turn each other round: the statements. proofs/RoundTrip.antt proves them.
use Rattle.std.specs.Prelude.{ℕ, ◌≡◌, ◌⊎◌, true, List, length, Ok}
use Rattle.answers.specs.Answers.{done, bad_setup}
use Rattle.setup.specs.Setup.{with_defaults, in_range}
use Rattle.setup.specs.declared.Setup.{Setup}
use Rattle.octets.specs.Bytes.{Bytes}
use Rattle.setuprecord.specs.SetupRecord.{setup_size, setup_of, record_answer, recorded_or, setup_written}

-- a setup in range is written into a room of 20 bytes with 0, and reading what it then holds answers 0 and gives the setup back
abbrev pub SetupReadAsWritten : Type 0
SetupReadAsWritten = (s none : Setup) (room : List ℕ) → in_range (with_defaults s) ≡ true → length room ≡ setup_size
    → ((setup_written s room).0 ≡ Ok tt)
    × (record_answer (setup_of (setup_written s room).1) ≡ done)
    × (recorded_or none (setup_of (setup_written s room).1) ≡ s)

-- where reading answers 0, what was read is in range, and writing it gives the same bytes
abbrev pub SetupWrittenAsRead : Type 0
SetupWrittenAsRead = (bytes room : List ℕ) (none : Setup) → Bytes bytes → record_answer (setup_of bytes) ≡ done
    → length room ≡ setup_size
    → (in_range (with_defaults (recorded_or none (setup_of bytes))) ≡ true)
    × (setup_written (recorded_or none (setup_of bytes)) room ≡ (Ok tt, bytes))

-- and else it answers 1, so exactly for what no setup in range is written as
abbrev pub SetupAnswered : Type 0
SetupAnswered = (bytes : List ℕ) → (record_answer (setup_of bytes) ≡ done) ⊎ (record_answer (setup_of bytes) ≡ bad_setup)
