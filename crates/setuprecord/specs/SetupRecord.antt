-- The document's "Records": the setup record.
use Rattle.std.specs.Prelude.{ℕ, Bool, ◌&&◌, List, [], ◌∷◌, ◌++◌, eqb, length, ⊤, Result, Ok, Err}
use Rattle.answers.specs.declared.Refusal.{Refusal}
use Rattle.answers.specs.declared.Refusal.TheVariants.{BadSetup, BadLength}
use Rattle.answers.specs.Answers.{done, number}
use Rattle.choice.specs.Choice.{pick}
use Rattle.setup.specs.Setup.{with_defaults, in_range}
use Rattle.setup.specs.declared.Setup.{Setup}
use Rattle.octets.specs.Bytes.{byte_at, number_at, bytes_of, zero_at, zeros}

-- a setup has 20 bytes
abbrev pub setup_size : ℕ
setup_size = 20

-- mode, a, s, m (1 each), K, Δ, C (2 each), two zero bytes, u, v (4 each)
unfoldable pub setup_fields : List ℕ → Setup
setup_fields s =
    record {
      mode = byte_at s 0;
      a = byte_at s 1;
      s = byte_at s 2;
      m = byte_at s 3;
      k = number_at 2 s 4;
      delta = number_at 2 s 6;
      c = number_at 2 s 8;
      u = number_at 4 s 12;
      v = number_at 4 s 16;
    }

-- the two zero bytes
abbrev pub setup_zeros : List ℕ → Bool
setup_zeros s = zero_at s 10 && zero_at s 11

-- the ranges apply after the defaults
unfoldable pub allowed : Setup → Bool
allowed s = in_range (with_defaults s)

-- wrong zero bytes or a wrong length of a setup count as answer 1
unfoldable pub setup_of : List ℕ → Result Setup Refusal
setup_of s =
    pick (eqb (length s) setup_size && setup_zeros s && allowed (setup_fields s))
    (Ok (setup_fields s))
    (Err BadSetup)

-- the document's number for each case, and its value: the setup as written, a default given as 0 still 0, or none
abbrev pub record_answer : Result Setup Refusal → ℕ
record_answer (Ok s) = done
record_answer (Err r) = number r

abbrev pub recorded_or : Setup → Result Setup Refusal → Setup
recorded_or none (Ok s) = s
recorded_or none (Err r) = none

-- a default given as 0 is written as 0
unfoldable pub setup_bytes : Setup → List ℕ
setup_bytes s =
    (s.mode ∷ s.a ∷ s.s ∷ s.m ∷ [])
    ++ bytes_of 2 s.k
    ++ bytes_of 2 s.delta
    ++ bytes_of 2 s.c
    ++ zeros 2
    ++ bytes_of 4 s.u
    ++ bytes_of 4 s.v

-- writing a record refuses an out-of-range setup by 1, then a room of another length by 2, and then leaves the room unchanged
unfoldable pub setup_written : Setup → List ℕ → Result ⊤ Refusal × List ℕ
setup_written s room =
    pick (allowed s)
    (pick (eqb (length room) setup_size) (Ok tt, setup_bytes s) (Err BadLength, room))
    (Err BadSetup, room)
