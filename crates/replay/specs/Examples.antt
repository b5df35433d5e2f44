-- Whole runs by example, from the bytes of the files to the text: P9, the refusals of a setup, and bad records. proofs/Examples.antt computes them.
use Rattle.std.specs.Prelude.{ℕ, ◌≡◌, List, [], ◌∷◌, ◌++◌, map, replicate}
use Prim.Native.String.{String}
use Rattle.setup.specs.Examples.{setup_with}
use Rattle.map.specs.declared.Address.{Address}
use Rattle.port.specs.declared.Operation.TheVariants.{Idle, Read, Write}
use Rattle.records.specs.Records.{operation_bytes}
use Rattle.setuprecord.specs.SetupRecord.{setup_bytes}
use Rattle.listing.specs.Examples.{letters}
use Rattle.replay.specs.Replies.{bytes_for}
use Rattle.replay.specs.Replay.{printed}

abbrev pub at : ℕ → Address
at n = record { 0 = n }

pub record RunExample : Type 0 where
  pub file : List ℕ
  pub input : List ℕ
  pub text : String

abbrev pub row : List ℕ → List ℕ → String → RunExample
row file input text = record { file = file; input = input; text = text }

abbrev pub run_examples : List RunExample
run_examples =
    -- P9
    row (setup_bytes (setup_with 1 2 1 2 1 2 3 1 0))
    (bytes_for (Write (at 1) 10 ∷ Read (at 1) ∷ Read (at 2) ∷ Idle ∷ Read (at 2) ∷ Read (at 3) ∷ Read (at 1) ∷ Idle ∷ []))
    "0 0 -\n1 0 -\n2 0 -\n3 0 10\n4 0 0\n5 0 -\n6 0 0\n7 0 0\n"
    -- no file, a setup out of range, and one whose C by default is 1,040
    ∷ row [] [] "setup 1\n"
    ∷ row (setup_bytes (setup_with 1 2 1 2 1 1 3 1 0)) [] "setup 1\n"
    ∷ row (setup_bytes (setup_with 1 12 1 16 65 0 0 1 0)) [] "setup 8\n"
    -- the program's room at its edges: a 12, C 1,024 and B·K 1,024, and one more of each
    ∷ row (setup_bytes (setup_with 0 12 3 8 128 1024 1024 1 0)) [] ""
    ∷ row (setup_bytes (setup_with 0 13 0 1 1 0 0 1 0)) [] "setup 8\n"
    ∷ row (setup_bytes (setup_with 0 1 0 1 1 1 1025 1 0)) [] "setup 8\n"
    ∷ row (setup_bytes (setup_with 0 4 4 1 65 0 0 1 0)) [] "setup 8\n"
    -- a short record ends the run
    ∷ row (setup_bytes (setup_with 1 2 1 2 1 2 3 1 0)) (operation_bytes Idle ++ (1 ∷ [])) "0 0 -\n1 9 -\n"
    -- and so does one of unknown kind, with another record behind it
    ∷ row (setup_bytes (setup_with 1 2 1 2 1 2 3 1 0)) ((3 ∷ replicate 11 0) ++ operation_bytes Idle) "0 9 -\n"
    ∷ []

abbrev pub RunsAsShown : Type 0
RunsAsShown =
    map (λ (e : RunExample). printed e.file e.input) run_examples
    ≡ map (λ (e : RunExample). letters e.text) run_examples
