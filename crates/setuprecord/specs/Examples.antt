-- A setup record byte by byte, and what is refused, in its order. proofs/Examples.antt computes them.
use Rattle.std.specs.Prelude.{ℕ, List, ◌≡◌, [], ◌∷◌, replicate}
use Rattle.answers.specs.Answers.{answer_of}
use Rattle.setup.specs.declared.Setup.{Setup}
use Rattle.setup.specs.Examples.{setup_with}
use Rattle.setuprecord.specs.SetupRecord.{setup_of, record_answer, setup_written}

-- the answer's number, and the room
abbrev pub written : Setup → List ℕ → ℕ × List ℕ
written s room = (answer_of (setup_written s room).0, (setup_written s room).1)

-- mode, a, s, m (1 each), K, Δ, C (2 each), two zero bytes, u, v (4 each), little-endian: 263 is 1·2^8 + 7, 521 is 2·2^8 + 9
abbrev pub SetupLaidOut : Type 0
SetupLaidOut =
    (written (setup_with 1 20 3 4 5 263 521 855567 658188) (replicate 20 7)
    ≡ (0, 1 ∷ 20 ∷ 3 ∷ 4 ∷ 5 ∷ 0 ∷ 7 ∷ 1 ∷ 9 ∷ 2 ∷ 0 ∷ 0 ∷ 15 ∷ 14 ∷ 13 ∷ 0 ∷ 12 ∷ 11 ∷ 10 ∷ 0 ∷ []))
    -- a default given as 0 is written as 0
    × (written (setup_with 0 1 0 1 1 0 0 1 0) (replicate 20 7) ≡ (0, 0 ∷ 1 ∷ 0 ∷ 1 ∷ 1 ∷ 0 ∷ 0 ∷ 0 ∷ 0 ∷ 0 ∷ 0 ∷ 0 ∷ 1 ∷ 0 ∷ 0 ∷ 0 ∷ 0 ∷ 0 ∷ 0 ∷ 0 ∷ []))
    -- 1, then 2
    × (written (setup_with 2 1 0 1 1 0 0 1 0) (replicate 19 7) ≡ (1, replicate 19 7))
    × (written (setup_with 0 1 0 1 1 0 0 1 0) (replicate 19 7) ≡ (2, replicate 19 7))
    × (written (setup_with 0 1 0 1 1 0 0 1 0) (replicate 21 7) ≡ (2, replicate 21 7))
    -- a setup out of range is not read
    × (record_answer (setup_of (replicate 20 0)) ≡ 1)
