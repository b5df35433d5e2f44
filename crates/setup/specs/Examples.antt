-- The column "Allowed" at its edges, each bound from both sides, and the defaults. proofs/Examples.antt computes them.
use Rattle.std.specs.Prelude.{ℕ, ◌≡◌, List, [], ◌∷◌, map}
use Rattle.setup.specs.declared.Setup.{Setup}
use Rattle.setup.specs.Setup.{with_defaults, checked_of, answer_of}

-- a setup by its numbers, in the order of document 01's table
abbrev pub setup_with : (mode a s m k delta c u v : ℕ) → Setup
setup_with mode a s m k delta c u v =
    record { mode = mode; a = a; s = s; m = m; k = k; delta = delta; c = c; u = u; v = v }

pub record Edge : Type 0 where
  pub given : Setup
  pub answer : ℕ

infixl 20 ◌is◌
abbrev pub ◌is◌ : Setup → ℕ → Edge
s is n = record { given = s; answer = n }

abbrev pub edges : List Edge
edges =
    -- mode: 0, 1
    (setup_with 0 4 2 3 2 6 6 1 0 is 0)
    ∷ (setup_with 1 4 2 3 2 6 6 1 0 is 0)
    ∷ (setup_with 2 4 2 3 2 6 6 1 0 is 1)
    -- a: 1 to 20
    ∷ (setup_with 0 0 0 3 2 6 6 1 0 is 1)
    ∷ (setup_with 0 1 0 3 2 6 6 1 0 is 0)
    ∷ (setup_with 0 20 2 3 2 6 6 1 0 is 0)
    ∷ (setup_with 0 21 2 3 2 6 6 1 0 is 1)
    -- s: 0 to 6, at most a
    ∷ (setup_with 0 6 6 3 2 6 6 1 0 is 0)
    ∷ (setup_with 0 7 7 3 2 6 6 1 0 is 1)
    ∷ (setup_with 0 5 6 3 2 6 6 1 0 is 1)
    -- m: 1 to 64
    ∷ (setup_with 0 4 2 0 2 6 6 1 0 is 1)
    ∷ (setup_with 0 4 2 1 2 6 6 1 0 is 0)
    ∷ (setup_with 0 4 2 64 1 64 64 1 0 is 0)
    ∷ (setup_with 0 4 2 65 1 65 65 1 0 is 1)
    -- K: 1 to 128
    ∷ (setup_with 0 4 2 3 0 6 6 1 0 is 1)
    ∷ (setup_with 0 4 2 3 1 6 6 1 0 is 0)
    ∷ (setup_with 0 4 2 1 128 128 128 1 0 is 0)
    ∷ (setup_with 0 4 2 1 129 129 129 1 0 is 1)
    -- Δ: K·m to 4,096
    ∷ (setup_with 0 4 2 3 2 5 6 1 0 is 1)
    ∷ (setup_with 0 4 2 3 2 4096 4096 1 0 is 0)
    ∷ (setup_with 0 4 2 3 2 4097 4097 1 0 is 1)
    -- C: Δ to 4,096
    ∷ (setup_with 0 4 2 3 2 7 6 1 0 is 1)
    ∷ (setup_with 0 4 2 3 2 7 7 1 0 is 0)
    ∷ (setup_with 0 4 2 3 2 7 4096 1 0 is 0)
    ∷ (setup_with 0 4 2 3 2 7 4097 1 0 is 1)
    -- u and v below N, u odd
    ∷ (setup_with 0 4 2 3 2 6 6 15 0 is 0)
    ∷ (setup_with 0 4 2 3 2 6 6 17 0 is 1)
    ∷ (setup_with 0 4 2 3 2 6 6 2 0 is 1)
    ∷ (setup_with 0 4 2 3 2 6 6 1 15 is 0)
    ∷ (setup_with 0 4 2 3 2 6 6 1 16 is 1)
    ∷ []

abbrev pub EdgesHold : Type 0
EdgesHold = map (λ (e : Edge). answer_of (checked_of e.given)) edges ≡ map (λ (e : Edge). e.answer) edges

-- Δ: 0 stands for K·m; C: 0 stands for Δ, the default or the given one
abbrev pub DefaultsStand : Type 0
DefaultsStand =
    (with_defaults (setup_with 0 4 2 3 2 0 0 1 0) ≡ setup_with 0 4 2 3 2 6 6 1 0)
    × (with_defaults (setup_with 0 4 2 3 2 7 0 1 0) ≡ setup_with 0 4 2 3 2 7 7 1 0)
    × (with_defaults (setup_with 0 4 2 3 2 0 8 1 0) ≡ setup_with 0 4 2 3 2 6 8 1 0)
