-- Demand 3: one sequence through two controllers that start alike and differ only in buffer depth, both fitting the delay.
use Rattle.std.specs.Prelude.{◌+◌, ◌≤◌, ◌≡◌, true, List, [], ◌∷◌, ◌++◌, length}
use Rattle.answers.specs.Answers.{done, dropped, stopping}
use Rattle.setup.specs.Setup.{merging, with_defaults}
use Rattle.setup.specs.declared.Setup.{Setup}
use Rattle.map.specs.declared.Address.{Address}
use Rattle.port.specs.declared.Operation.{Operation}
use Rattle.port.specs.declared.Operation.TheVariants.{Read}
use Rattle.port.specs.declared.Delivery.TheVariants.{Word}
use Rattle.port.specs.declared.Reply.{Reply}
use Rattle.model.specs.Runs.{Machine, replies, fresh}
use Rattle.model.specs.Sram.{wrote, sram}
use Rattle.model.specs.Promises.{Starts, start_word, reply_at, history, NotRefused}

-- the same numbers but for K, and no fewer places
pub record Deeper (s₁ s₂ : Setup) : Type 0 where
  pub mode : s₁.mode ≡ s₂.mode
  pub a : s₁.a ≡ s₂.a
  pub s : s₁.s ≡ s₂.s
  pub m : s₁.m ≡ s₂.m
  pub delta : s₁.delta ≡ s₂.delta
  pub c : s₁.c ≡ s₂.c
  pub u : s₁.u ≡ s₂.u
  pub v : s₁.v ≡ s₂.v
  pub k : s₁.k ≤ s₂.k

-- two setups in range, equal but for K once the defaults are in; two runs over equal memory words,
-- whatever the rooms and the states held before
pub record Alike (g₁ g₂ : Setup) (w₁ w₂ : Machine) : Type 0 where
  pub first : Starts g₁ w₁
  pub second : Starts g₂ w₂
  pub setups : Deeper (with_defaults g₁) (with_defaults g₂)
  pub words : w₁.1.memory ≡ w₂.1.memory

-- the replies to these operations
abbrev pub replies_to : Setup → Machine → List Operation → List Reply
replies_to g w ops = replies g ops (fresh g w)

------------------------------------------------------------------------
-- The deeper takes everything the shallower takes, after drops too: without merging, and with it

abbrev pub DeeperTakes : Type 0
DeeperTakes =
    (g₁ g₂ : Setup) (w₁ w₂ : Machine) → Alike g₁ g₂ w₁ w₂ → (ops : List Operation) (op : Operation)
    → (reply_at g₁ w₁ ops op).answer ≡ done → (reply_at g₂ w₂ ops op).answer ≡ done

------------------------------------------------------------------------
-- A read the shallower takes, of an address none of whose earlier writes it dropped,
-- gives the same word in the same cycle from both, once that cycle is reached: without merging, and with it.
-- As many cycles have passed in both before the read is taken, and before its word leaves

-- of these operations and their replies: no write to a was dropped
abbrev pub WritesKept : Address → List Operation → List Reply → Type 0
WritesKept a [] rs = Unit {0}
WritesKept a (op ∷ ops) [] = Unit {0}
WritesKept a (op ∷ ops) (r ∷ rs) = (wrote a op ≡ true → r.answer ≡ dropped → ⊥) × WritesKept a ops rs

abbrev pub SameWord : Type 0
SameWord =
    (g₁ g₂ : Setup) (w₁ w₂ : Machine) → Alike g₁ g₂ w₁ w₂ → (ops more : List Operation) (a : Address) (op : Operation)
    → (reply_at g₁ w₁ ops (Read a)).answer ≡ done
    → WritesKept a ops (replies_to g₁ w₁ ops)
    → length (history g₁ w₁ (ops ++ Read a ∷ more)) ≡ length (history g₁ w₁ ops) + (with_defaults g₁).delta
    → NotRefused (reply_at g₁ w₁ (ops ++ Read a ∷ more) op).answer
    → ((reply_at g₁ w₁ (ops ++ Read a ∷ more) op).delivery ≡ Word (sram (start_word g₁ w₁) (history g₁ w₁ ops) a))
    × ((reply_at g₂ w₂ (ops ++ Read a ∷ more) op).delivery ≡ Word (sram (start_word g₁ w₁) (history g₁ w₁ ops) a))
    × (length (history g₂ w₂ ops) ≡ length (history g₁ w₁ ops))
    × (length (history g₂ w₂ (ops ++ Read a ∷ more)) ≡ length (history g₁ w₁ (ops ++ Read a ∷ more)))

-- with merging no write is ever dropped
abbrev pub MergingKeepsWrites : Type 0
MergingKeepsWrites =
    (g : Setup) (w : Machine) → Starts g w → merging (with_defaults g) ≡ true → (ops : List Operation) (a : Address) → WritesKept a ops (replies_to g w ops)

------------------------------------------------------------------------
-- With merging (and without), all answers and words agree until the shallower first drops or stops; that very call still delivers alike

-- of these replies: none dropped its operation or stopped the machine
abbrev pub NoneLost : List Reply → Type 0
NoneLost [] = Unit {0}
NoneLost (r ∷ rs) = (r.answer ≡ dropped → ⊥) × (r.answer ≡ stopping → ⊥) × NoneLost rs

abbrev pub AgreeUntil : Type 0
AgreeUntil =
    (g₁ g₂ : Setup) (w₁ w₂ : Machine) → Alike g₁ g₂ w₁ w₂ → (ops : List Operation) → NoneLost (replies_to g₁ w₁ ops)
    → (replies_to g₂ w₂ ops ≡ replies_to g₁ w₁ ops)
    × ((op : Operation) → (reply_at g₂ w₂ ops op).delivery ≡ (reply_at g₁ w₁ ops op).delivery)
