-- What a call on the head of one bank's buffer asks, and where something waits.
use Rattle.std.specs.Prelude.{ℕ, ◌+◌, ◌*◌, ◌≤◌, ◌<◌, List, ◌≡◌, ◌≢◌, length}
use Rattle.setup.specs.declared.Setup.{Setup}
use Rattle.setup.specs.Setup.{Sizes}
use Rattle.model.specs.Lent.{head_numbers, oldest_of, count_of}

-- bank b's head is there
abbrev pub HeadThere : ℕ → List ℕ → Type 0
HeadThere b heads = head_numbers * b + head_numbers ≤ length heads

-- and its oldest place below K, its count at most K
pub record GoodHead (s : Setup) (b : ℕ) (heads : List ℕ) : Type 0 where
  pub sizes : Sizes s
  pub head_there : HeadThere b heads
  pub oldest_below : oldest_of heads b < s.k
  pub count_most : count_of heads b ≤ s.k

-- nothing waits at the banks from one up to another
abbrev pub Quiet : List ℕ → ℕ → ℕ → Type 0
Quiet heads from to = (b : ℕ) → from ≤ b → b < to → count_of heads b ≡ 0

-- r is the first of the banks from b on where something waits, or else their number
abbrev pub FirstWaiting : List ℕ → ℕ → ℕ → ℕ → Type 0
FirstWaiting heads b banks r = (b ≤ r) × (r ≤ banks) × Quiet heads b r × (r < banks → count_of heads r ≢ 0)
