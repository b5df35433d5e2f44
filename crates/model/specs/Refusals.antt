-- The answer table: each call's refusals, exactly when and in which order, on every state, reached or not.
use Rattle.std.specs.Prelude.{ℕ, ◌≤◌, ◌<◌, ◌≡◌, ◌↔◌, Bool, true, List, ltb, eqb}
use Rattle.answers.specs.Answers.{done, bad_setup, bad_length, bad_state, bad_address, stopped}
use Rattle.choice.specs.Choice.{pick}
use Rattle.setup.specs.Setup.{with_defaults, in_range, words_of, banks_of}
use Rattle.setup.specs.declared.Setup.{Setup}
use Rattle.port.specs.declared.Operation.{Operation}
use Rattle.port.specs.declared.Operation.TheVariants.{Idle, Read, Write}
use Rattle.model.specs.declared.State.{State}
use Rattle.model.specs.Lent.{Lent, Buffers, row_at, oldest_of, count_of}
use Rattle.model.specs.Range.{lengths_ok, waiting_entry, numbers_ok}
use Rattle.model.specs.Cycle.{passed}
use Rattle.model.specs.Calls.{fresh_state, fresh_lent, started, fresh_of, refused, cycle_of, waiting_of}

------------------------------------------------------------------------
-- Answer 3 looks at these alone

-- a row's kind is 0 empty, 1 a write, 2 a read with its word, 3 a read that waits on the row it names; a waiting entry's 0 a read for a row, 1 a write
pub record NumbersFit (s : Setup) (t : State) (rows : List ℕ) (q : Buffers) : Type 0 where
  -- turn below m; row position below C
  pub turn : t.turn < s.m
  pub position : t.position < s.c
  -- for each of the B buffers, count at most K and oldest place below K
  pub count : (b : ℕ) → b < banks_of s → count_of q.heads b ≤ s.k
  pub oldest : (b : ℕ) → b < banks_of s → oldest_of q.heads b < s.k
  -- a row named by a row or a waiting entry below C
  pub link : (i : ℕ) → i < s.c → (row_at s.c rows i).kind ≡ 3 → (row_at s.c rows i).link < s.c
  pub row : (b i : ℕ) → b < banks_of s → i < count_of q.heads b → (waiting_entry s q b i).kind ≡ 0 → (waiting_entry s q b i).row < s.c
  -- an address or cell in a row or a waiting entry below N
  pub address : (i : ℕ) → i < s.c → ((row_at s.c rows i).kind ≡ 0 → ⊥) → (row_at s.c rows i).address.0 < words_of s
  pub cell : (b i : ℕ) → b < banks_of s → i < count_of q.heads b → (waiting_entry s q b i).cell.0 < words_of s
  -- a kind that is coded as a number
  pub row_kind : (i : ℕ) → i < s.c → (row_at s.c rows i).kind ≤ 3
  pub entry_kind : (b i : ℕ) → b < banks_of s → i < count_of q.heads b → (waiting_entry s q b i).kind ≤ 1

-- its test is past exactly when they fit
abbrev pub NumbersExactly : Type 0
NumbersExactly = (s : Setup) (t : State) (rows : List ℕ) (q : Buffers) → (numbers_ok s t rows q ≡ true) ↔ NumbersFit s t rows q

------------------------------------------------------------------------
-- The calls

-- an address below N; idle has none
abbrev pub within : Setup → Operation → Bool
within s Idle = true
within s (Read a) = ltb a.0 (words_of s)
within s (Write a w) = ltb a.0 (words_of s)

-- a fresh start meets 1 and 2 only
abbrev pub StartsInOrder : Type 0
StartsInOrder =
    (g : Setup) (t : State) (x : Lent)
    → fresh_of g t x
    ≡ pick (in_range (with_defaults g))
    (pick (lengths_ok (with_defaults g) x) (started done fresh_state, fresh_lent (with_defaults g) x) (started bad_length t, x))
    (started bad_setup t, x)

-- a cycle: 1, 2, 3, 7, 4 in this order, and else it is not refused
abbrev pub RefusesInOrder : Type 0
RefusesInOrder =
    (g : Setup) (t : State) (op : Operation) (x : Lent)
    → cycle_of g t op x
    ≡ pick (in_range (with_defaults g))
    (pick (lengths_ok (with_defaults g) x)
    (pick (numbers_ok (with_defaults g) t x.rows x.buffers)
    (pick t.stopped (refused stopped t x)
    (pick (within (with_defaults g) op) (passed (with_defaults g) t op x) (refused bad_address t x)))
    (refused bad_state t x))
    (refused bad_length t x))
    (refused bad_setup t x)

-- a question: 1 to 4; else it tells the buffer's count, and a refused one 0
abbrev pub TellsInOrder : Type 0
TellsInOrder =
    (g : Setup) (t : State) (b : ℕ) (x : Lent)
    → ((waiting_of g t b x).answer
    ≡ pick (in_range (with_defaults g))
    (pick (lengths_ok (with_defaults g) x)
    (pick (numbers_ok (with_defaults g) t x.rows x.buffers)
    (pick (ltb b (banks_of (with_defaults g))) done bad_address)
    bad_state)
    bad_length)
    bad_setup)
    × ((waiting_of g t b x).count ≡ pick (eqb (waiting_of g t b x).answer done) (count_of x.buffers.heads b) 0)
