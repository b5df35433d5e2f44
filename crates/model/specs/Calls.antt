-- The exported calls: fresh start, cycle and question, with the order of their refusals.
use Rattle.std.specs.Prelude.{ℕ, Bool, true, false, List, ltb, replicate, ⊤, Result, Ok, Err}
use Rattle.answers.specs.declared.Refusal.{Refusal}
use Rattle.answers.specs.declared.Refusal.TheVariants.{BadLength, BadState, BadAddress, Stopped}
use Rattle.answers.specs.Answers.{done, bad_address, number}
use Rattle.choice.specs.Choice.{pick}
use Rattle.setup.specs.Setup.{checked_of, words_of, banks_of}
use Rattle.setup.specs.declared.Setup.{Setup}
use Rattle.port.specs.declared.Operation.{Operation}
use Rattle.port.specs.declared.Operation.TheVariants.{Idle, Read, Write}
use Rattle.port.specs.declared.Delivery.TheVariants.{None}
use Rattle.model.specs.declared.State.{State}
use Rattle.model.specs.declared.Cycled.{Cycled}
use Rattle.model.specs.declared.Started.{Started}
use Rattle.model.specs.declared.Waiting.{Waiting}
use Rattle.model.specs.Lent.{Lent, lent, count_of}
use Rattle.model.specs.Range.{lengths_of, lengths_ok, numbers_ok}
use Rattle.model.specs.Cycle.{passed}

------------------------------------------------------------------------
-- 1, 2 and 3 look at the setup, the lengths and the numbers, whatever the call

-- 1, then 2: a setup in range, and exact lengths
unfoldable pub exact_in : Result Setup Refusal → Lent → Result Setup Refusal
exact_in (Err r) x = Err r
exact_in (Ok s) x = pick (lengths_ok s x) (Ok s) (Err BadLength)

abbrev pub exact_of : Setup → Lent → Result Setup Refusal
exact_of s x = exact_in (checked_of s) x

-- then 3: every number in the range its meaning allows
unfoldable pub standing_in : Result Setup Refusal → State → Lent → Result Setup Refusal
standing_in (Err r) t x = Err r
standing_in (Ok s) t x = pick (numbers_ok s t x.rows x.buffers) (Ok s) (Err BadState)

abbrev pub standing_of : Setup → State → Lent → Result Setup Refusal
standing_of s t x = standing_in (exact_of s x) t x

------------------------------------------------------------------------
-- 7 and 4 look at each operation

-- idle carries no address
abbrev pub address_ok : Setup → Operation → Bool
address_ok s Idle = true
address_ok s (Read a) = ltb a.0 (words_of s)
address_ok s (Write a w) = ltb a.0 (words_of s)

-- 7, then 4
unfoldable pub offered_of : Setup → State → Operation → Result ⊤ Refusal
offered_of s t op = pick t.stopped (Err Stopped) (pick (address_ok s op) (Ok tt) (Err BadAddress))

------------------------------------------------------------------------
-- A fresh start meets 1 and 2 only

-- it empties rows and buffers, sets turn, position and stamp to 0, clears the stop mark and does not touch the memory words
abbrev pub fresh_state : State
fresh_state = record { stamp = 0; turn = 0; position = 0; stopped = false }

abbrev pub fresh_lent : Setup → Lent → Lent
fresh_lent s x = lent x.memory (replicate (lengths_of s).rows 0) x.buffers.entries (replicate (lengths_of s).heads 0)

abbrev pub started : ℕ → State → Started
started answer t = record { answer = answer; state = t }

unfoldable pub fresh_in : Result Setup Refusal → State → Lent → Started × Lent
fresh_in (Err r) t x = (started (number r) t, x)
fresh_in (Ok s) t x = (started done fresh_state, fresh_lent s x)

abbrev pub fresh_of : Setup → State → Lent → Started × Lent
fresh_of s t x = fresh_in (exact_of s x) t x

------------------------------------------------------------------------
-- A cycle meets 1, 2, 3, 7, 4 in this order; then 6 before 5

-- delivery none and stamp 0, and nothing changed
abbrev pub refused_by : ℕ → State → Cycled
refused_by n t = record { state = t; reply = record { answer = n; delivery = None; stamp = 0 } }

abbrev pub refused : ℕ → State → Lent → Cycled × Lent
refused n t x = (refused_by n t, x)

-- where 1, 2 and 3 are past
unfoldable pub step_in : Result ⊤ Refusal → Setup → State → Operation → Lent → Cycled × Lent
step_in (Err r) s t op x = refused (number r) t x
step_in (Ok u) s t op x = passed s t op x

abbrev pub step_of : Setup → State → Operation → Lent → Cycled × Lent
step_of s t op x = step_in (offered_of s t op) s t op x

unfoldable pub cycle_in : Result Setup Refusal → State → Operation → Lent → Cycled × Lent
cycle_in (Err r) t op x = refused (number r) t x
cycle_in (Ok s) t op x = step_of s t op x

abbrev pub cycle_of : Setup → State → Operation → Lent → Cycled × Lent
cycle_of s t op x = cycle_in (standing_of s t x) t op x

------------------------------------------------------------------------
-- A question tells how many entries wait at one bank. It meets 1 to 4 and also answers on a stopped state; a refused one tells 0

abbrev pub told : ℕ → ℕ → Waiting
told answer count = record { answer = answer; count = count }

-- where 1, 2 and 3 are past
unfoldable pub tell_of : Setup → ℕ → List ℕ → Waiting
tell_of s b heads = pick (ltb b (banks_of s)) (told done (count_of heads b)) (told bad_address 0)

unfoldable pub waiting_in : Result Setup Refusal → ℕ → Lent → Waiting
waiting_in (Err r) b x = told (number r) 0
waiting_in (Ok s) b x = tell_of s b x.buffers.heads

abbrev pub waiting_of : Setup → State → ℕ → Lent → Waiting
waiting_of s t b x = waiting_in (standing_of s t x) b x
