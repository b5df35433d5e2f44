-- The document's "Answer numbers".
use Rattle.std.specs.Prelude.{ℕ, Result, Ok, Err}
use Rattle.answers.specs.declared.Refusal.{Refusal}
use Rattle.answers.specs.declared.Refusal.TheVariants.{BadSetup, BadLength, BadState, BadAddress, Stopped, RoomTooSmall, BadRecord}

-- the cycle passes and nothing is dropped; or a fresh start, a question or a record is done
abbrev pub done : ℕ
done = 0

-- a configuration number is out of range
abbrev pub bad_setup : ℕ
bad_setup = 1

-- a lent length differs
abbrev pub bad_length : ℕ
bad_length = 2

-- a number in state, row or entry is out of the range its meaning allows
abbrev pub bad_state : ℕ
bad_state = 3

-- address at or above N, or bank at or above B in a question
abbrev pub bad_address : ℕ
bad_address = 4

-- an arriving operation needs a place and its buffer holds K
abbrev pub dropped : ℕ
dropped = 5

-- a retiring write needs a place and its buffer holds K
abbrev pub stopping : ℕ
stopping = 6

-- the state is marked stopped
abbrev pub stopped : ℕ
stopped = 7

-- the program's own room is too small
abbrev pub room_too_small : ℕ
room_too_small = 8

-- a record has the wrong length, is of unknown kind, or has a nonzero byte where zero is due
abbrev pub bad_record : ℕ
bad_record = 9

-- the number of each refusal
abbrev pub number : Refusal → ℕ
number BadSetup = bad_setup
number BadLength = bad_length
number BadState = bad_state
number BadAddress = bad_address
number Stopped = stopped
number RoomTooSmall = room_too_small
number BadRecord = bad_record

-- a call that is not refused answers 0
abbrev pub answer_of : {T : Type 0} → Result T Refusal → ℕ
answer_of (Ok x) = done
answer_of (Err r) = number r
