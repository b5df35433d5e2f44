-- What C passes and gets: numbers in place of the enums.
use Rattle.std.specs.Prelude.{ℕ, Bool, List, leb, eqb, ⊤, Result, Ok, Err}
use Rattle.answers.specs.declared.Refusal.{Refusal}
use Rattle.answers.specs.Answers.{done, bad_setup, answer_of as answer_number}
use Rattle.choice.specs.Choice.{pick}
use Rattle.setup.specs.Setup.{answer_of, setup_or}
use Rattle.setup.specs.declared.Setup.{Setup}
use Rattle.port.specs.declared.Operation as port
use Rattle.port.specs.declared.Operation.TheVariants.{Idle, Read, Write}
use Rattle.port.specs.declared.Delivery.{Delivery}
use Rattle.port.specs.declared.Delivery.TheVariants.{None, Unready, Word}
use Rattle.port.specs.declared.Reply as replied
use Rattle.model.specs.declared.Lengths.{Lengths}
use Rattle.model.specs.declared.State as kept
use Rattle.model.specs.declared.Cycled as cycling
use Rattle.model.specs.declared.Started as starting
use Rattle.records.specs.Records.{idle_record_kind, read_record_kind, write_record_kind, operation_from, operation_answer, operation_or}
use Rattle.setuprecord.specs.SetupRecord.{record_answer, recorded_or}
use Rattle.forms.specs.declared.Checked.{Checked}
use Rattle.forms.specs.declared.Lent.{Lent}
use Rattle.forms.specs.declared.State.{State}
use Rattle.forms.specs.declared.Started.{Started}
use Rattle.forms.specs.declared.Operation.{Operation}
use Rattle.forms.specs.declared.Reply.{Reply}
use Rattle.forms.specs.declared.Cycled.{Cycled}
use Rattle.forms.specs.declared.Told.{Told}
use Rattle.forms.specs.declared.Recorded.{Recorded}
use Rattle.forms.specs.declared.Unasked.{Unasked}
use Rattle.forms.specs.declared.Unasked.TheVariants.{NoOperation, BadMark}

------------------------------------------------------------------------
-- Setups

-- a refused setup is handed out as zeros
abbrev pub no_setup : Setup
no_setup = record { mode = 0; a = 0; s = 0; m = 0; k = 0; delta = 0; c = 0; u = 0; v = 0 }

abbrev pub checked_out : Result Setup Refusal → Checked
checked_out r = record { answer = answer_of r; setup = setup_or no_setup r }

-- how many numbers each lent room has
abbrev pub lent_out : Lengths → Lent
lent_out due =
    record { answer = done; memory = due.memory; rows = due.rows; entries = due.entries; heads = due.heads }

-- a refused setup has no lengths
abbrev pub no_lengths : Lent
no_lengths = record { answer = bad_setup; memory = 0; rows = 0; entries = 0; heads = 0 }

------------------------------------------------------------------------
-- The state: the stop mark is a number, 0 or 1

abbrev pub mark_ok : State → Bool
mark_ok t = leb t.stopped 1

abbrev pub state_in : State → kept.State
state_in t = record { stamp = t.stamp; turn = t.turn; position = t.position; stopped = eqb t.stopped 1 }

abbrev pub mark_out : Bool → ℕ
mark_out stopped = pick stopped 1 0

abbrev pub state_out : kept.State → State
state_out t = record { stamp = t.stamp; turn = t.turn; position = t.position; stopped = mark_out t.stopped }

-- a refused start gives back the state that C passed, whatever its mark is
unfoldable pub started_out : State → starting.Started → Started
started_out t r =
    pick (eqb r.answer done)
    (record { answer = done; state = state_out r.state })
    (record { answer = r.answer; state = t })

------------------------------------------------------------------------
-- What a cycle returns

-- what leaves: 0 none, 1 unready, 2 a word
abbrev pub delivery_out : Delivery → ℕ
delivery_out None = 0
delivery_out Unready = 1
delivery_out (Word w) = 2

abbrev pub word_out : Delivery → ℕ
word_out None = 0
word_out Unready = 0
word_out (Word w) = w

abbrev pub reply_out : replied.Reply → Reply
reply_out r =
    record { answer = r.answer; delivery = delivery_out r.delivery; word = word_out r.delivery; stamp = r.stamp }

abbrev pub cycled_out : cycling.Cycled → Cycled
cycled_out r = record { state = state_out r.state; reply = reply_out r.reply }

-- delivery none, stamp 0, and the state as it was
abbrev pub refused_by : ℕ → State → Cycled
refused_by n t = record { state = t; reply = record { answer = n; delivery = 0; word = 0; stamp = 0 } }

-- what a question returns
abbrev pub told_out : ℕ → ℕ → Told
told_out answer count = record { answer = answer; count = count }

------------------------------------------------------------------------
-- An operation is the three numbers of its record, under the record's rule

abbrev pub operation_in : Operation → Result port.Operation Refusal
operation_in op = operation_from op.kind op.address op.word

abbrev pub numbers : ℕ → ℕ → ℕ → Operation
numbers kind address word = record { kind = kind; address = address; word = word }

abbrev pub operation_out : port.Operation → Operation
operation_out Idle = numbers idle_record_kind 0 0
operation_out (Read a) = numbers read_record_kind a.0 0
operation_out (Write a w) = numbers write_record_kind a.0 w

-- what C asks of a cycle: an operation that is none comes first, then a mark out of range
abbrev pub Asked : Type 0
Asked = Result (kept.State × port.Operation) Unasked

unfoldable pub asked_in : Result port.Operation Refusal → State → Asked
asked_in (Err r) t = Err NoOperation
asked_in (Ok op) t = pick (mark_ok t) (Ok (state_in t, op)) (Err BadMark)

abbrev pub asked_of : State → Operation → Asked
asked_of t op = asked_in (operation_in op) t

------------------------------------------------------------------------
-- What a record holds

-- the setup as written
abbrev pub setup_read : Result Setup Refusal → Checked
setup_read r = record { answer = record_answer r; setup = recorded_or no_setup r }

-- a bad record is handed out as idle
abbrev pub operation_read : Result port.Operation Refusal → Recorded
operation_read r = record { answer = operation_answer r; operation = operation_out (operation_or Idle r) }

-- a record that is written: the answer is a number
abbrev pub written_out : Result ⊤ Refusal × List ℕ → ℕ × List ℕ
written_out (r, room) = (answer_number r, room)
