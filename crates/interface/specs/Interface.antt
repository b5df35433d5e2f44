-- What the calls that C makes do.
use Rattle.std.specs.Prelude.{ℕ, List, Result, Ok, Err}
use Rattle.answers.specs.declared.Refusal.{Refusal}
use Rattle.answers.specs.declared.Refusal.TheVariants.{BadLength, BadState}
use Rattle.answers.specs.Answers.{bad_record, number}
use Rattle.choice.specs.Choice.{pick}
use Rattle.setup.specs.Setup.{checked_of}
use Rattle.setup.specs.declared.Setup.{Setup}
use Rattle.port.specs.declared.Operation as port
use Rattle.model.specs.declared.Cycled as cycling
use Rattle.model.specs.declared.Started as starting
use Rattle.model.specs.Lent as room
use Rattle.model.specs.Range.{lengths_of, lengths_ok}
use Rattle.model.specs.Calls.{fresh_of, cycle_of, waiting_of}
use Rattle.records.specs.Records.{operation_written}
use Rattle.forms.specs.declared.Unasked.TheVariants.{NoOperation, BadMark}
use Rattle.forms.specs.declared.Lent.{Lent}
use Rattle.forms.specs.declared.State.{State}
use Rattle.forms.specs.declared.Started.{Started}
use Rattle.forms.specs.declared.Operation.{Operation}
use Rattle.forms.specs.declared.Cycled.{Cycled}
use Rattle.forms.specs.declared.Told.{Told}
use Rattle.forms.specs.Forms.{lent_out, no_lengths, mark_ok, state_in, started_out, cycled_out, refused_by, told_out, operation_in, Asked, asked_of, written_out}

------------------------------------------------------------------------
-- How many numbers each lent room has

abbrev pub lengths_in : Result Setup Refusal → Lent
lengths_in (Ok s) = lent_out (lengths_of s)
lengths_in (Err r) = no_lengths

------------------------------------------------------------------------
-- A fresh start: it does not look at the state, and gives it back where it is refused

abbrev pub start_with : State → starting.Started × room.Lent → Started × room.Lent
start_with t r = (started_out t r.0, r.1)

abbrev pub start_out : Setup → State → room.Lent → Started × room.Lent
start_out s t x = start_with t (fresh_of s (state_in t) x)

------------------------------------------------------------------------
-- A cycle

-- a mark out of range is answer 3, which comes after 1 and 2
unfoldable pub bad_mark : Result Setup Refusal → room.Lent → Refusal
bad_mark (Err r) x = r
bad_mark (Ok s) x = pick (lengths_ok s x) BadState BadLength

abbrev pub cycled_with : cycling.Cycled × room.Lent → Cycled × room.Lent
cycled_with r = (cycled_out r.0, r.1)

unfoldable pub cycle_in : Asked → Setup → State → room.Lent → Cycled × room.Lent
cycle_in (Err NoOperation) s t x = (refused_by bad_record t, x)
cycle_in (Err BadMark) s t x = (refused_by (number (bad_mark (checked_of s) x)) t, x)
cycle_in (Ok (k, op)) s t x = cycled_with (cycle_of s k op x)

abbrev pub cycle_out : Setup → State → Operation → room.Lent → Cycled × room.Lent
cycle_out s t op x = cycle_in (asked_of t op) s t x

------------------------------------------------------------------------
-- A question

unfoldable pub waiting_out : Setup → State → ℕ → room.Lent → Told
waiting_out s t b x =
    let r = waiting_of s (state_in t) b x in
    pick (mark_ok t) (told_out r.answer r.count) (told_out (number (bad_mark (checked_of s) x)) 0)

------------------------------------------------------------------------
-- Writing an operation

abbrev pub written_in : Result port.Operation Refusal → List ℕ → ℕ × List ℕ
written_in (Ok op) room = written_out (operation_written op room)
written_in (Err r) room = (bad_record, room)

abbrev pub operation_written_out : Operation → List ℕ → ℕ × List ℕ
operation_written_out op room = written_in (operation_in op) room
