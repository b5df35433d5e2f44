-- What carries over to C: the numbers lose nothing, and each refusal comes exactly when and in the order that is written, changing nothing. proofs/Carried.antt proves it.
use Rattle.std.specs.Prelude.{ℕ, ◌*◌, ◌&&◌, ◌⊎◌, ◌≡◌, List, leb, ltb, eqb, Result, Ok, Err}
use Rattle.answers.specs.declared.Refusal.{Refusal}
use Rattle.answers.specs.Answers.{done, bad_setup, bad_length, bad_state, bad_address, stopped, bad_record}
use Rattle.choice.specs.Choice.{pick}
use Rattle.setup.specs.declared.Setup.{Setup}
use Rattle.setup.specs.Setup.{with_defaults, in_range, checked_of, words_of, banks_of}
use Rattle.port.specs.declared.Operation as port
use Rattle.model.specs.declared.State as kept
use Rattle.model.specs.Lent as room
use Rattle.model.specs.Lent.{count_of}
use Rattle.model.specs.Range.{lengths_ok, numbers_ok}
use Rattle.model.specs.Cycle.{passed}
use Rattle.model.specs.Calls.{fresh_state, fresh_lent, fresh_of, cycle_of, waiting_of}
use Rattle.model.specs.Refusals.{within}
use Rattle.model.specs.Promises.{NotRefused}
use Rattle.records.specs.Records.{operation_written}
use Rattle.forms.specs.declared.Lent.{Lent}
use Rattle.forms.specs.declared.State.{State}
use Rattle.forms.specs.declared.Started.{Started}
use Rattle.forms.specs.declared.Operation.{Operation}
use Rattle.forms.specs.declared.Cycled.{Cycled}
use Rattle.forms.specs.Forms.{no_lengths, state_in, state_out, operation_in, operation_out, refused_by, told_out, written_out}
use Rattle.interface.specs.Interface.{lengths_in, start_out, cycled_with, cycle_out, waiting_out, operation_written_out}

------------------------------------------------------------------------
-- C hands on the state that it got: each call then is the controller's, so demands 2 and 3 hold of what C sees

-- a fresh start's answer and the state that it leaves
abbrev pub started_by : ℕ → State → Started
started_by answer t = record { answer = answer; state = t }

abbrev pub SameStart : Type 0
SameStart = (s : Setup) (t : kept.State) (x : room.Lent)
    → start_out s (state_out t) x ≡ (started_by (fresh_of s t x).0.answer (state_out (fresh_of s t x).0.state), (fresh_of s t x).1)

abbrev pub SameCycle : Type 0
SameCycle = (s : Setup) (t : kept.State) (op : port.Operation) (x : room.Lent)
    → cycle_out s (state_out t) (operation_out op) x ≡ cycled_with (cycle_of s t op x)

abbrev pub SameQuestion : Type 0
SameQuestion = (s : Setup) (t : kept.State) (b : ℕ) (x : room.Lent)
    → waiting_out s (state_out t) b x ≡ told_out (waiting_of s t b x).answer (waiting_of s t b x).count

------------------------------------------------------------------------
-- Whatever C hands in

-- the lengths of the rooms: N words, four numbers a row and an entry, two a bank; of a setup out of range none
abbrev pub lengths_due : Setup → Lent
lengths_due s = record { answer = done; memory = words_of s; rows = 4 * s.c; entries = 4 * (banks_of s * s.k); heads = 2 * banks_of s }

abbrev pub LengthsC : Type 0
LengthsC = (s : Setup) → lengths_in (checked_of s) ≡ pick (in_range (with_defaults s)) (lengths_due (with_defaults s)) no_lengths

-- writing an operation: one that is none is refused by 9, and the room stays
abbrev pub written_for : Result port.Operation Refusal → List ℕ → ℕ × List ℕ
written_for (Ok op) room = written_out (operation_written op room)
written_for (Err r) room = (bad_record, room)

abbrev pub WritesC : Type 0
WritesC = (op : Operation) (room : List ℕ) → operation_written_out op room ≡ written_for (operation_in op) room

-- a fresh start: 1, then 2, the state then coming back as it was and every room staying; and else it is the controller's
abbrev pub StartsC : Type 0
StartsC = (s : Setup) (t : State) (x : room.Lent)
    → start_out s t x
    ≡ pick (in_range (with_defaults s))
    (pick (lengths_ok (with_defaults s) x) (started_by done (state_out fresh_state), fresh_lent (with_defaults s) x) (started_by bad_length t, x))
    (started_by bad_setup t, x)

-- a cycle: 9, 1, 2, 3, 7, 4 in this order, a mark above 1 being a 3, and else it is the controller's
abbrev pub in_order : Result port.Operation Refusal → Setup → State → room.Lent → Cycled × room.Lent
in_order (Err r) s t x = (refused_by bad_record t, x)
in_order (Ok op) s t x =
    pick (in_range (with_defaults s))
    (pick (lengths_ok (with_defaults s) x)
    (pick (leb t.stopped 1 && numbers_ok (with_defaults s) (state_in t) x.rows x.buffers)
    (pick (eqb t.stopped 1) (refused_by stopped t, x)
    (pick (within (with_defaults s) op) (cycled_with (passed (with_defaults s) (state_in t) op x)) (refused_by bad_address t, x)))
    (refused_by bad_state t, x))
    (refused_by bad_length t, x))
    (refused_by bad_setup t, x)

abbrev pub CyclesC : Type 0
CyclesC = (s : Setup) (t : State) (op : Operation) (x : room.Lent) → cycle_out s t op x ≡ in_order (operation_in op) s t x

-- a question: 1 to 4, a mark above 1 being a 3; else it tells the buffer's count, and a refused one 0
abbrev pub AsksC : Type 0
AsksC = (s : Setup) (t : State) (b : ℕ) (x : room.Lent)
    → ((waiting_out s t b x).answer
    ≡ pick (in_range (with_defaults s))
    (pick (lengths_ok (with_defaults s) x)
    (pick (leb t.stopped 1 && numbers_ok (with_defaults s) (state_in t) x.rows x.buffers)
    (pick (ltb b (banks_of (with_defaults s))) done bad_address)
    bad_state)
    bad_length)
    bad_setup)
    × ((waiting_out s t b x).count ≡ pick (eqb (waiting_out s t b x).answer done) (count_of x.buffers.heads b) 0)

-- an answer that passes no cycle comes with delivery none, word and stamp 0 and the state as it was, and every room stays
abbrev pub RefusesC : Type 0
RefusesC = (s : Setup) (t : State) (op : Operation) (x : room.Lent)
    → NotRefused (cycle_out s t op x).0.reply.answer
    ⊎ (cycle_out s t op x ≡ (refused_by (cycle_out s t op x).0.reply.answer t, x))
