-- What C gets, number by number, as docs/INTERFACE.md has it. proofs/Numbers.antt proves it.
use Rattle.std.specs.Prelude.{ℕ, ◌≡◌, List, true, false, Ok, Err}
use Rattle.answers.specs.declared.Refusal.TheVariants.{BadSetup, BadLength, BadRecord}
use Rattle.setup.specs.declared.Setup.{Setup}
use Rattle.setup.specs.Examples.{setup_with}
use Rattle.map.specs.declared.Address.{Address}
use Rattle.port.specs.declared.Operation.TheVariants.{Idle, Read, Write}
use Rattle.port.specs.declared.Delivery.TheVariants.{None, Unready, Word}
use Rattle.port.specs.declared.Reply as replied
use Rattle.model.specs.declared.Lengths.{Lengths}
use Rattle.model.specs.declared.State as kept
use Rattle.forms.specs.Forms.{checked_out, lent_out, no_lengths, state_out, reply_out, cycled_out, setup_read, operation_read, written_out}

-- a refused setup: its numbers
abbrev pub zero_setup : Setup
zero_setup = setup_with 0 0 0 0 0 0 0 0 0

pub record InNumbers : Type 0 where
  -- a reply: what leaves is 0 none, 1 unready, 2 a word
  pub none : (answer stamp : ℕ)
      → reply_out (record { answer = answer; delivery = None; stamp = stamp }) ≡ record { answer = answer; delivery = 0; word = 0; stamp = stamp }
  pub unready : (answer stamp : ℕ)
      → reply_out (record { answer = answer; delivery = Unready; stamp = stamp }) ≡ record { answer = answer; delivery = 1; word = 0; stamp = stamp }
  pub word : (answer w stamp : ℕ)
      → reply_out (record { answer = answer; delivery = Word w; stamp = stamp }) ≡ record { answer = answer; delivery = 2; word = w; stamp = stamp }
  -- a state: the stop mark is 0 or 1
  pub going : (stamp turn position : ℕ)
      → state_out (record { stamp = stamp; turn = turn; position = position; stopped = false }) ≡ record { stamp = stamp; turn = turn; position = position; stopped = 0 }
  pub stopped : (stamp turn position : ℕ)
      → state_out (record { stamp = stamp; turn = turn; position = position; stopped = true }) ≡ record { stamp = stamp; turn = turn; position = position; stopped = 1 }
  -- a cycle: its state and its reply
  pub cycled : (t : kept.State) (r : replied.Reply) → cycled_out (record { state = t; reply = r }) ≡ record { state = state_out t; reply = reply_out r }
  -- a setup that is checked or read, and its answer
  pub checked : (s : Setup) → checked_out (Ok s) ≡ record { answer = 0; setup = s }
  pub refused : checked_out (Err BadSetup) ≡ record { answer = 1; setup = zero_setup }
  pub setup-read : (s : Setup) → setup_read (Ok s) ≡ record { answer = 0; setup = s }
  pub setup-refused : setup_read (Err BadSetup) ≡ record { answer = 1; setup = zero_setup }
  -- the lengths of the rooms
  pub lengths : (due : Lengths)
      → lent_out due ≡ record { answer = 0; memory = due.memory; rows = due.rows; entries = due.entries; heads = due.heads }
  pub no_lengths : no_lengths ≡ record { answer = 1; memory = 0; rows = 0; entries = 0; heads = 0 }
  -- an operation that is read
  pub idle : operation_read (Ok Idle) ≡ record { answer = 0; operation = record { kind = 0; address = 0; word = 0 } }
  pub read : (a : Address) → operation_read (Ok (Read a)) ≡ record { answer = 0; operation = record { kind = 1; address = a.0; word = 0 } }
  pub write : (a : Address) (w : ℕ) → operation_read (Ok (Write a w)) ≡ record { answer = 0; operation = record { kind = 2; address = a.0; word = w } }
  pub bad : operation_read (Err BadRecord) ≡ record { answer = 9; operation = record { kind = 0; address = 0; word = 0 } }
  -- a record that is written, a setup out of range, and a room of another length
  pub written : (room : List ℕ) → written_out (Ok tt, room) ≡ (0, room)
  pub out_of_range : (room : List ℕ) → written_out (Err BadSetup, room) ≡ (1, room)
  pub other_length : (room : List ℕ) → written_out (Err BadLength, room) ≡ (2, room)
