-- The document's "Records", last paragraph: what `cyclerun` prints.
use Rattle.std.specs.Prelude.{ℕ, zero, suc, ◌+◌, ◌-◌, ◌*◌, ◌/◌, ◌^◌, ◌≡◌, Bool, true, false, ◌&&◌, List, [], ◌∷◌, ◌++◌, leb, length, take, drop, Result, Ok, Err}
use Rattle.answers.specs.declared.Refusal.{Refusal}
use Rattle.answers.specs.declared.Refusal.TheVariants.{RoomTooSmall}
use Rattle.answers.specs.Answers.{number}
use Rattle.choice.specs.Choice.{pick}
use Rattle.setup.specs.Setup.{Ranges, checked_of, banks_of}
use Rattle.setup.specs.declared.Setup.{Setup}
use Rattle.port.specs.declared.Operation.{Operation}
use Rattle.port.specs.declared.Delivery.{Delivery}
use Rattle.model.specs.declared.State.{State}
use Rattle.model.specs.Lent.{Lent}
use Rattle.model.specs.Range.{lengths_for, lengths_of, zeroed}
use Rattle.model.specs.Calls.{fresh_state}
use Rattle.model.specs.Runs.{Machine, after, reply_of}
use Rattle.records.specs.Records.{operation_size, operation_of, operation_answer}
use Rattle.setuprecord.specs.SetupRecord.{setup_of}
use Rattle.decimal.specs.Decimal.{decimal, stored}
use Rattle.listing.specs.Listing.{space, newline, line_of}
use Rattle.replay.specs.declared.Run.{Run}

------------------------------------------------------------------------
-- The setup

-- its room holds a up to 12, C up to 1,024 and B·K up to 1,024
abbrev pub most_a : ℕ
most_a = 12

abbrev pub most_c : ℕ
most_c = 1024

abbrev pub most_places : ℕ
most_places = 1024

abbrev pub room_for : Setup → Bool
room_for s = leb s.a most_a && leb s.c most_c && leb (banks_of s * s.k) most_places

-- one too large prints `setup 8`: it is compared after the defaults
abbrev pub opening_in : Result Setup Refusal → Result Setup Refusal
opening_in (Err r) = Err r
opening_in (Ok s) = pick (room_for s) (Ok s) (Err RoomTooSmall)

-- a setup that is missing, of the wrong length or refused by 1 prints `setup 1`
unfoldable pub opening_for : Result Setup Refusal → Result Setup Refusal
opening_for (Err r) = Err r
opening_for (Ok s) = opening_in (checked_of s)

-- of the bytes of the file `setup`, none where it is missing
abbrev pub opening_of : List ℕ → Result Setup Refusal
opening_of file = opening_for (setup_of file)

-- `setup`
abbrev pub setup_word : List ℕ
setup_word = 115 ∷ 101 ∷ 116 ∷ 117 ∷ 112 ∷ []

unfoldable pub setup_line : ℕ → List ℕ
setup_line answer = setup_word ++ (space ∷ []) ++ decimal answer ++ (newline ∷ [])

------------------------------------------------------------------------
-- A line per record

-- a run between two records: the text printed, the next record's number, whether the run goes on, and the machine
pub record Listed : Type 0 where
  pub text : List ℕ
  pub number : ℕ
  pub on : Bool
  pub machine : Machine

-- record number from 0, answer number, delivery
abbrev pub with_line : Listed → ℕ → Delivery → Bool → Machine → Listed
with_line x answer d on w =
    record { text = x.text ++ line_of x.number answer d; number = x.number + 1; on = on; machine = w }

-- a bad record prints its line with 9 and ends the run: the controller is not asked, also after a stop
unfoldable pub with_record : Setup → Result Operation Refusal → Listed → Listed
with_record s (Err r) x = with_line x (operation_answer (Err r)) Delivery.None false x.machine
with_record s (Ok op) x =
    with_line x (reply_of s op x.machine).answer (reply_of s op x.machine).delivery true (after s op x.machine)

-- record i of the input: the last has as many bytes as are left
abbrev pub record_at : List ℕ → ℕ → List ℕ
record_at input i = take operation_size (drop (operation_size * i) input)

-- how many records n bytes have, a short last one among them
abbrev pub records_in : ℕ → ℕ
records_in n = (n + (operation_size - 1)) / operation_size

-- the records below i, as long as the run goes on
unfoldable pub listed_below : Setup → List ℕ → ℕ → Listed → Listed
listed_below s input zero x = x
listed_below s input (suc i) x =
    let y = listed_below s input i x in
    pick y.on (with_record s (operation_of (record_at input i)) y) y

abbrev pub listed : Setup → List ℕ → Listed → Listed
listed s input x = listed_below s input (records_in (length input)) x

------------------------------------------------------------------------
-- The whole run, over memory of zeros

abbrev pub zeros_for : Setup → Lent
zeros_for s = zeroed (lengths_of s)

-- no setup has more banks
abbrev pub most_banks : ℕ
most_banks = 2 ^ 6

-- the program's whole room
abbrev pub whole_room : Lent
whole_room = zeroed (lengths_for (2 ^ most_a) most_c most_places most_banks)

abbrev pub first_of : Setup → Listed
first_of s = record { text = []; number = 0; on = true; machine = (fresh_state, zeros_for s) }

unfoldable pub printed_in : Result Setup Refusal → List ℕ → List ℕ
printed_in (Err r) input = setup_line (number r)
printed_in (Ok s) input = (listed s input (first_of s)).text

-- what is printed for the bytes of the file `setup` and of standard input
abbrev pub printed : List ℕ → List ℕ → List ℕ
printed file input = printed_in (opening_of file) input

------------------------------------------------------------------------
-- The run as the code holds it: its text stands in a lent room

-- a run that has printed nothing yet
abbrev pub listed_from : Run → Lent → Listed
listed_from r x = record { text = []; number = r.number; on = r.on; machine = (r.state, x) }

-- the run, what it lends the machine, and the room with the text from a place on
abbrev pub put_at : List ℕ → ℕ → Listed → Run × (Lent × List ℕ)
put_at room at y = (
  record { state = y.machine.0; number = y.number; on = y.on; end = at + length y.text },
  (y.machine.1, stored room at y.text),
)

-- one line more
abbrev pub put_line : List ℕ → Run → State → ℕ → Delivery → Bool → Run × List ℕ
put_line room r t answer d on = (
  record { state = t; number = r.number + 1; on = on; end = r.end + length (line_of r.number answer d) },
  stored room r.end (line_of r.number answer d),
)

-- what a caller knows of a setup that the file opens
pub record Opened (s : Setup) : Type 0 where
  pub ranges : Ranges s
  pub checked : checked_of s ≡ Ok s
  pub room : room_for s ≡ true

-- a run before its first record, as `first_of` has it: a fresh start leaves zeros everywhere
abbrev pub begun : Setup → Run × Lent
begun s = (record { state = fresh_state; number = 0; on = true; end = 0 }, zeros_for s)
