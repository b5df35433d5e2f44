-- The document's "One cycle": service, delivery, retirement, arrival, in this order. On a state that no run produces it goes by the same words.
use Rattle.std.specs.Prelude.{ℕ, zero, suc, ◌+◌, ◌-◌, ◌*◌, ◌%◌, ◌^◌, Bool, true, false, not, ◌&&◌, ◌||◌, List, eqb, get_or, set, Option, Some, None}
use Rattle.answers.specs.Answers.{done, dropped, stopping}
use Rattle.choice.specs.Choice.{pick}
use Rattle.setup.specs.Setup.{merging, map_of, banks_of}
use Rattle.setup.specs.declared.Setup.{Setup}
use Rattle.map.specs.Map.{cell_of, bank_of}
use Rattle.map.specs.declared.Address.{Address}
use Rattle.port.specs.declared.Operation.{Operation}
use Rattle.port.specs.declared.Operation.TheVariants.{Idle, Read, Write}
use Rattle.port.specs.declared.Delivery.{Delivery}
use Rattle.port.specs.declared.Delivery.TheVariants as delivery
use Rattle.model.specs.declared.State.{State}
use Rattle.model.specs.declared.Row.{Row}
use Rattle.model.specs.declared.Entry.{Entry}
use Rattle.model.specs.declared.Plan.{Plan}
use Rattle.model.specs.declared.Cycled.{Cycled}
use Rattle.rings.specs.Places.{onward, back}
use Rattle.model.specs.Lent.{Lent, Buffers, buffers_in, empty_kind, write_kind, read_kind, waiting_kind, row_with, row_at, put_row, empty_row, read_entry, write_entry, entry_with, entry_at, put_entry, oldest_of, count_of, put_head}

------------------------------------------------------------------------
-- 1. Service. Each bank b with b mod m = t mod m, in rising b, takes the oldest entry of its buffer, if any.

-- row p, or a row waiting on that row, where these are reads still lacking a word
abbrev pub lacks : ℕ → ℕ → Row → Bool
lacks p i r = eqb r.kind waiting_kind && (eqb i p || eqb r.link p)

abbrev pub with_word : Row → ℕ → Row
with_word r w = row_with read_kind r.address.0 w 0

abbrev pub filled_row : ℕ → ℕ → ℕ → ℕ → List ℕ → List ℕ
filled_row c p w i rows = pick (lacks p i (row_at c rows i)) (put_row c rows i (with_word (row_at c rows i) w)) rows

-- the rows below i, once row p's entry has brought the word w
unfoldable pub filled_below : ℕ → ℕ → ℕ → ℕ → List ℕ → List ℕ
filled_below c p w zero rows = rows
filled_below c p w (suc i) rows = filled_row c p w i (filled_below c p w i rows)

-- memory and rows once an entry is carried out:
-- a write entry stores its word at its cell; a read entry's word goes to its row and to every row waiting on that row
unfoldable pub carried : Setup → Entry → List ℕ × List ℕ → List ℕ × List ℕ
carried s e (memory, rows) =
    pick (eqb e.kind write_entry) (set memory e.cell.0 e.word, rows)
    (memory, filled_below s.c e.row (get_or memory e.cell.0 0) s.c rows)

-- the oldest entry of bank b's buffer, among the K of its own part of the entry room
abbrev pub oldest_entry : Setup → ℕ → Buffers → Entry
oldest_entry s b q = entry_at q.entries (b * s.k + oldest_of q.heads b)

-- the heads once bank b's oldest entry is taken
abbrev pub popped : Setup → ℕ → List ℕ → List ℕ
popped s b heads = put_head heads b (onward s.k (oldest_of heads b) 1) (count_of heads b - 1)

abbrev pub with_carried : Buffers → List ℕ × List ℕ → Lent
with_carried q (memory, rows) = record { memory = memory; rows = rows; buffers = q }

unfoldable pub served_bank : Setup → ℕ → Lent → Lent
served_bank s b x =
    pick (eqb (count_of x.buffers.heads b) 0) x
    (with_carried (buffers_in x.buffers.entries (popped s b x.buffers.heads))
    (carried s (oldest_entry s b x.buffers) (x.memory, x.rows)))

abbrev pub served_if : Setup → ℕ → ℕ → Lent → Lent
served_if s turn b x = pick (eqb (b % s.m) turn) (served_bank s b x) x

-- the banks below b
unfoldable pub served_below : Setup → ℕ → ℕ → Lent → Lent
served_below s turn zero x = x
served_below s turn (suc b) x = served_if s turn b (served_below s turn b x)

abbrev pub served : Setup → ℕ → Lent → Lent
served s turn x = served_below s turn (banks_of s) x

------------------------------------------------------------------------
-- 2. Delivery. The row filled at t − Δ is looked at.

-- a read with a word delivers it, a read without one delivers "unready", and a write or an empty row delivers none
abbrev pub leaves : Row → Delivery
leaves r = pick (eqb r.kind read_kind) (delivery.Word r.word) (pick (eqb r.kind waiting_kind) delivery.Unready delivery.None)

abbrev pub delivered : Setup → ℕ → List ℕ → Delivery
delivered s position rows = leaves (row_at s.c rows (back s.c position s.delta))

------------------------------------------------------------------------
-- Looking back through the table, newest first, and placing an entry

-- the first such row among the n places before i
unfoldable pub scan : (Row → Bool) → ℕ → List ℕ → ℕ → ℕ → Option ℕ
scan f c rows zero i = None
scan f c rows (suc n) i =
    pick (f (row_at c rows (back c i 1))) (Some (back c i 1)) (scan f c rows n (back c i 1))

-- a row of this address: whole addresses are compared
abbrev pub is_of : Address → Row → Bool
is_of a r = not (eqb r.kind empty_kind) && eqb r.address.0 a.0

abbrev pub writes : Address → Row → Bool
writes a r = eqb r.kind write_kind && eqb r.address.0 a.0

-- the live rows that are newer than the row at the position are the C − 1 before it
abbrev pub newest_live : Setup → ℕ → Address → List ℕ → Option ℕ
newest_live s position a rows = scan (is_of a) s.c rows (s.c - 1) position

abbrev pub newest_write : Setup → ℕ → Address → List ℕ → Option ℕ
newest_write s position a rows = scan (writes a) s.c rows (s.c - 1) position

-- first in, first out: behind the last entry of bank b's buffer
abbrev pub placed_at : Setup → ℕ → Entry → Buffers → Buffers
placed_at s b e q =
    buffers_in
    (put_entry q.entries (b * s.k + onward s.k (oldest_of q.heads b) (count_of q.heads b)) e)
    (put_head q.heads b (oldest_of q.heads b) (count_of q.heads b + 1))

-- an entry needs a place in the buffer of its cell's bank: there is one unless the buffer holds K
unfoldable pub placed : Setup → Entry → Buffers → Bool × Buffers
placed s e q =
    pick (eqb (count_of q.heads (bank_of (map_of s) e.cell)) s.k) (false, q)
    (true, placed_at s (bank_of (map_of s) e.cell) e q)

-- what is to be placed, if anything is
abbrev pub placed_if : Setup → Option Entry → Buffers → Bool × Buffers
placed_if s None q = (true, q)
placed_if s (Some e) q = placed s e q

-- write entries carry their own cell and word
abbrev pub write_of : Setup → Address → ℕ → Entry
write_of s a w = entry_with write_entry 0 (cell_of (map_of s) a).0 w

abbrev pub read_of : Setup → ℕ → Address → Entry
read_of s position a = entry_with read_entry position (cell_of (map_of s) a).0 0

------------------------------------------------------------------------
-- 3. Retirement. The row filled at t − C is given up.

-- if no newer live row is a write to its address, a write entry is placed in its bank's buffer
abbrev pub given_up_write : Setup → Row → Option ℕ → Option Entry
given_up_write s r (Some i) = None
given_up_write s r None = Some (write_of s r.address r.word)

-- if it is a write
abbrev pub given_up_row : Setup → ℕ → Row → List ℕ → Option Entry
given_up_row s position r rows =
    pick (eqb r.kind write_kind) (given_up_write s r (newest_write s position r.address rows)) None

-- in merging mode
abbrev pub given_up : Setup → ℕ → List ℕ → Option Entry
given_up s position rows = pick (merging s) (given_up_row s position (row_at s.c rows position) rows) None

-- false where a retiring write needs a place and its buffer holds K
unfoldable pub retired : Setup → ℕ → List ℕ → Buffers → Bool × Buffers
retired s position rows q = placed_if s (given_up s position rows) q

------------------------------------------------------------------------
-- 4. Arrival. The operation is idle, a read or a write, and fills the row of cycle t.

abbrev pub plan_with : Row → Option Entry → Plan
plan_with row placing = record { row = row; placing = placing }

-- a read places an entry, and its row waits on itself
abbrev pub read_plan : Setup → ℕ → Address → Plan
read_plan s position a = plan_with (row_with waiting_kind a.0 0 position) (Some (read_of s position a))

-- a write there, or a read with its word, gives the word at once; a read still waiting makes the new row wait on the row whose entry is in the buffer
abbrev pub merged_row : Address → Row → Row
merged_row a r = pick (eqb r.kind waiting_kind) (row_with waiting_kind a.0 0 r.link) (row_with read_kind a.0 r.word 0)

-- merging, a read looks for the newest live row of its address; with nothing live, the read places an entry
abbrev pub merged_plan : Setup → ℕ → Address → Option ℕ → List ℕ → Plan
merged_plan s position a (Some i) rows = plan_with (merged_row a (row_at s.c rows i)) None
merged_plan s position a None rows = read_plan s position a

-- merging, a write places nothing; plain, it places an entry
abbrev pub write_plan : Setup → Address → ℕ → Plan
write_plan s a w = plan_with (row_with write_kind a.0 w 0) (pick (merging s) None (Some (write_of s a w)))

-- what the operation is to do, once the rows are looked at
abbrev pub planned : Setup → ℕ → Operation → List ℕ → Plan
planned s position Idle rows = plan_with empty_row None
planned s position (Read a) rows =
    pick (merging s) (merged_plan s position a (newest_live s position a rows) rows) (read_plan s position a)
planned s position (Write a w) rows = write_plan s a w

-- whether the operation is taken, and the rows and the buffers
abbrev pub Arrived : Type 0
Arrived = Bool × (List ℕ × Buffers)

-- the row r, where its entry found a place; dropped, its row is empty
abbrev pub seated : Setup → ℕ → Row → List ℕ → Bool × Buffers → Arrived
seated s position r rows (taken, q) = (taken, (put_row s.c rows position (pick taken r empty_row), q))

-- as planned: the operation is taken where this answers true
unfoldable pub arrived : Setup → ℕ → Plan → List ℕ → Buffers → Arrived
arrived s position p rows q = seated s position p.row rows (placed_if s p.placing q)

------------------------------------------------------------------------
-- The cycle

-- the stamp wraps on purpose; turn and position are kept apart from it
abbrev pub next_state : Setup → State → State
next_state s t =
    record {
      stamp = (t.stamp + 1) % 2 ^ 32;
      turn = onward s.m t.turn 1;
      position = onward s.c t.position 1;
      stopped = t.stopped;
    }

-- stamp, turn and position stay; the state is marked stopped
abbrev pub stopped_state : State → State
stopped_state t = record { stamp = t.stamp; turn = t.turn; position = t.position; stopped = true }

abbrev pub cycled : State → ℕ → Delivery → State → Cycled
cycled t answer d next = record { state = next; reply = record { answer = answer; delivery = d; stamp = t.stamp } }

-- what a cycle returns, and the rows and buffers that it leaves
abbrev pub Left : Type 0
Left = Cycled × (List ℕ × Buffers)

-- dropped or not, the cycle passes
abbrev pub finished : Setup → State → Delivery → Arrived → Left
finished s t d (taken, w) = (cycled t (pick taken done dropped) d (next_state s t), w)

-- a retiring write that finds its buffer full stops the machine, and arrival is not looked at
abbrev pub going : Setup → State → Plan → Delivery → List ℕ → Bool × Buffers → Left
going s t p d rows (true, q) = finished s t d (arrived s t.position p rows q)
going s t p d rows (false, q) = (cycled t stopping d (stopped_state t), (rows, q))

-- delivery, retirement, arrival
unfoldable pub after_service : Setup → State → Operation → List ℕ → Buffers → Left
after_service s t op rows q =
    going s t (planned s t.position op rows) (delivered s t.position rows) rows (retired s t.position rows q)

abbrev pub with_memory : List ℕ → Left → Cycled × Lent
with_memory memory (r, (rows, q)) = (r, record { memory = memory; rows = rows; buffers = q })

unfoldable pub passed : Setup → State → Operation → Lent → Cycled × Lent
passed s t op x =
    let y = served s t.turn x in
    with_memory y.memory (after_service s t op y.rows y.buffers)
