-- Demand 2, in its own words: what the inspector signs. A run begins with a fresh start that answers 0.
use Rattle.std.specs.Prelude.{ℕ, ◌+◌, ◌-◌, ◌%◌, ◌^◌, ◌≡◌, ◌⊎◌, ◌↔◌, true, false, List, [], ◌∷◌, ◌++◌, ltb, eqb, length, get_or, drop}
use Rattle.answers.specs.Answers.{done, bad_address, dropped, stopping, stopped}
use Rattle.choice.specs.Choice.{pick}
use Rattle.setup.specs.Setup.{with_defaults, map_of, banks_of}
use Rattle.setup.specs.declared.Setup.{Setup}
use Rattle.map.specs.Map.{cell_of}
use Rattle.map.specs.declared.Address.{Address}
use Rattle.port.specs.declared.Operation.{Operation}
use Rattle.port.specs.declared.Operation.TheVariants.{Idle, Read}
use Rattle.port.specs.declared.Delivery.TheVariants.{None, Unready, Word}
use Rattle.port.specs.declared.Reply.{Reply}
use Rattle.model.specs.declared.State.{State}
use Rattle.model.specs.Lent.{Lent}
use Rattle.model.specs.Calls.{fresh_of, address_ok, refused, cycle_of, waiting_of}
use Rattle.model.specs.Runs.{Machine, reply_of, replies, after, after_all, fresh}
use Rattle.model.specs.Sram.{sram, due}
use Rattle.model.specs.Ledger.{Ledger, fresh_ledger, waits, serviced, retires, arrives, full, given, entered}

------------------------------------------------------------------------
-- A run

-- the fresh start answers 0: the setup is in range and every lent length is exact
abbrev pub Starts : Setup → Machine → Type 0
Starts g (t, x) = (fresh_of g t x).0.answer ≡ done

-- the machine after a fresh start and these offered operations
abbrev pub reached : Setup → Machine → List Operation → Machine
reached g w ops = after_all g ops (fresh g w)

-- the ideal SRAM starts with, at each address, the word lent at that address's cell
abbrev pub start_word : Setup → Machine → Address → ℕ
start_word g (t, x) a = get_or x.memory (cell_of (map_of (with_defaults g)) a).0 0

-- the call of this operation, then
abbrev pub reply_at : Setup → Machine → List Operation → Operation → Reply
reply_at g w ops op = reply_of g op (reached g w ops)

------------------------------------------------------------------------
-- The machine is the ledger: call by call, in both modes, through and beyond a stop

-- the ledger's replies to these operations, and what they leave
unfoldable pub promised : Setup → (Address → ℕ) → List Operation → Ledger → List Reply
promised s start [] l = []
promised s start (op ∷ ops) l = (entered s start op l).0 ∷ promised s start ops (entered s start op l).1

unfoldable pub booked : Setup → (Address → ℕ) → List Operation → Ledger → Ledger
booked s start [] l = l
booked s start (op ∷ ops) l = booked s start ops (entered s start op l).1

abbrev pub ledger_at : Setup → Machine → List Operation → Ledger
ledger_at g w ops = booked (with_defaults g) (start_word g w) ops fresh_ledger

abbrev pub Emulates : Type 0
Emulates =
    (g : Setup) (w : Machine) (ops : List Operation) → Starts g w
    → replies g ops (fresh g w) ≡ promised (with_defaults g) (start_word g w) ops fresh_ledger

------------------------------------------------------------------------
-- The operations of the passed cycles, read off the machine's own answers, newest first, a dropped one standing as idle

abbrev pub passing : ℕ → Operation → List Operation → List Operation
passing answer op past = pick (eqb answer done) (op ∷ past) (pick (eqb answer dropped) (Idle ∷ past) past)

unfoldable pub history_from : Setup → List Operation → Machine → List Operation → List Operation
history_from g [] w past = past
history_from g (op ∷ ops) w past = history_from g ops (after g op w) (passing (reply_of g op w).answer op past)

abbrev pub history : Setup → Machine → List Operation → List Operation
history g w ops = history_from g ops (fresh g w) []

-- a call that reaches its cycle: it is not refused
abbrev pub NotRefused : ℕ → Type 0
NotRefused answer = (answer ≡ done) ⊎ ((answer ≡ dropped) ⊎ (answer ≡ stopping))

------------------------------------------------------------------------
-- What leaves

-- a read taken at cycle t leaves at exactly t + Δ, once that cycle is reached,
-- with the word that the ideal SRAM given only the taken operations holds at t
abbrev pub ReadLeaves : Type 0
ReadLeaves =
    (g : Setup) (w : Machine) (ops more : List Operation) (a : Address) (op : Operation) → Starts g w
    → (reply_at g w ops (Read a)).answer ≡ done
    → length (history g w (ops ++ Read a ∷ more)) ≡ length (history g w ops) + (with_defaults g).delta
    → NotRefused (reply_at g w (ops ++ Read a ∷ more) op).answer
    → (reply_at g w (ops ++ Read a ∷ more) op).delivery ≡ Word (sram (start_word g w) (history g w ops) a)

-- nothing else is ever delivered: what is due for cycle t − Δ, and none where the call is refused, by 7 or 4
abbrev pub NothingElse : Type 0
NothingElse =
    (g : Setup) (w : Machine) (ops : List Operation) (op : Operation) → Starts g w
    → (NotRefused (reply_at g w ops op).answer
    × ((reply_at g w ops op).delivery ≡ due (start_word g w) (drop ((with_defaults g).delta - 1) (history g w ops))))
    ⊎ ((((reply_at g w ops op).answer ≡ stopped) ⊎ ((reply_at g w ops op).answer ≡ bad_address)) × ((reply_at g w ops op).delivery ≡ None))

abbrev pub NeverUnready : Type 0
NeverUnready =
    (g : Setup) (w : Machine) (ops : List Operation) (op : Operation) → Starts g w → (reply_at g w ops op).delivery ≡ Unready → ⊥

------------------------------------------------------------------------
-- Drops and stops. A cycle is reached where the machine has not stopped and the address is below N

-- the ledger once the banks of this cycle are served, and once its retiring write has its place
abbrev pub retiring_at : Setup → Machine → List Operation → Ledger
retiring_at g w ops = serviced (with_defaults g) (ledger_at g w ops)

abbrev pub arriving_at : Setup → Machine → List Operation → Ledger
arriving_at g w ops = given (retires (with_defaults g) (retiring_at g w ops)) (retiring_at g w ops)

-- the machine stops exactly when a retiring write needs a place in a full request buffer
abbrev pub StopsExactly : Type 0
StopsExactly =
    (g : Setup) (w : Machine) (ops : List Operation) (op : Operation) → Starts g w
    → ((reply_at g w ops op).answer ≡ stopping)
    ↔ (((ledger_at g w ops).halted ≡ false)
    × (address_ok (with_defaults g) op ≡ true)
    × (full (with_defaults g) (retires (with_defaults g) (retiring_at g w ops)) (retiring_at g w ops) ≡ true))

-- and every later call answers 7
abbrev pub StaysStopped : Type 0
StaysStopped =
    (g : Setup) (w : Machine) (ops more : List Operation) (op later : Operation) → Starts g w
    → (reply_at g w ops op).answer ≡ stopping
    → (reply_at g w (ops ++ op ∷ more) later).answer ≡ stopped

-- an operation is dropped exactly when it needs a place in a full request buffer
abbrev pub DropsExactly : Type 0
DropsExactly =
    (g : Setup) (w : Machine) (ops : List Operation) (op : Operation) → Starts g w
    → ((reply_at g w ops op).answer ≡ dropped)
    ↔ (((ledger_at g w ops).halted ≡ false)
    × (address_ok (with_defaults g) op ≡ true)
    × (full (with_defaults g) (retires (with_defaults g) (retiring_at g w ops)) (retiring_at g w ops) ≡ false)
    × (full (with_defaults g) (arrives (with_defaults g) op (arriving_at g w ops)) (arriving_at g w ops) ≡ true))

------------------------------------------------------------------------
-- The other sentences

-- no state reached from a fresh start gives 3, nor 1 or 2
abbrev pub NeverBadState : Type 0
NeverBadState =
    (g : Setup) (w : Machine) (ops : List Operation) (op : Operation) → Starts g w
    → NotRefused (reply_at g w ops op).answer ⊎ (((reply_at g w ops op).answer ≡ bad_address) ⊎ ((reply_at g w ops op).answer ≡ stopped))

-- a question tells how many entries wait at one bank: those placed less those served since the fresh start;
-- at a bank at or above B it answers 4 and tells 0. No question on a reached state gives 3
abbrev pub TellsWaiting : Type 0
TellsWaiting =
    (g : Setup) (w : Machine) (ops : List Operation) (b : ℕ) → Starts g w
    → ((waiting_of g (reached g w ops).0 b (reached g w ops).1).answer ≡ pick (ltb b (banks_of (with_defaults g))) done bad_address)
    × ((waiting_of g (reached g w ops).0 b (reached g w ops).1).count
    ≡ pick (ltb b (banks_of (with_defaults g))) (waits (ledger_at g w ops) b) 0)

-- answers 1 to 4 and 7 change nothing lent and hand out nothing, on every state, reached or not
abbrev pub RefusesWhole : Type 0
RefusesWhole =
    (g : Setup) (t : State) (op : Operation) (x : Lent)
    → NotRefused (cycle_of g t op x).0.reply.answer ⊎ (cycle_of g t op x ≡ refused (cycle_of g t op x).0.reply.answer t x)

-- the stamp is the cycle number modulo 2^32
abbrev pub StampsCycles : Type 0
StampsCycles =
    (g : Setup) (w : Machine) (ops : List Operation) (op : Operation) → Starts g w → NotRefused (reply_at g w ops op).answer
    → (reply_at g w ops op).stamp ≡ length (history g w ops) % 2 ^ 32

-- the state's own stamp, turn and position are the cycle number's, however long the run; a stop leaves those of the cycle that stopped
abbrev pub TurnsApart : Type 0
TurnsApart =
    (g : Setup) (w : Machine) (ops : List Operation) → Starts g w
    → ((reached g w ops).0.stamp ≡ length (history g w ops) % 2 ^ 32)
    × ((reached g w ops).0.turn ≡ length (history g w ops) % (with_defaults g).m)
    × ((reached g w ops).0.position ≡ length (history g w ops) % (with_defaults g).c)
