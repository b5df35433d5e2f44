-- Small runs, computed: that memory and ideal SRAM may differ, a word leaving before the memory holds it, why demand 3 has its
-- hypotheses, what the rooms hold, the refusals by their numbers, whose turn it is, and what needs a place.
use Rattle.std.specs.Prelude.{ℕ, suc, ◌≡◌, Bool, true, false, List, [], ◌∷◌, map, get_or, take, replicate}
use Rattle.setup.specs.Setup.{with_defaults}
use Rattle.setup.specs.declared.Setup.{Setup}
use Rattle.setup.specs.Examples.{setup_with}
use Rattle.port.specs.declared.Operation.{Operation}
use Rattle.port.specs.declared.Operation.TheVariants.{Idle, Read, Write}
use Rattle.port.specs.declared.Delivery.{Delivery}
use Rattle.port.specs.declared.Delivery.TheVariants.{None, Word}
use Rattle.port.specs.declared.Reply.{Reply}
use Rattle.model.specs.Lent.{Lent, lent}
use Rattle.model.specs.Range.{lengths_of, zeroed}
use Rattle.model.specs.Calls.{fresh_state, fresh_of, cycle_of, waiting_of}
use Rattle.model.specs.Runs.{Machine, replies, fresh}
use Rattle.model.specs.Sram.{sram}
use Rattle.model.specs.Promises.{reached, start_word, history}

-- rooms of zeros for a setup
abbrev pub zeros : Setup → Machine
zeros g =
    (fresh_state, zeroed (lengths_of (with_defaults g)))

-- the answers and deliveries of a run over them
abbrev pub heard : Setup → List Operation → List (ℕ × Delivery)
heard g ops = map {B = ℕ × Delivery} (λ (r : Reply). (r.answer, r.delivery)) (replies g ops (fresh g (zeros g)))

abbrev pub read : ℕ → Operation
read a = Read (record { 0 = a })

abbrev pub write : ℕ → ℕ → Operation
write a w = Write (record { 0 = a }) w

-- the operations up to cycle t; the first is number 0
abbrev pub up_to : ℕ → List Operation → List Operation
up_to t ops = take (suc t) ops

-- the memory word at cell c after each of these cycles, the ideal SRAM's at address a, and what a question of bank b tells then
abbrev pub memories : Setup → List Operation → ℕ → List ℕ → List ℕ
memories g ops c cycles = map (λ (t : ℕ). get_or (reached g (zeros g) (up_to t ops)).1.memory c 0) cycles

abbrev pub ideals : Setup → List Operation → ℕ → List ℕ → List ℕ
ideals g ops a cycles = map (λ (t : ℕ). sram (start_word g (zeros g)) (history g (zeros g) (up_to t ops)) (record { 0 = a })) cycles

abbrev pub asked : Setup → Machine → ℕ → ℕ
asked g (t, x) b = (waiting_of g t b x).count

abbrev pub counts : Setup → List Operation → ℕ → List ℕ → List ℕ
counts g ops b cycles = map (λ (t : ℕ). asked g (reached g (zeros g) (up_to t ops)) b) cycles

------------------------------------------------------------------------
-- P7: the memory lags behind the ideal SRAM, and never holds 5; every word handed out is the ideal SRAM's all the same

abbrev pub p7 : Setup
p7 = setup_with 1 1 0 1 1 1 2 1 0

abbrev pub twice : List Operation
twice = write 0 5 ∷ write 0 6 ∷ Idle ∷ Idle ∷ Idle ∷ []

abbrev pub MemoryLags : Type 0
MemoryLags =
    (memories p7 twice 0 (0 ∷ 1 ∷ 2 ∷ 3 ∷ 4 ∷ []) ≡ 0 ∷ 0 ∷ 0 ∷ 0 ∷ 6 ∷ [])
    × (ideals p7 twice 0 (0 ∷ 1 ∷ 2 ∷ 3 ∷ 4 ∷ []) ≡ 5 ∷ 6 ∷ 6 ∷ 6 ∷ 6 ∷ [])

-- with a read behind the writes: call 3 hands out 6, and the memory holds 0 before and after it
abbrev pub then_read : List Operation
then_read = write 0 5 ∷ write 0 6 ∷ read 0 ∷ Idle ∷ Idle ∷ []

abbrev pub WordBeforeMemory : Type 0
WordBeforeMemory =
    (heard p7 then_read ≡ (0, None) ∷ (0, None) ∷ (0, None) ∷ (0, Word 6) ∷ (0, None) ∷ [])
    × (memories p7 then_read 0 (0 ∷ 1 ∷ 2 ∷ 3 ∷ 4 ∷ []) ≡ 0 ∷ 0 ∷ 0 ∷ 0 ∷ 6 ∷ [])
    × (ideals p7 then_read 0 (0 ∷ 1 ∷ 2 ∷ 3 ∷ 4 ∷ []) ≡ 5 ∷ 6 ∷ 6 ∷ 6 ∷ 6 ∷ [])

------------------------------------------------------------------------
-- Two depths: one bank served in every second cycle, Δ = C = 4, one place against two

abbrev pub depth : (mode k : ℕ) → Setup
depth mode k = setup_with mode 1 0 2 k 4 4 1 0

-- plain: where an earlier write was dropped the words differ
abbrev pub rewritten : List Operation
rewritten = write 0 1 ∷ write 0 2 ∷ read 0 ∷ Idle ∷ Idle ∷ Idle ∷ Idle ∷ []

abbrev pub DroppedWriteTells : Type 0
DroppedWriteTells =
    (heard (depth 0 1) rewritten ≡ (0, None) ∷ (5, None) ∷ (0, None) ∷ (0, None) ∷ (0, None) ∷ (0, None) ∷ (0, Word 1) ∷ [])
    × (heard (depth 0 2) rewritten ≡ (0, None) ∷ (0, None) ∷ (0, None) ∷ (0, None) ∷ (0, None) ∷ (0, None) ∷ (0, Word 2) ∷ [])

-- merging: after the first drop the deliveries differ
abbrev pub reread : List Operation
reread = read 0 ∷ read 1 ∷ Idle ∷ Idle ∷ Idle ∷ Idle ∷ []

abbrev pub DroppedReadTells : Type 0
DroppedReadTells =
    (heard (depth 1 1) reread ≡ (0, None) ∷ (5, None) ∷ (0, None) ∷ (0, None) ∷ (0, Word 0) ∷ (0, None) ∷ [])
    × (heard (depth 1 2) reread ≡ (0, None) ∷ (0, None) ∷ (0, None) ∷ (0, None) ∷ (0, Word 0) ∷ (0, Word 0) ∷ [])

------------------------------------------------------------------------
-- What the rooms hold, number by number: the kinds of rows and entries, and a 0 where a number has no meaning

-- the setups of two places above, over rooms that held 9 everywhere before the fresh start
abbrev pub nines : Machine
nines = (fresh_state, lent (9 ∷ 9 ∷ []) (replicate 16 9) (replicate 8 9) (9 ∷ 9 ∷ []))

abbrev pub rooms_after : (mode : ℕ) → List Operation → Lent
rooms_after mode ops = (reached (depth mode 2) nines ops).1

-- plain: the read of cycle 1 gets its word at cycle 2; the write of cycle 2 and the read of cycle 3 wait
abbrev pub apart : List Operation
apart = Idle ∷ read 1 ∷ write 0 5 ∷ read 0 ∷ []

-- merging: the read of cycle 1 takes the word of the write; the read of cycle 3 waits on that of cycle 2
abbrev pub joined : List Operation
joined = write 0 5 ∷ read 0 ∷ read 1 ∷ read 1 ∷ []

-- rows: four kinds, four addresses, four links, four words; entries: kind, row, cell, word; heads: oldest place and count
abbrev pub RoomsHold : Type 0
RoomsHold =
    ((rooms_after 0 apart).rows ≡ 0 ∷ 2 ∷ 1 ∷ 3 ∷ 0 ∷ 1 ∷ 0 ∷ 0 ∷ 0 ∷ 0 ∷ 0 ∷ 3 ∷ 0 ∷ 9 ∷ 5 ∷ 0 ∷ [])
    × ((rooms_after 0 apart).buffers.entries ≡ 0 ∷ 3 ∷ 0 ∷ 0 ∷ 1 ∷ 0 ∷ 0 ∷ 5 ∷ [])
    × ((rooms_after 0 apart).buffers.heads ≡ 1 ∷ 2 ∷ [])
    × ((rooms_after 1 joined).rows ≡ 1 ∷ 2 ∷ 3 ∷ 3 ∷ 0 ∷ 0 ∷ 1 ∷ 1 ∷ 0 ∷ 0 ∷ 2 ∷ 2 ∷ 5 ∷ 5 ∷ 0 ∷ 0 ∷ [])
    × ((rooms_after 1 joined).buffers.entries ≡ 0 ∷ 2 ∷ 1 ∷ 0 ∷ 9 ∷ 9 ∷ 9 ∷ 9 ∷ [])
    × ((rooms_after 1 joined).buffers.heads ≡ 0 ∷ 1 ∷ [])

------------------------------------------------------------------------
-- The refusals by their numbers, under P7's setup, whose rooms have 2, 8, 4 and 2 numbers

-- a fresh start over rooms of these lengths
abbrev pub started_over : (memory rows entries heads : ℕ) → ℕ
started_over memory rows entries heads =
    (fresh_of p7 fresh_state (lent (replicate memory 0) (replicate rows 0) (replicate entries 0) (replicate heads 0))).0.answer

-- a cycle over rooms of zeros, under a setup of this mode and a state of this turn and stop mark
abbrev pub cycled_on : (mode turn : ℕ) → Bool → Operation → ℕ
cycled_on mode turn stopped op =
    (cycle_of (setup_with mode 1 0 1 1 1 2 1 0) (record { stamp = 0; turn = turn; position = 0; stopped = stopped }) op (zeros p7).1).0.reply.answer

abbrev pub RefusedByNumber : Type 0
RefusedByNumber =
    -- each length one less and one more
    (started_over 2 8 4 2 ∷ started_over 1 8 4 2 ∷ started_over 3 8 4 2 ∷ started_over 2 7 4 2 ∷ started_over 2 9 4 2 ∷ [] ≡ 0 ∷ 2 ∷ 2 ∷ 2 ∷ 2 ∷ [])
    × (started_over 2 8 3 2 ∷ started_over 2 8 5 2 ∷ started_over 2 8 4 1 ∷ started_over 2 8 4 3 ∷ [] ≡ 2 ∷ 2 ∷ 2 ∷ 2 ∷ [])
    -- 1 before 3 before 7 before 4, and none of them
    × (cycled_on 2 1 true (read 2) ∷ cycled_on 1 1 true (read 2) ∷ cycled_on 1 0 true (read 2) ∷ cycled_on 1 0 false (read 2) ∷ cycled_on 1 0 false (read 1) ∷ [] ≡ 1 ∷ 3 ∷ 7 ∷ 4 ∷ 0 ∷ [])
    -- a bank at or above B
    × ((waiting_of p7 fresh_state 1 (zeros p7).1).answer ≡ 4)

------------------------------------------------------------------------
-- Turns and needs, which the ledger has from document 01's words alone

-- four banks, m 3: what a question of a bank tells after each of four cycles, its read having arrived in the first
abbrev pub after_read : (bank : ℕ) → List ℕ
after_read bank = counts (setup_with 0 2 2 3 1 3 3 1 0) (read bank ∷ Idle ∷ Idle ∷ Idle ∷ []) bank (0 ∷ 1 ∷ 2 ∷ 3 ∷ [])

-- bank b is served where b mod m = t mod m
abbrev pub ServedInTurn : Type 0
ServedInTurn =
    (after_read 0 ≡ 1 ∷ 1 ∷ 1 ∷ 0 ∷ [])
    × (after_read 1 ≡ 1 ∷ 0 ∷ 0 ∷ 0 ∷ [])
    × (after_read 2 ≡ 1 ∷ 1 ∷ 0 ∷ 0 ∷ [])
    × (after_read 3 ≡ 1 ∷ 1 ∷ 1 ∷ 0 ∷ [])

-- one bank, m 2, K 1, Δ and C 2: the read of cycle 0 fills the buffer, and this arrives at cycle 1
abbrev pub behind_read : (mode : ℕ) → Operation → List (ℕ × Delivery)
behind_read mode op = heard (setup_with mode 1 0 2 1 2 2 1 0) (read 0 ∷ op ∷ [])

-- merging, a write needs no place, nor does a read of a live address; any other read does, and plain both do
abbrev pub PlacesNeeded : Type 0
PlacesNeeded =
    (behind_read 1 (write 1 5) ≡ (0, None) ∷ (0, None) ∷ [])
    × (behind_read 1 (read 0) ≡ (0, None) ∷ (0, None) ∷ [])
    × (behind_read 1 (read 1) ≡ (0, None) ∷ (5, None) ∷ [])
    × (behind_read 0 (write 1 5) ≡ (0, None) ∷ (5, None) ∷ [])
    × (behind_read 0 (read 0) ≡ (0, None) ∷ (5, None) ∷ [])
    -- the retiring write has its place before the read that arrives: m, K, Δ and C 1
    × (heard (setup_with 1 1 0 1 1 1 1 1 0) (write 0 5 ∷ read 0 ∷ []) ≡ (0, None) ∷ (5, None) ∷ [])
