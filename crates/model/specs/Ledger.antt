-- The port as a history: what is promised. No table, no ring and no buffer contents stand here.
use Rattle.std.specs.Prelude.{ℕ, ◌+◌, ◌-◌, ◌%◌, ◌^◌, Bool, true, false, ◌&&◌, List, [], ◌∷◌, eqb, ltb, length, take, drop}
use Rattle.answers.specs.Answers.{done, bad_address, dropped, stopping, stopped}
use Rattle.choice.specs.Choice.{pick}
use Rattle.setup.specs.Setup.{merging, map_of}
use Rattle.setup.specs.declared.Setup.{Setup}
use Rattle.map.specs.Map.{bank_at}
use Rattle.map.specs.declared.Address.{Address}
use Rattle.port.specs.declared.Operation.{Operation}
use Rattle.port.specs.declared.Operation.TheVariants.{Idle, Read, Write}
use Rattle.port.specs.declared.Delivery.{Delivery}
use Rattle.port.specs.declared.Delivery.TheVariants.{None}
use Rattle.port.specs.declared.Reply.{Reply}
use Rattle.model.specs.Calls.{address_ok}
use Rattle.model.specs.Sram.{wrote, touched, some, due}

-- the operations of the passed cycles, newest first, a dropped one standing as idle;
-- for each bank the entries placed and served since the fresh start; the stop mark
pub record Ledger : Type 0 where
  pub past : List Operation
  pub placed : ℕ → ℕ
  pub served : ℕ → ℕ
  pub halted : Bool

abbrev pub ledger : List Operation → (ℕ → ℕ) → (ℕ → ℕ) → Bool → Ledger
ledger past placed served halted = record { past = past; placed = placed; served = served; halted = halted }

abbrev pub fresh_ledger : Ledger
fresh_ledger = ledger [] (λ b. 0) (λ b. 0) false

-- the entries that wait at bank b: those placed less those served
abbrev pub waits : Ledger → ℕ → ℕ
waits l b = l.placed b - l.served b

-- 1. Service: each bank b with b mod m = t mod m, if something waits there
abbrev pub serviced : Setup → Ledger → Ledger
serviced s l =
    ledger l.past l.placed
    (λ b. l.served b + pick (eqb (b % s.m) (length l.past % s.m) && ltb 0 (waits l b)) 1 0)
    l.halted

-- at which bank, if any, a place is needed
pub data Need : Type 0 where
  nowhere : Need
  at : ℕ → Need

-- 3. Retirement: merging, the write of cycle t − C, if none of the C − 1 cycles since wrote its address
abbrev pub retiring : Setup → (since older : List Operation) → Need
retiring s since [] = nowhere
retiring s since (Idle ∷ before) = nowhere
retiring s since (Read x ∷ before) = nowhere
retiring s since (Write x w ∷ before) = pick (some (wrote x) since) nowhere (at (bank_at (map_of s) x))

abbrev pub retires : Setup → Ledger → Need
retires s l = pick (merging s) (retiring s (take (s.c - 1) l.past) (drop (s.c - 1) l.past)) nowhere

-- 4. Arrival: plain, a read or a write; merging, a read, if none of the last C − 1 cycles had an operation on its address
abbrev pub arrives : Setup → Operation → Ledger → Need
arrives s Idle l = nowhere
arrives s (Read x) l = pick (merging s && some (touched x) (take (s.c - 1) l.past)) nowhere (at (bank_at (map_of s) x))
arrives s (Write x w) l = pick (merging s) nowhere (at (bank_at (map_of s) x))

-- the buffer there holds K
abbrev pub full : Setup → Need → Ledger → Bool
full s nowhere l = false
full s (at b) l = eqb (waits l b) s.k

abbrev pub given : Need → Ledger → Ledger
given nowhere l = l
given (at c) l = ledger l.past (λ b. l.placed b + pick (eqb c b) 1 0) l.served l.halted

abbrev pub replied : ℕ → Delivery → ℕ → Reply
replied answer d stamp = record { answer = answer; delivery = d; stamp = stamp }

abbrev pub noted : Operation → Ledger → Ledger
noted op l = ledger (op ∷ l.past) l.placed l.served l.halted

abbrev pub landed : Setup → Operation → Delivery → ℕ → Ledger → Reply × Ledger
landed s op d stamp l =
    pick (full s (arrives s op l) l) (replied dropped d stamp, noted Idle l)
    (replied done d stamp, noted op (given (arrives s op l) l))

-- how the cycle ends; l is the ledger after service
abbrev pub ended : Setup → Operation → Delivery → ℕ → Ledger → Reply × Ledger
ended s op d stamp l =
    pick (full s (retires s l) l) (replied stopping d stamp, ledger l.past l.placed l.served true)
    (landed s op d stamp (given (retires s l) l))

-- one call. 2. Delivery: what is owed for cycle t − Δ, the Δ-th newest
unfoldable pub entered : Setup → (Address → ℕ) → Operation → Ledger → Reply × Ledger
entered s start op l =
    pick l.halted (replied stopped None 0, l)
    (pick (address_ok s op)
    (ended s op (due start (drop (s.delta - 1) l.past)) (length l.past % 2 ^ 32) (serviced s l))
    (replied bad_address None 0, l))
