-- The machine by position: a table of C rows, a turn and a position that count round, banks served one after the other. Assumes nothing.
--
-- It is the machine of the code but for two things: a buffer is a list and no ring, and the memory is by address and not by cell.
use mathlib.Core.Bool.{Bool, true, false, cond}
use mathlib.Core.List.{List, [], ◌∷◌, ◌++◌}
use Prim.Native.Nat.{ℕ, zero, suc, ◌+◌, ◌-◌, ◌*◌, ◌%◌, ◌≤◌, ◌<◌}
use lib.ListN.{get_or, set, length, replicate}
use Rattle.theory.proofs.Test.{same, lt}
use Rattle.answers.specs.Answers.{done, dropped, stopping, stopped}
use Rattle.theory.proofs.Operations.{Op, idle, read, write, Delivery, nil, Reply, Setup, upd}
use Rattle.theory.proofs.Machine.{Entry, rd, wr, Row, none, put, got, wait, Plan, only, needs, out, as_op, pop, ext, merge}
use Rattle.theory.proofs.Calls.{after}
use Rattle.theory.proofs.Table.{look_back, newer_back, fill_tab}

-- the table has suc rest rows
pub record Config : Type 0 where
  pub banks : ℕ
  pub m : ℕ
  pub delay : ℕ
  pub rest : ℕ
  pub bank : ℕ → ℕ

-- what a depth of K asks of it
pub record Legal (k : Config) (K : ℕ) : Type 0 where
  pub turns : 0 < k.m
  pub fits : K * k.m ≤ k.delay
  pub delays : 0 < k.delay
  pub long : k.delay ≤ suc k.rest
  pub within : (a : ℕ) → k.bank a < k.banks

-- of B banks, the bank b is served in the cycles t with b mod m = t mod m
abbrev pub due : ℕ → ℕ → ℕ → ℕ → Bool
due m B b t = cond (lt b B) (same (b % m) (t % m)) false

abbrev pub setup : Config → Setup
setup k = record { bank = k.bank; due = due k.m k.banks; delay = k.delay; rest = k.rest }

pub record CSt (W : Type 0) : Type 0 where
  pub buf : ℕ → List (Entry W)
  pub mem : ℕ → W
  pub tab : List (Row W)
  pub turn : ℕ
  pub pos : ℕ

pub data CKept (W : Type 0) : Type 0 where
  kept : CSt W → CKept W
  full : CKept W

pub record CLanded (W : Type 0) : Type 0 where
  pub taken : Bool
  pub st : CSt W

pub data CRun (W : Type 0) : Type 0 where
  on : CSt W → CRun W
  off : CSt W → CRun W

-- one place on, of n
abbrev pub onward : ℕ → ℕ → ℕ
onward n p = cond (same (suc p) n) 0 (suc p)

-- the place of d cycles ago, d at most the number of rows
abbrev pub ago : ℕ → ℕ → ℕ → ℕ
ago rest d p = cond (lt p d) (p + suc rest - d) (p - d)

module _ {W : Type 0} where
  ----------------------------------------------------------------------
  -- Service

  -- what the oldest entry of a buffer does to the word at a
  abbrev pub store : List (Entry W) → ℕ → W → W
  store [] a v = v
  store (e ∷ q) a v = upd a (as_op e) v

  abbrev pub serve_one : ℕ → CSt W → CSt W
  serve_one b c = record {
    buf = λ b'. pop (same b b') (c.buf b');
    mem = λ a. store (c.buf b) a (c.mem a);
    tab = fill_tab (c.buf b) c.mem c.tab;
    turn = c.turn;
    pos = c.pos;
  }

  -- the first n banks, in rising order
  abbrev pub serve_to : ℕ → ℕ → CSt W → CSt W
  serve_to m zero c = c
  serve_to m (suc n) c = cond (same (n % m) c.turn) (serve_one n (serve_to m n c)) (serve_to m n c)

  ----------------------------------------------------------------------
  -- Delivery

  abbrev pub deliver_c : Config → CSt W → Delivery W
  deliver_c k c = out (get_or c.tab (ago k.rest k.delay c.pos) none)

  ----------------------------------------------------------------------
  -- Retirement

  abbrev pub push_c : ℕ → Entry W → CSt W → CSt W
  push_c b e c = record { buf = λ b'. c.buf b' ++ ext b e b'; mem = c.mem; tab = c.tab; turn = c.turn; pos = c.pos }

  -- whether a newer live write stands; whether there is room
  abbrev pub shed_c : Bool → Bool → ℕ → Entry W → CSt W → CKept W
  shed_c true x b e c = kept c
  shed_c false true b e c = kept (push_c b e c)
  shed_c false false b e c = full

  abbrev pub room_c : ℕ → ℕ → CSt W → Bool
  room_c K b c = lt (length (c.buf b)) K

  abbrev pub retire_row_c : Config → ℕ → Row W → CSt W → CKept W
  retire_row_c k K none c = kept c
  retire_row_c k K (got a w) c = kept c
  retire_row_c k K (wait a n) c = kept c
  retire_row_c k K (put a w) c = shed_c (newer_back k.rest a c.tab k.rest c.pos) (room_c K (k.bank a) c) (k.bank a) (wr a w) c

  abbrev pub retire_c : Bool → Config → ℕ → CSt W → CKept W
  retire_c false k K c = kept c
  retire_c true k K c = retire_row_c k K (get_or c.tab c.pos none) c

  ----------------------------------------------------------------------
  -- Arrival

  -- the row of this cycle is filled, and the next cycle begins
  abbrev pub note_c : Config → Row W → CSt W → CSt W
  note_c k x c = record { buf = c.buf; mem = c.mem; tab = set c.tab c.pos x; turn = onward k.m c.turn; pos = onward (suc k.rest) c.pos }

  abbrev pub plan_c : Bool → Config → Op W → CSt W → Plan W
  plan_c mode k idle c = only none
  plan_c false k (read a) c = needs (k.bank a) (rd a c.pos) (wait a c.pos)
  plan_c false k (write a w) c = needs (k.bank a) (wr a w) (put a w)
  plan_c true k (read a) c = merge (k.bank a) c.pos a (λ p. get_or c.tab p none) (look_back k.rest a c.tab k.rest c.pos)
  plan_c true k (write a w) c = only (put a w)

  -- whether there is room
  abbrev pub seat_c : Bool → Config → ℕ → Entry W → Row W → CSt W → CSt W
  seat_c true k b e x c = note_c k x (push_c b e c)
  seat_c false k b e x c = note_c k none c

  abbrev pub land_c : Config → ℕ → Plan W → CSt W → CLanded W
  land_c k K (only x) c = record { taken = true; st = note_c k x c }
  land_c k K (needs b e x) c = record { taken = room_c K b c; st = seat_c (room_c K b c) k b e x c }

  ----------------------------------------------------------------------
  -- A cycle, and a run

  abbrev pub fresh_c : Config → (ℕ → W) → CSt W
  fresh_c k mem = record { buf = λ b. []; mem = mem; tab = replicate (suc k.rest) none; turn = 0; pos = 0 }

  module _ (mode : Bool) (k : Config) (K : ℕ) where
    abbrev pub arrive_c : Op W → CSt W → CLanded W
    arrive_c o c = land_c k K (plan_c mode k o c) c

    abbrev pub finish_c : Op W → CSt W → CKept W → CRun W
    finish_c o c (kept d) = on (arrive_c o d).st
    finish_c o c full = off c

    abbrev pub cycle_c : Op W → CRun W → CRun W
    cycle_c o (off c) = off c
    cycle_c o (on c) = finish_c o (serve_to k.m k.banks c) (retire_c mode k K (serve_to k.m k.banks c))

    abbrev pub answer_c? : Op W → CKept W → ℕ
    answer_c? o (kept d) = cond (arrive_c o d).taken done dropped
    answer_c? o full = stopping

    abbrev pub answer_c : Op W → CRun W → ℕ
    answer_c o (off c) = stopped
    answer_c o (on c) = answer_c? o (retire_c mode k K (serve_to k.m k.banks c))

    abbrev pub gives_c : CRun W → Delivery W
    gives_c (off c) = nil
    gives_c (on c) = deliver_c k (serve_to k.m k.banks c)

    abbrev pub reply_c : Op W → CRun W → Reply W
    reply_c o c = record { answer = answer_c o c; delivery = gives_c c }

    module _ (mem : ℕ → W) where
      -- the machine after a fresh start and these operations
      abbrev pub reached_c : List (Op W) → CRun W
      reached_c ops = after cycle_c ops (on (fresh_c k mem))

      -- the same over all cycles, the operation of cycle t being ops t
      unfoldable pub run_c : (ℕ → Op W) → ℕ → CRun W
      run_c ops zero = on (fresh_c k mem)
      run_c ops (suc t) = cycle_c (ops t) (run_c ops t)
