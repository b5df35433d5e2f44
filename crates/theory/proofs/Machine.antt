-- The machine by cycle number, over any words W, any bank rule, any turn rule. Assumes nothing.
--
-- Its table is a function of the cycle number and forgets nothing; which rows are live is arithmetic on cycle numbers.
use mathlib.Core.Bool.{Bool, true, false, cond}
use mathlib.Core.List.{List, [], ◌∷◌, ◌++◌}
use Prim.Native.Nat.{ℕ, zero, suc, ◌-◌}
use lib.ListN.{length}
use Rattle.theory.proofs.Test.{same, lt}
use Rattle.answers.specs.Answers.{done, dropped, stopping, stopped}
use Rattle.theory.proofs.Operations.{Op, idle, read, write, Setup, Delivery, nil, unready, word, Reply, upd}

-- a request: a read of an address for the row of a cycle, or a write
pub data Entry (W : Type 0) : Type 0 where
  rd : ℕ → ℕ → Entry W
  wr : ℕ → W → Entry W

-- a row: empty, a write, a read with its word, a read that waits for the entry of the row of a cycle (perhaps its own)
pub data Row (W : Type 0) : Type 0 where
  none : Row W
  put : ℕ → W → Row W
  got : ℕ → W → Row W
  wait : ℕ → ℕ → Row W

pub record St (W : Type 0) : Type 0 where
  pub buf : ℕ → List (Entry W)
  pub mem : ℕ → W
  pub row : ℕ → Row W

pub data Found : Type 0 where
  nothing : Found
  there : ℕ → Found

-- what an operation does at its arrival: it fills its row only, or also needs a place in a bank's buffer
pub data Plan (W : Type 0) : Type 0 where
  only : Row W → Plan W
  needs : ℕ → Entry W → Row W → Plan W

-- retirement's result: the state left, or a write that needs a place in a full buffer
pub data Kept (W : Type 0) : Type 0 where
  kept : St W → Kept W
  full : Kept W

-- arrival's result: taken or dropped, and the state left
pub record Landed (W : Type 0) : Type 0 where
  pub taken : Bool
  pub st : St W

-- a run before a cycle: going, or stopped
pub data Run (W : Type 0) : Type 0 where
  on : St W → Run W
  off : St W → Run W

module _ {W : Type 0} where
  -- the operation that a row records, and that an entry carries out
  abbrev pub shape : Row W → Op W
  shape none = idle
  shape (put a w) = write a w
  shape (got a w) = read a
  shape (wait a q) = read a

  abbrev pub as_op : Entry W → Op W
  as_op (rd a r) = read a
  as_op (wr a w) = write a w

  ----------------------------------------------------------------------
  -- Service of the banks of a set, all at once: a bank touches only its own addresses

  abbrev pub pop : Bool → List (Entry W) → List (Entry W)
  pop true (e ∷ q) = q
  pop true [] = []
  pop false q = q

  abbrev pub stored : Bool → List (Entry W) → ℕ → W → W
  stored true (e ∷ q) a v = upd a (as_op e) v
  stored true [] a v = v
  stored false q a v = v

  abbrev pub filled : Bool → List (Entry W) → ℕ → ℕ → W → Row W
  filled true (rd b r ∷ q) a n v = cond (same r n) (got a v) (wait a n)
  filled true (wr b w ∷ q) a n v = wait a n
  filled true [] a n v = wait a n
  filled false q a n v = wait a n

  module _ (bank : ℕ → ℕ) (p : ℕ → Bool) (s : St W) where
    abbrev pub fill : Row W → Row W
    fill none = none
    fill (put a w) = put a w
    fill (got a w) = got a w
    fill (wait a n) = filled (p (bank a)) (s.buf (bank a)) a n (s.mem a)

    abbrev pub serve : St W
    serve = record {
      buf = λ b. pop (p b) (s.buf b);
      mem = λ a. stored (p (bank a)) (s.buf (bank a)) a (s.mem a);
      row = λ r. fill (s.row r);
    }

  ----------------------------------------------------------------------
  -- Delivery

  abbrev pub out : Row W → Delivery W
  out none = nil
  out (put a w) = nil
  out (got a w) = word w
  out (wait a n) = unready

  abbrev pub Going : Run W → Type 0
  Going (on s) = Unit {0}
  Going (off s) = ⊥

  unfoldable pub deliver : Setup → ℕ → St W → Delivery W
  deliver g t s = cond (lt t g.delay) nil (out (s.row (t - g.delay)))

  ----------------------------------------------------------------------
  -- The rows of the n cycles before t

  -- a write to the address a
  abbrev pub writes : ℕ → Row W → Bool
  writes a none = false
  writes a (put b w) = same b a
  writes a (got b w) = false
  writes a (wait b n) = false

  abbrev pub names : ℕ → Row W → Bool
  names a none = false
  names a (put b w) = same b a
  names a (got b w) = same b a
  names a (wait b n) = same b a

  abbrev pub newer : ℕ → (ℕ → Row W) → ℕ → ℕ → Bool
  newer a row zero t = false
  newer a row (suc n) zero = false
  newer a row (suc n) (suc t) = cond (writes a (row t)) true (newer a row n t)

  abbrev pub look : ℕ → (ℕ → Row W) → ℕ → ℕ → Found
  look a row zero t = nothing
  look a row (suc n) zero = nothing
  look a row (suc n) (suc t) = cond (names a (row t)) (there t) (look a row n t)

  ----------------------------------------------------------------------
  -- Placing

  abbrev pub ext : ℕ → Entry W → ℕ → List (Entry W)
  ext b e b' = cond (same b b') (e ∷ []) []

  abbrev pub push : ℕ → Entry W → St W → St W
  push b e s = record { buf = λ b'. s.buf b' ++ ext b e b'; mem = s.mem; row = s.row }

  abbrev pub note : ℕ → Row W → St W → St W
  note t x s = record { buf = s.buf; mem = s.mem; row = λ r. cond (same t r) x (s.row r) }

  abbrev pub room : ℕ → ℕ → St W → Bool
  room K b s = lt (length (s.buf b)) K

  ----------------------------------------------------------------------
  -- Retirement

  -- whether a newer live write stands; whether there is room
  abbrev pub shed : Bool → Bool → ℕ → Entry W → St W → Kept W
  shed true x b e s = kept s
  shed false true b e s = kept (push b e s)
  shed false false b e s = full

  abbrev pub retire_row : Setup → ℕ → ℕ → Row W → St W → Kept W
  retire_row g K t none s = kept s
  retire_row g K t (got a w) s = kept s
  retire_row g K t (wait a n) s = kept s
  retire_row g K t (put a w) s = shed (newer a s.row g.rest t) (room K (g.bank a) s) (g.bank a) (wr a w) s

  -- young: no row is C cycles old
  abbrev pub retire_at : Bool → Setup → ℕ → ℕ → St W → Kept W
  retire_at true g K t s = kept s
  retire_at false g K t s = retire_row g K t (s.row (t - suc g.rest)) s

  abbrev pub retire : Bool → Setup → ℕ → ℕ → St W → Kept W
  retire false g K t s = kept s
  retire true g K t s = retire_at (lt t (suc g.rest)) g K t s

  ----------------------------------------------------------------------
  -- Arrival

  abbrev pub echo : ℕ → ℕ → ℕ → Row W → Plan W
  echo b t a none = needs b (rd a t) (wait a t)
  echo b t a (put c w) = only (got a w)
  echo b t a (got c w) = only (got a w)
  echo b t a (wait c n) = only (wait a n)

  abbrev pub merge : ℕ → ℕ → ℕ → (ℕ → Row W) → Found → Plan W
  merge b t a row nothing = needs b (rd a t) (wait a t)
  merge b t a row (there r) = echo b t a (row r)

  abbrev pub plan : Bool → Setup → ℕ → Op W → St W → Plan W
  plan mode g t idle s = only none
  plan false g t (read a) s = needs (g.bank a) (rd a t) (wait a t)
  plan false g t (write a w) s = needs (g.bank a) (wr a w) (put a w)
  plan true g t (read a) s = merge (g.bank a) t a s.row (look a s.row g.rest t)
  plan true g t (write a w) s = only (put a w)

  -- whether there is room
  abbrev pub seat : Bool → ℕ → ℕ → Entry W → Row W → St W → St W
  seat true t b e x s = note t x (push b e s)
  seat false t b e x s = note t none s

  abbrev pub land : ℕ → ℕ → Plan W → St W → Landed W
  land K t (only x) s = record { taken = true; st = note t x s }
  land K t (needs b e x) s = record { taken = room K b s; st = seat (room K b s) t b e x s }

  ----------------------------------------------------------------------
  -- A cycle; a run. The mode is an argument, so that at `true` and `false` each clause computes

  abbrev pub served : Setup → ℕ → St W → St W
  served g t s = serve g.bank (λ b. g.due b t) s

  abbrev pub fresh : (ℕ → W) → St W
  fresh mem = record { buf = λ b. []; mem = mem; row = λ r. none }

  module _ (mode : Bool) (g : Setup) (K : ℕ) where
    abbrev pub arrive : ℕ → Op W → St W → Landed W
    arrive t o s = land K t (plan mode g t o s) s

    abbrev pub finish : ℕ → Op W → St W → Kept W → Run W
    finish t o s (kept r) = on (arrive t o r).st
    finish t o s full = off s

    abbrev pub cycle : ℕ → Op W → Run W → Run W
    cycle t o (off s) = off s
    cycle t o (on s) = finish t o (served g t s) (retire mode g K t (served g t s))

    -- does the cycle take its operation
    abbrev pub takes? : ℕ → Op W → Kept W → Bool
    takes? t o (kept r) = (arrive t o r).taken
    takes? t o full = false

    abbrev pub takes : ℕ → Op W → Run W → Bool
    takes t o (off s) = false
    takes t o (on s) = takes? t o (retire mode g K t (served g t s))

    abbrev pub gives : ℕ → Run W → Delivery W
    gives t (off s) = nil
    gives t (on s) = deliver g t (served g t s)

    abbrev pub answer? : ℕ → Op W → Kept W → ℕ
    answer? t o (kept r) = cond (arrive t o r).taken done dropped
    answer? t o full = stopping

    abbrev pub answer : ℕ → Op W → Run W → ℕ
    answer t o (off s) = stopped
    answer t o (on s) = answer? t o (retire mode g K t (served g t s))

    abbrev pub reply : ℕ → Op W → Run W → Reply W
    reply t o r = record { answer = answer t o r; delivery = gives t r }

    module _ (mem : ℕ → W) (ops : ℕ → Op W) where
      unfoldable pub run : ℕ → Run W
      run zero = on (fresh mem)
      run (suc t) = cycle t (ops t) (run t)

      -- the operations taken
      unfoldable pub did : ℕ → Op W
      did t = cond (takes t (ops t) (run t)) (ops t) idle
