-- What passes the tests of 1 to 3 passes them for ever: a fresh start makes a state ready, and every cycle leaves it so. Assumes nothing.
use Prim.Native.Nat.{ℕ, ◌+◌, ◌*◌, ◌≤◌, ◌<◌}
use native.Mathlib.Nat.{mul-le-mul}
use native.Mathlib.Omega.{arith}
use mathlib.Core.Path.{◌≡◌, ap}
use mathlib.Core.Bool.{Bool, true, false}
use mathlib.Core.List.{List}
use lib.ListN.{length, replicate, length-replicate, get_or-replicate}
use borrow.Author.Tests.{eqb-true}
use Rattle.setup.specs.Setup.{Ranges, words_of, banks_of}
use Rattle.setup.specs.declared.Setup.{Setup}
use Rattle.setup.proofs.Ranges.{and_l, and_r}
use Rattle.port.specs.declared.Operation.{Operation}
use Rattle.port.specs.declared.Delivery.{Delivery}
use Rattle.model.specs.declared.State.{State}
use Rattle.model.specs.Lent.{Lent, Buffers, head_numbers, kinds, addresses, links, words, buffers_in, row_at, empty_row, oldest_of, count_of}
use Rattle.model.specs.Range.{lengths_of, lengths_ok, row_ok, GoodRows, GoodBuffers, Good, Ready}
use Rattle.model.specs.Cycle.{served, delivered, retired, planned, next_state, going, with_memory, after_service, passed}
use Rattle.model.specs.Calls.{address_ok, fresh_state, fresh_lent}
use Rattle.rings.proofs.Rings.{onward-below}
use Rattle.model.proofs.Range.{head_ok_lem}
use Rattle.model.proofs.Good.{with_buffers, with_buffers_good}
use Rattle.model.proofs.Service.{served_good}
use Rattle.model.proofs.Arrival.{retired_buffers_good, arrived_good}

------------------------------------------------------------------------
-- A fresh start

-- there is at least one row, since Δ is at least K·m
pub c_least_one : (s : Setup) → Ranges s → 0 < s.c
c_least_one s r =
    let l : 1 * 1 ≤ s.k * s.m = mul-le-mul r.sizes.k_least r.sizes.m_least in
    omega (arith, r.delta_least, r.c_least)

module _ (s : Setup) where
  pub fresh-row : (i : ℕ) → i < s.c → row_at s.c (replicate (lengths_of s).rows 0) i ≡ empty_row
  fresh-row i l =
      rw (
        get_or-replicate {A = ℕ} (lengths_of s).rows (kinds s.c + i) 0 0 (omega arith),
        get_or-replicate {A = ℕ} (lengths_of s).rows (addresses s.c + i) 0 0 (omega arith),
        get_or-replicate {A = ℕ} (lengths_of s).rows (links s.c + i) 0 0 (omega arith),
        get_or-replicate {A = ℕ} (lengths_of s).rows (words s.c + i) 0 0 (omega arith),
      )

  fresh_rows_good : GoodRows s (replicate (lengths_of s).rows 0)
  fresh_rows_good =
      record { long = length-replicate (lengths_of s).rows 0; ok = λ i l. ap (row_ok (words_of s) s.c) (fresh-row i l) }

  -- an empty buffer has its oldest place at 0, and nothing waits
  fresh_oldest : (b : ℕ) → b < banks_of s → oldest_of (replicate (lengths_of s).heads 0) b ≡ 0
  fresh_oldest b h = get_or-replicate {A = ℕ} (lengths_of s).heads (head_numbers * b) 0 0 (omega arith)

  pub fresh-count : (b : ℕ) → b < banks_of s → count_of (replicate (lengths_of s).heads 0) b ≡ 0
  fresh-count b h = get_or-replicate {A = ℕ} (lengths_of s).heads (head_numbers * b + 1) 0 0 (omega arith)

  fresh_buffers_good : (entries : List ℕ) → Ranges s → length entries ≡ (lengths_of s).entries
      → GoodBuffers s (buffers_in entries (replicate (lengths_of s).heads 0))
  fresh_buffers_good entries r long =
      record {
        room = record { entries_long = long; heads_long = length-replicate (lengths_of s).heads 0 };
        heads_ok =
            λ b h. head_ok_lem s (replicate (lengths_of s).heads 0) b
            (omega (arith, fresh_oldest b h, r.sizes.k_least))
            (omega (arith, fresh-count b h));
        waiting = λ b i h l. absurd (omega (arith, fresh-count b h));
      }

pub fresh_ready : (s : Setup) (x : Lent) → Ranges s → lengths_ok s x ≡ true → Ready s fresh_state (fresh_lent s x)
fresh_ready s x r lengths =
    record {
      good =
          record {
            ranges = r;
            memory_long = search (and_l, and_r, eqb-true);
            rows = fresh_rows_good s;
            buffers = fresh_buffers_good s x.buffers.entries r (search (and_l, and_r, eqb-true));
          };
      turn = omega (arith, r.sizes.m_least);
      position = c_least_one s r;
    }

------------------------------------------------------------------------
-- A cycle that passes

module _ (s : Setup) (t : State) where
  -- turn and position go round, or stay
  pub next_turn : t.turn < s.m → (next_state s t).turn < s.m
  next_turn h = onward-below s.m t.turn 1 h (omega arith)

  pub next_position : t.position < s.c → (next_state s t).position < s.c
  next_position h = onward-below s.c t.position 1 h (omega arith)

  going_ready : (op : Operation) (d : Delivery) (x : Lent) (w : Bool × Buffers) → Ready s t x → address_ok s op ≡ true
      → GoodBuffers s w.1
      → Ready s (going s t (planned s t.position op x.rows) d x.rows w).0.state
      (with_memory x.memory (going s t (planned s t.position op x.rows) d x.rows w)).1
  going_ready op d x (true, q) r a g =
      record {
        good = arrived_good s t.position op (with_buffers q x) (with_buffers_good s x q r.good g) r.position a;
        turn = next_turn r.turn;
        position = next_position r.position;
      }
  going_ready op d x (false, q) r a g =
      record { good = with_buffers_good s x q r.good g; turn = r.turn; position = r.position }

  pub passed_ready : (op : Operation) (x : Lent) → Ready s t x → address_ok s op ≡ true
      → Ready s (passed s t op x).0.state (passed s t op x).1
  unfolding passed after_service
  passed_ready op x r a =
      let y : Lent = served s t.turn x in
      let g : Good s y = served_good s t.turn x r.good in
      going_ready op (delivered s t.position y.rows) y (retired s t.position y.rows y.buffers)
      (record { good = g; turn = r.turn; position = r.position })
      a
      (retired_buffers_good s r.good.ranges y.buffers g.buffers t.position y.rows)
