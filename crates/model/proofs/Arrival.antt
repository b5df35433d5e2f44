-- Retirement and arrival keep rows and buffers good. Assumes nothing.
use Rattle.std.specs.Prelude.{Option, Some, None}
use Prim.Native.Nat.{ℕ, ◌-◌, ◌<◌}
use native.Mathlib.Omega.{arith}
use mathlib.Core.Path.{◌≡◌, refl}
use mathlib.Core.Bool.{Bool, true}
use mathlib.Core.List.{List}
use lib.Dec.{eqb}
use borrow.Author.Tests.{ltb-true, eqb-true}
use Rattle.choice.specs.Choice.{pick}
use Rattle.setup.specs.Setup.{Ranges, map_of, words_of}
use Rattle.setup.specs.declared.Setup.{Setup}
use Rattle.map.specs.declared.Address.{Address}
use Rattle.map.proofs.Split.{within_memory}
use Rattle.port.specs.declared.Operation.{Operation}
use Rattle.port.specs.declared.Operation.TheVariants.{Idle, Read, Write}
use Rattle.model.specs.declared.Row.{Row}
use Rattle.model.specs.declared.Entry.{Entry}
use Rattle.model.specs.Lent.{Lent, Buffers, write_kind, read_kind, waiting_kind, row_with, row_at, empty_row}
use Rattle.model.specs.Range.{row_ok, entry_ok, GoodRows, GoodBuffers, Good}
use Rattle.model.specs.declared.Plan.{Plan}
use Rattle.model.specs.Cycle.{is_of, newest_live, newest_write, placed_if, write_of, read_of, given_up_write, retired, read_plan, merged_row, merged_plan, planned, Arrived, seated, arrived}
use Rattle.model.specs.Calls.{address_ok}
use Rattle.choice.proofs.Tests.{pick_good, pick_either}
use Rattle.model.proofs.Range.{row_ok_lem, row_link, entry_ok_lem}
use Rattle.model.proofs.Rows.{put_row_good, scan-below}
use Rattle.model.proofs.Buffers.{placed_good}
use Rattle.model.proofs.Good.{with_buffers, with_buffers_good}

------------------------------------------------------------------------
-- Entries of any address are in range

module _ (s : Setup) (r : Ranges s) (a : Address) where
  pub write-entry_ok : (w : ℕ) → entry_ok (words_of s) s.c (write_of s a w) ≡ true
  write-entry_ok w =
      entry_ok_lem (words_of s) s.c (write_of s a w) (omega arith) (within_memory (map_of s) a r.map).0 (λ e. absurd (omega arith))

  pub read-entry_ok : (position : ℕ) → position < s.c → entry_ok (words_of s) s.c (read_of s position a) ≡ true
  read-entry_ok position h =
      entry_ok_lem (words_of s) s.c (read_of s position a) (omega arith) (within_memory (map_of s) a r.map).0 (λ e. h)

------------------------------------------------------------------------
-- Retirement

module _ (s : Setup) (r : Ranges s) (q : Buffers) (g : GoodBuffers s q) where
  retired-write_good : (x : Row) (f : Option ℕ) → GoodBuffers s (placed_if s (given_up_write s x f) q).1
  retired-write_good x (Some i) = g
  retired-write_good x None =
      placed_good s (write_of s x.address x.word) q g (write-entry_ok s r x.address x.word)

  pub retired_buffers_good : (position : ℕ) (rows : List ℕ) → GoodBuffers s (retired s position rows q).1
  unfolding retired
  retired_buffers_good position rows =
      let x : Row = row_at s.c rows position in
      pick_good (λ (p : Option Entry). GoodBuffers s (placed_if s p q).1) (eqb s.mode 1)
      (pick_good (λ (p : Option Entry). GoodBuffers s (placed_if s p q).1) (eqb x.kind write_kind)
      (retired-write_good x (newest_write s position x.address rows))
      g)
      g

pub retired_good : (s : Setup) (position : ℕ) (x : Lent) → Good s x → Good s (with_buffers (retired s position x.rows x.buffers).1 x)
retired_good s position x g =
    with_buffers_good s x (retired s position x.rows x.buffers).1 g
    (retired_buffers_good s g.ranges x.buffers g.buffers position x.rows)

------------------------------------------------------------------------
-- The rows that arrive are in range

pub empty_row_ok : (n c : ℕ) → row_ok n c empty_row ≡ true
empty_row_ok n c = refl

module _ (n c a : ℕ) (h : a < n) where
  pub write-row_ok : (w : ℕ) → row_ok n c (row_with write_kind a w 0) ≡ true
  write-row_ok w = row_ok_lem n c (row_with write_kind a w 0) (omega arith) (λ e. h) (λ e. absurd (omega arith))

  pub read-row_ok : (w : ℕ) → row_ok n c (row_with read_kind a w 0) ≡ true
  read-row_ok w = row_ok_lem n c (row_with read_kind a w 0) (omega arith) (λ e. h) (λ e. absurd (omega arith))

  pub waiting_row_ok : (link : ℕ) → link < c → row_ok n c (row_with waiting_kind a 0 link) ≡ true
  waiting_row_ok link l = row_ok_lem n c (row_with waiting_kind a 0 link) (omega arith) (λ e. h) (λ e. l)

pub merged-row_ok : (n c : ℕ) (a : Address) (r : Row) → a.0 < n → row_ok n c r ≡ true → row_ok n c (merged_row a r) ≡ true
merged-row_ok n c a r h ok =
    pick_either (λ (x : Row). row_ok n c x ≡ true) (eqb r.kind waiting_kind)
    (λ t. waiting_row_ok n c a.0 h r.link (row_link n c r ok (eqb-true r.kind waiting_kind t)))
    (λ t. read-row_ok n c a.0 h r.word)

------------------------------------------------------------------------
-- Arrival

-- the row of a plan, and the entry that it places, are in range
abbrev PlacingOk : Setup → Option Entry → Type 0
PlacingOk s None = Unit {0}
PlacingOk s (Some e) = entry_ok (words_of s) s.c e ≡ true

abbrev PlanOk : Setup → Plan → Type 0
PlanOk s p = (row_ok (words_of s) s.c p.row ≡ true) × PlacingOk s p.placing

module _ (s : Setup) (r : Ranges s) (position : ℕ) (h : position < s.c) (rows : List ℕ) (gr : GoodRows s rows) where
  read-plan_ok : (a : Address) → a.0 < words_of s → PlanOk s (read_plan s position a)
  read-plan_ok a l = (waiting_row_ok (words_of s) s.c a.0 l position h, read-entry_ok s r a position h)

  merged-plan_ok : (a : Address) → a.0 < words_of s → (f : Option ℕ) → ((i : ℕ) → f ≡ Some i → i < s.c)
      → PlanOk s (merged_plan s position a f rows)
  merged-plan_ok a l (Some i) m = (merged-row_ok (words_of s) s.c a (row_at s.c rows i) l (gr.ok i (m i refl)), tt)
  merged-plan_ok a l None m = read-plan_ok a l

  planned_ok : (op : Operation) → address_ok s op ≡ true → PlanOk s (planned s position op rows)
  planned_ok Idle t = (empty_row_ok (words_of s) s.c, tt)
  planned_ok (Read a) t =
      let l : a.0 < words_of s = ltb-true a.0 (words_of s) t in
      pick_good (PlanOk s) (eqb s.mode 1)
      (merged-plan_ok a l (newest_live s position a rows) (λ i e. scan-below (is_of a) s.c rows (s.c - 1) position h e))
      (read-plan_ok a l)
  planned_ok (Write a w) t = (
    write-row_ok (words_of s) s.c a.0 (ltb-true a.0 (words_of s) t) w,
    pick_good (PlacingOk s) (eqb s.mode 1) tt (write-entry_ok s r a w),
  )

-- what an arrival leaves is good
abbrev pub Kept : Setup → Arrived → Type 0
Kept s w = GoodRows s w.1.0 × GoodBuffers s w.1.1

module _ (s : Setup) (position : ℕ) (h : position < s.c) (rows : List ℕ) (gr : GoodRows s rows) (q : Buffers) (gq : GoodBuffers s q) where
  seated_good : (x : Row) (w : Bool × Buffers) → row_ok (words_of s) s.c x ≡ true → GoodBuffers s w.1
      → Kept s (seated s position x rows w)
  seated_good x w ok gw = (
    put_row_good s rows gr position (pick w.0 x empty_row) h
        (pick_good (λ (y : Row). row_ok (words_of s) s.c y ≡ true) w.0 ok (empty_row_ok (words_of s) s.c)),
    gw,
  )

  placed_if_good : (p : Option Entry) → PlacingOk s p → GoodBuffers s (placed_if s p q).1
  placed_if_good None ok = gq
  placed_if_good (Some e) ok = placed_good s e q gq ok

  pub arrived_parts_good : (p : Plan) → PlanOk s p → Kept s (arrived s position p rows q)
  unfolding arrived
  arrived_parts_good p ok = seated_good p.row (placed_if s p.placing q) ok.0 (placed_if_good p.placing ok.1)

-- the lent slices after it
abbrev pub with_arrived : Arrived → Lent → Lent
with_arrived w x = record { memory = x.memory; rows = w.1.0; buffers = w.1.1 }

pub arrived_good : (s : Setup) (position : ℕ) (op : Operation) (x : Lent) → Good s x → position < s.c → address_ok s op ≡ true
    → Good s (with_arrived (arrived s position (planned s position op x.rows) x.rows x.buffers) x)
arrived_good s position op x g h t =
    let p : Plan = planned s position op x.rows in
    let w =
    arrived_parts_good s position h x.rows g.rows x.buffers g.buffers p
    (planned_ok s g.ranges position h x.rows g.rows op t) in
    record { ranges = g.ranges; memory_long = g.memory_long; rows = w.0; buffers = w.1 }
