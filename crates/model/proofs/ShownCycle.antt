-- Delivery, retirement and arrival as they are shown. Assumes nothing.
use Rattle.std.specs.Prelude.{Option, Some, None}
use Prim.Native.Nat.{ℕ, suc, ◌-◌, ◌≤◌, ◌<◌}
use native.Mathlib.Omega.{arith}
use mathlib.Core.Path.{◌≡◌, refl, sym, ap, ◌∙◌}
use mathlib.Core.Logic.{⊎_elim}
use mathlib.Core.Bool.{Bool, true, false, false≢true}
use mathlib.Core.List.{List}
use lib.Dec.{eqb}
use lib.ListN.{get_or}
use borrow.Author.Tests.{ltb-true}
use Rattle.choice.specs.Choice.{pick}
use Rattle.setup.specs.Setup.{merging, map_of, words_of, banks_of}
use Rattle.setup.specs.declared.Setup.{Setup}
use Rattle.map.specs.Map.{cell_of, bank_of}
use Rattle.map.proofs.Split.{bank_below}
use Rattle.map.specs.declared.Address.{Address}
use Rattle.port.specs.declared.Operation.{Operation}
use Rattle.port.specs.declared.Operation.TheVariants.{Idle, Read, Write}
use Rattle.model.specs.declared.State.{State}
use Rattle.model.specs.declared.Row.{Row}
use Rattle.model.specs.declared.Entry.{Entry}
use Rattle.rings.specs.Places.{back}
use Rattle.model.specs.Lent.{Lent, Buffers, empty_kind, write_kind, read_kind, waiting_kind, row_with, row_at, empty_row, count_of}
use Rattle.model.specs.Range.{row_ok, GoodRows, Good}
use Rattle.model.specs.Cycle.{delivered, is_of, newest_live, newest_write, placed_at, placed, placed_if, write_of, read_of, given_up_write, given_up_row, retired, plan_with, read_plan, merged_row, merged_plan, planned, Arrived, seated, arrived, next_state}
use Rattle.model.specs.Calls.{address_ok}
use Rattle.choice.proofs.Tests.{pick_good, same_or_not}
use Rattle.rings.proofs.Rings.{back_below}
use Rattle.model.proofs.Range.{row_kind, row_address}
use Rattle.model.proofs.Rows.{scan-below}
use Rattle.model.proofs.Buffers.{count_most, placed-full, placed-room}
use Rattle.model.proofs.Good.{with_buffers}
use Rattle.model.proofs.Arrival.{with_arrived}
use Rattle.model.proofs.Config.{config_of, shown_op, shown_delivery}
use Rattle.model.proofs.Shown.{shown_row, shown_entry, shown_tab, shown, same_machine}
use Rattle.model.proofs.ShownPlaces.{onward-shown, ago-shown}
use Rattle.model.proofs.ShownRows.{by_kind, of_kind, row_out, tab_at, tab_put, shown_found, is_found, newer-shown, look-shown, scan_holds}
use Rattle.model.proofs.ShownBuffers.{room-shown, full-shown, placed-shown}
use Rattle.theory.proofs.Operations.{read, write}
use Rattle.theory.proofs.Machine.{none, put, wr, Plan, only, needs, out, echo, merge}
use Rattle.theory.proofs.Machine as machine
use Rattle.theory.proofs.Concrete.{CSt, CKept, kept, full, CLanded, deliver_c, push_c, shed_c, room_c, retire_row_c, retire_c, note_c, seat_c, land_c, arrive_c}
use Rattle.theory.proofs.Concrete as concrete

------------------------------------------------------------------------
-- Delivery

pub delivery_shown : (s : Setup) (t : State) (x : Lent) → Good s x → t.position < s.c
    → deliver_c (config_of s) (shown s t x) ≡ shown_delivery (delivered s t.position x.rows)
delivery_shown s t x g h =
    let p : ℕ = back s.c t.position s.delta in
    let l : p < s.c = back_below s.c t.position s.delta h g.ranges.c_least in
    ap (λ (i : ℕ). out (get_or (shown_tab s x.rows) i none)) (ago-shown s.c s.delta t.position (omega arith))
    ∙ ap out (tab_at s x.rows p l)
    ∙ row_out s (row_at s.c x.rows p) (row_kind (words_of s) s.c (row_at s.c x.rows p) (g.rows.ok p l))

------------------------------------------------------------------------
-- An entry is placed

module _ (s : Setup) (t : State) (x : Lent) (g : Good s x) (e : Entry) where
  -- where fewer than K wait, it goes behind the last
  push-shown : (count_of x.buffers.heads (bank_of (map_of s) e.cell) ≡ s.k → ⊥)
      → push_c (bank_of (map_of s) e.cell) (shown_entry e) (shown s t x) ≡ shown s t (with_buffers (placed_at s (bank_of (map_of s) e.cell) e x.buffers) x)
  push-shown n =
      let b : ℕ = bank_of (map_of s) e.cell in
      let l : b < banks_of s = bank_below (map_of s) e.cell in
      same_machine
      (placed-shown s x.buffers g.buffers b l (omega (arith, count_most s x.buffers g.buffers b l)) e)
      (λ a. refl)
      refl
      refl
      refl

  room_free : (count_of x.buffers.heads (bank_of (map_of s) e.cell) ≡ s.k → ⊥) → room_c s.k (bank_of (map_of s) e.cell) (shown s t x) ≡ true
  room_free n =
      let b : ℕ = bank_of (map_of s) e.cell in
      room-shown s x.buffers b (omega (arith, count_most s x.buffers g.buffers b (bank_below (map_of s) e.cell)))

------------------------------------------------------------------------
-- Retirement

-- what it leaves, or that a retiring write found its buffer full
abbrev pub shown_kept : Setup → State → Lent → Bool × Buffers → CKept ℕ
shown_kept s t x (true, q) = kept (shown s t (with_buffers q x))
shown_kept s t x (false, q) = full

module _ (s : Setup) (t : State) (x : Lent) (g : Good s x) where
  shed-shown : (e : Entry)
      → shed_c false (room_c s.k (bank_of (map_of s) e.cell) (shown s t x)) (bank_of (map_of s) e.cell) (shown_entry e) (shown s t x)
      ≡ shown_kept s t x (placed s e x.buffers)
  shed-shown e =
      let b : ℕ = bank_of (map_of s) e.cell in
      ⊎_elim
      (λ f. ap (λ (r : Bool). shed_c false r b (shown_entry e) (shown s t x)) (full-shown s x.buffers b f)
      ∙ ap (shown_kept s t x) (sym (placed-full s e x.buffers f)))
      (λ n. ap (λ (r : Bool). shed_c false r b (shown_entry e) (shown s t x)) (room_free s t x g e n)
      ∙ ap kept (push-shown s t x g e n)
      ∙ ap (shown_kept s t x) (sym (placed-room s e x.buffers n)))
      (same_or_not (count_of x.buffers.heads b) s.k)

  module _ (h : t.position < s.c) where
    -- a write
    retire-write : (a : Address) (w link : ℕ) → a.0 < words_of s
        → retire_row_c (config_of s) s.k (put (cell_of (map_of s) a).0 w) (shown s t x)
        ≡ shown_kept s t x (placed_if s (given_up_write s (row_with write_kind a.0 w link) (newest_write s t.position a x.rows)) x.buffers)
    retire-write a w link l =
        ap (λ (b : Bool). shed_c b (room_c s.k (bank_of (map_of s) (cell_of (map_of s) a)) (shown s t x)) (bank_of (map_of s) (cell_of (map_of s) a)) (wr (cell_of (map_of s) a).0 w) (shown s t x))
        (newer-shown s g.ranges a l x.rows g.rows (s.c - 1) t.position h)
        ∙ go (newest_write s t.position a x.rows)
      where
        go : (f : Option ℕ)
            → shed_c (is_found f) (room_c s.k (bank_of (map_of s) (cell_of (map_of s) a)) (shown s t x)) (bank_of (map_of s) (cell_of (map_of s) a)) (wr (cell_of (map_of s) a).0 w) (shown s t x)
            ≡ shown_kept s t x (placed_if s (given_up_write s (row_with write_kind a.0 w link) f) x.buffers)
        go (Some i) = refl
        go None = shed-shown (write_of s a w)

    retire-row : (r : Row) → row_ok (words_of s) s.c r ≡ true
        → retire_row_c (config_of s) s.k (shown_row s r) (shown s t x) ≡ shown_kept s t x (placed_if s (given_up_row s t.position r x.rows) x.buffers)
    retire-row r ok =
        by_kind
        (λ (k : ℕ). ((k ≡ empty_kind → ⊥) → r.address.0 < words_of s)
        → retire_row_c (config_of s) s.k (shown_row s (of_kind r k)) (shown s t x)
        ≡ shown_kept s t x (placed_if s (given_up_row s t.position (of_kind r k) x.rows) x.buffers))
        (λ n. refl)
        (λ n. retire-write r.address r.word r.link (n (λ z. omega arith)))
        (λ n. refl)
        (λ n. refl)
        r.kind
        (row_kind (words_of s) s.c r ok)
        (row_address (words_of s) s.c r ok)

    pub retirement_shown : retire_c (merging s) (config_of s) s.k (shown s t x)
        ≡ shown_kept s t x (retired s t.position x.rows x.buffers)
    unfolding retired
    retirement_shown = go (merging s)
      where
        go : (m : Bool) → retire_c m (config_of s) s.k (shown s t x)
            ≡ shown_kept s t x (placed_if s (pick m (given_up_row s t.position (row_at s.c x.rows t.position) x.rows) None) x.buffers)
        go true =
            ap (λ (r : machine.Row ℕ). retire_row_c (config_of s) s.k r (shown s t x)) (tab_at s x.rows t.position h)
            ∙ retire-row (row_at s.c x.rows t.position) (g.rows.ok t.position h)
        go false = refl

-- where it finds a buffer full, the buffers are as they were
abbrev Unmoved : Buffers → Bool × Buffers → Type 0
Unmoved q w = w.0 ≡ false → w.1 ≡ q

pub retired_unmoved : (s : Setup) (position : ℕ) (rows : List ℕ) (q : Buffers) → (retired s position rows q).0 ≡ false → (retired s position rows q).1 ≡ q
unfolding retired placed
retired_unmoved s position rows q =
    let r : Row = row_at s.c rows position in
    pick_good (λ (p : Option Entry). Unmoved q (placed_if s p q)) (merging s)
    (pick_good (λ (p : Option Entry). Unmoved q (placed_if s p q)) (eqb r.kind write_kind) (go (newest_write s position r.address rows)) (λ e. refl))
    (λ e. refl)
  where
    go : (f : Option ℕ) → Unmoved q (placed_if s (given_up_write s (row_at s.c rows position) f) q)
    go (Some i) = λ e. refl
    go None =
        let r : Row = row_at s.c rows position in
        pick_good (Unmoved q) (eqb (count_of q.heads (bank_of (map_of s) (cell_of (map_of s) r.address))) s.k) (λ e. refl) (λ e. absurd (false≢true (sym e)))

------------------------------------------------------------------------
-- Arrival

-- whether the operation is taken, and the state that the next cycle finds
abbrev pub shown_landed : Setup → State → Lent → Arrived → CLanded ℕ
shown_landed s t x w = record { taken = w.0; st = shown s (next_state s t) (with_arrived w x) }

abbrev landed : Bool → CSt ℕ → CLanded ℕ
landed b c = record { taken = b; st = c }

module _ (s : Setup) (t : State) (x : Lent) where
  -- a plan carried out there; what a read of a plans, by the row that it finds and by what the lookup finds
  abbrev land : Plan ℕ → CLanded ℕ
  land p = land_c (config_of s) s.k p (shown s t x)

  abbrev echoed : Address → machine.Row ℕ → Plan ℕ
  echoed a r = echo (bank_of (map_of s) (cell_of (map_of s) a)) t.position (cell_of (map_of s) a).0 r

  abbrev merged : Address → machine.Found → Plan ℕ
  merged a f = merge (bank_of (map_of s) (cell_of (map_of s) a)) t.position (cell_of (map_of s) a).0 (λ p. get_or (shown_tab s x.rows) p none) f

module _ (s : Setup) (t : State) (turn : t.turn < s.m) (h : t.position < s.c) where
  -- the row of this cycle is filled, and the next cycle begins
  note-shown : (x : Lent) → GoodRows s x.rows → (r : Row)
      → note_c (config_of s) (shown_row s r) (shown s t x) ≡ shown s (next_state s t) (with_arrived (seated s t.position r x.rows (true, x.buffers)) x)
  note-shown x g r =
      let n : suc (s.c - 1) ≡ s.c = omega arith in
      same_machine
      (λ b. refl)
      (λ a. refl)
      (tab_put s x.rows g t.position r h)
      (onward-shown s.m t.turn turn)
      (ap (λ (c : ℕ). concrete.onward c t.position) n ∙ onward-shown s.c t.position h)

  module _ (x : Lent) (g : Good s x) where
    only_shown : (r : Row) → land s t x (only (shown_row s r)) ≡ shown_landed s t x (arrived s t.position (plan_with r None) x.rows x.buffers)
    unfolding arrived
    only_shown r = ap (landed true) (note-shown x g.rows r)

    seat-shown : (e : Entry) (r : Row)
        → land s t x (needs (bank_of (map_of s) e.cell) (shown_entry e) (shown_row s r))
        ≡ shown_landed s t x (arrived s t.position (plan_with r (Some e)) x.rows x.buffers)
    unfolding arrived
    seat-shown e r =
        let b : ℕ = bank_of (map_of s) e.cell in
        ⊎_elim
        (λ f. ap (λ (d : Bool). landed d (seat_c d (config_of s) b (shown_entry e) (shown_row s r) (shown s t x))) (full-shown s x.buffers b f)
        ∙ ap (landed false) (note-shown x g.rows empty_row)
        ∙ ap (λ (w : Bool × Buffers). shown_landed s t x (seated s t.position r x.rows w)) (sym (placed-full s e x.buffers f)))
        (λ n. ap (λ (d : Bool). landed d (seat_c d (config_of s) b (shown_entry e) (shown_row s r) (shown s t x))) (room_free s t x g e n)
        ∙ ap (λ (c : CSt ℕ). landed true (note_c (config_of s) (shown_row s r) c)) (push-shown s t x g e n)
        ∙ ap (landed true) (note-shown (with_buffers (placed_at s b e x.buffers) x) g.rows r)
        ∙ ap (λ (w : Bool × Buffers). shown_landed s t x (seated s t.position r x.rows w)) (sym (placed-room s e x.buffers n)))
        (same_or_not (count_of x.buffers.heads b) s.k)

    -- a read that finds the row r live
    echo-shown : (a : Address) (r : Row) → r.kind ≤ waiting_kind → is_of a r ≡ true
        → land s t x (echoed s t x a (shown_row s r))
        ≡ shown_landed s t x (arrived s t.position (plan_with (merged_row a r) None) x.rows x.buffers)
    echo-shown a r =
        by_kind
        (λ (k : ℕ). is_of a (of_kind r k) ≡ true
        → land s t x (echoed s t x a (shown_row s (of_kind r k)))
        ≡ shown_landed s t x (arrived s t.position (plan_with (merged_row a (of_kind r k)) None) x.rows x.buffers))
        (λ e. absurd (false≢true e))
        (λ e. only_shown (row_with read_kind a.0 r.word 0))
        (λ e. only_shown (row_with read_kind a.0 r.word 0))
        (λ e. only_shown (row_with waiting_kind a.0 0 r.link))
        r.kind

    merge-shown : (a : Address) (f : Option ℕ) → ((i : ℕ) → f ≡ Some i → (i < s.c) × (is_of a (row_at s.c x.rows i) ≡ true))
        → land s t x (merged s t x a (shown_found f))
        ≡ shown_landed s t x (arrived s t.position (merged_plan s t.position a f x.rows) x.rows x.buffers)
    merge-shown a (Some i) n =
        let l : i < s.c = (n i refl).0 in
        ap (λ (r : machine.Row ℕ). land s t x (echoed s t x a r)) (tab_at s x.rows i l)
        ∙ echo-shown a (row_at s.c x.rows i) (row_kind (words_of s) s.c (row_at s.c x.rows i) (g.rows.ok i l)) (n i refl).1
    merge-shown a None n = seat-shown (read_of s t.position a) (row_with waiting_kind a.0 0 t.position)

    read-shown : (a : Address) → a.0 < words_of s → (m : Bool)
        → arrive_c m (config_of s) s.k (read (cell_of (map_of s) a).0) (shown s t x)
        ≡ shown_landed s t x
        (arrived s t.position (pick m (merged_plan s t.position a (newest_live s t.position a x.rows) x.rows) (read_plan s t.position a)) x.rows x.buffers)
    read-shown a l true =
        ap (λ (f : machine.Found). land s t x (merged s t x a f))
        (look-shown s g.ranges a l x.rows g.rows (s.c - 1) t.position h)
        ∙ merge-shown a (newest_live s t.position a x.rows)
        (λ i e. (scan-below (is_of a) s.c x.rows (s.c - 1) t.position h e, scan_holds (is_of a) s.c x.rows (s.c - 1) t.position e))
    read-shown a l false = seat-shown (read_of s t.position a) (row_with waiting_kind a.0 0 t.position)

    write-shown : (a : Address) (w : ℕ) (m : Bool)
        → arrive_c m (config_of s) s.k (write (cell_of (map_of s) a).0 w) (shown s t x)
        ≡ shown_landed s t x
        (arrived s t.position (plan_with (row_with write_kind a.0 w 0) (pick m None (Some (write_of s a w)))) x.rows x.buffers)
    write-shown a w true = only_shown (row_with write_kind a.0 w 0)
    write-shown a w false = seat-shown (write_of s a w) (row_with write_kind a.0 w 0)

    pub arrival_shown : (op : Operation) → address_ok s op ≡ true
        → arrive_c (merging s) (config_of s) s.k (shown_op s op) (shown s t x) ≡ shown_landed s t x (arrived s t.position (planned s t.position op x.rows) x.rows x.buffers)
    arrival_shown Idle e = only_shown empty_row
    arrival_shown (Read a) e = read-shown a (ltb-true a.0 (words_of s) e) (merging s)
    arrival_shown (Write a w) e = write-shown a w (merging s)
