-- A lookup, for any test of a row: its steps, its parts below and above the position, and the place that it finds. Assumes nothing.
use Rattle.std.specs.Prelude.{Option, Some, None}
use Prim.Native.Nat.{ℕ, zero, suc, ◌+◌, ◌-◌, ◌≤◌, ◌<◌}
use native.Mathlib.Nat.{not-suc-le-zero, zero-add, suc-add}
use native.Mathlib.Omega.{arith}
use mathlib.Core.Path.{◌≡◌, refl, sym, ◌∙◌}
use mathlib.Core.Bool.{Bool, true, false, and-false}
use mathlib.Core.Logic.{⊎_elim}
use mathlib.Core.List.{List}
use Rattle.choice.specs.Choice.{pick}
use Rattle.choice.proofs.Tests.{below_or_not}
use Rattle.rings.specs.Places.{back}
use Rattle.model.specs.Lent.{addresses, row_at}
use Rattle.model.specs.Cycle.{scan}
use Rattle.model.specs.Range.{Within}
use Rattle.model.specs.declared.Row.{Row}
use Rattle.rings.proofs.Rings.{back_straight, back-round}
use Rattle.flat.specs.Flat.{block, times}
use Rattle.lookup.specs.Lookup.{Alone, Nearby, wanted, last_wanted}
use Rattle.table.specs.Table.{column}
use Rattle.table.specs.declared.Table.{Table}
use Rattle.table.proofs.Columns.{column_at, column_long}
use Rattle.flat.proofs.Parts.{part_free, part_alone}
use Rattle.map.specs.declared.Address.{Address}
use borrow.Author.Tests.{ne_eqb, ltb-false}
use lib.Dec.{ltb}
use lib.ListN.{length, get_or}
use borrow.Rule.Slice.PartMut.{mid_of}

------------------------------------------------------------------------
-- One step

back_down : (c i : ℕ) → 0 < i → back c i 1 ≡ i - 1
back_down c i h = back_straight c i 1 (omega arith)

back_over : (c : ℕ) → back c 0 1 ≡ c - 1
back_over c = back-round c 0 1 (omega arith) ∙ omega arith

-- a step on the way to what more steps find, and on the way past rows where nothing is found
found_step : (t : Bool) (k j : ℕ) (x y : Option ℕ) → (x ≡ Some j → y ≡ Some j) → pick t (Some k) x ≡ Some j → pick t (Some k) y ≡ Some j
found_step true k j x y g h = h
found_step false k j x y g h = g h

rest_step : (t : Bool) (k : ℕ) (x y z : Option ℕ) → (x ≡ None → y ≡ z) → pick t (Some k) x ≡ None → pick t (Some k) y ≡ z
rest_step true k x y z g h = let n : ◌≡◌ {A = ℕ} 0 1 = cc in absurd (omega arith)
rest_step false k x y z g h = g h

module _ (f : Row → Bool) (c : ℕ) (l : List ℕ) where
  pub scan_none : (n i : ℕ) → n ≤ 0 → scan f c l n i ≡ None
  unfolding scan
  scan_none zero i h = refl
  scan_none (suc n) i h = absurd (not-suc-le-zero h)

  pub scan_hit : (n i : ℕ) → 0 < n → f (row_at c l (back c i 1)) ≡ true → scan f c l n i ≡ Some (back c i 1)
  unfolding scan
  scan_hit zero i h t = absurd (not-suc-le-zero h)
  scan_hit (suc n) i h t = rw t

  pub scan_miss : (n i : ℕ) → 0 < n → f (row_at c l (back c i 1)) ≡ false → scan f c l n i ≡ scan f c l (n - 1) (back c i 1)
  unfolding scan
  scan_miss zero i h t = absurd (not-suc-le-zero h)
  scan_miss (suc n) i h t = let e : suc n - 1 ≡ n = omega arith in rw (t, e)

  ------------------------------------------------------------------------
  -- A part, from its end down: it is to find x, and t says whether the row below i is wanted

  module _ (from i : ℕ) (x : Option ℕ) where
    pub part_hit : (t : Bool) → scan f c l (i - from) i ≡ x → from < i → t ≡ f (row_at c l (i - 1)) → t ≡ true → Some (i - 1) ≡ x
    part_hit t hx h ht y =
        let e : back c i 1 ≡ i - 1 = back_down c i (omega arith) in
        cc (scan_hit (i - from) i (omega arith) (cc))

    pub part_miss : (t : Bool) → scan f c l (i - from) i ≡ x → from < i → t ≡ f (row_at c l (i - 1)) → t ≡ false → scan f c l (i - 1 - from) (i - 1) ≡ x
    part_miss t hx h ht y =
        let e : back c i 1 ≡ i - 1 = back_down c i (omega arith) in
        let s : i - from - 1 ≡ i - 1 - from = omega arith in
        cc (scan_miss (i - from) i (omega arith) (cc))

    pub part_none : scan f c l (i - from) i ≡ x → i ≤ from → None ≡ x
    part_none hx h = cc (scan_none (i - from) i (omega arith))

  ------------------------------------------------------------------------
  -- The part below the position, then the part above it

  -- what m steps find, more steps find
  scan_found : (m n i j : ℕ) → scan f c l m i ≡ Some j → scan f c l (m + n) i ≡ Some j
  unfolding scan
  scan_found zero n i j h = let z : ◌≡◌ {A = ℕ} 0 1 = cc in absurd (omega arith)
  scan_found (suc m) n i j h =
      let k : ℕ = back c i 1 in
      rw suc-add (found_step (f (row_at c l k)) k j (scan f c l m k) (scan f c l (m + n) k) (scan_found m n k j) h)

  -- m steps from place i that find nothing end at place i - m
  scan_past : (m n i : ℕ) → m ≤ i → scan f c l m i ≡ None → scan f c l (m + n) i ≡ scan f c l n (i - m)
  unfolding scan
  scan_past zero n i b h = let e : i - 0 ≡ i = omega arith in rw (zero-add, e)
  scan_past (suc m) n i b h =
      let e : back c i 1 ≡ i - 1 = back_down c i (omega arith) in
      let d : i - suc m ≡ i - 1 - m = omega arith in
      rw (suc-add, e, d) (rest_step (f (row_at c l (i - 1))) (i - 1) (scan f c l m (i - 1)) (scan f c l (m + n) (i - 1)) (scan f c l n (i - 1 - m)) (scan_past m n (i - 1) (omega arith)) (rw e at h))

  -- n rows before place i, none of which is wanted
  pub scan_free : (n i : ℕ) → n ≤ i → ((j : ℕ) → j < i → i ≤ j + n → f (row_at c l j) ≡ false) → None ≡ scan f c l n i
  unfolding scan
  scan_free zero i b h = refl
  scan_free (suc n) i b h =
      let e : back c i 1 ≡ i - 1 = back_down c i (omega arith) in
      let t : f (row_at c l (i - 1)) ≡ false = h (i - 1) (omega arith) (omega arith) in
      rw (e, t) (scan_free n (i - 1) (omega arith) (λ (j : ℕ) (x : j < i - 1) (y : i - 1 ≤ j + n). h j (omega arith) (omega arith)))

  -- r is what the rows from `low` up to i gave, and q what those from `from` up to `low` gave
  module _ (from low i : ℕ) (r : Option ℕ) (b : from ≤ low) (g : low ≤ i) (h : r ≡ scan f c l (i - low) i) where
    pub upper_found : (j : ℕ) → r ≡ Some j → Some j ≡ scan f c l (i - from) i
    upper_found j e =
        let s : i - low + (low - from) ≡ i - from = omega arith in
        let y : scan f c l (i - low) i ≡ Some j = cc in
        sym (rw s at (scan_found (i - low) (low - from) i j y))

    pub lower_rest : (q : Option ℕ) → r ≡ None → q ≡ scan f c l (low - from) low → q ≡ scan f c l (i - from) i
    lower_rest q e p =
        let s : i - low + (low - from) ≡ i - from = omega arith in
        let d : i - (i - low) ≡ low = omega arith in
        let y : scan f c l (i - low) i ≡ None = cc in
        p ∙ sym (rw (s, d) at (scan_past (i - low) (low - from) i (omega arith) y))

  -- before place c comes what comes before place 0
  scan_over : (n : ℕ) → 0 < c → scan f c l n c ≡ scan f c l n 0
  unfolding scan
  scan_over zero h = refl
  scan_over (suc n) h = rw (back_down c c h, back_over c)

  -- r is what the part below the position gave; then q is that, or what the part above it gave
  pub scan_round : (position : ℕ) (r q : Option ℕ) → position < c → r ≡ scan f c l (position - 0) position
      → (r ≡ None → q ≡ scan f c l (c - (position + 1)) c) → ((j : ℕ) → r ≡ Some j → q ≡ Some j) → q ≡ scan f c l (c - 1) position
  scan_round position (Some j) q h p _ g =
      let m : position - 0 ≡ position = omega arith in
      let n : position + (c - 1 - position) ≡ c - 1 = omega arith in
      let low : scan f c l position position ≡ Some j = cc in
      cc (scan_found position (c - 1 - position) position j low, g j refl)
  scan_round position None q h p g _ =
      let m : position - 0 ≡ position = omega arith in
      let z : position - position ≡ 0 = omega arith in
      let k : c - (position + 1) ≡ c - 1 - position = omega arith in
      let n : position + (c - 1 - position) ≡ c - 1 = omega arith in
      let low : scan f c l position position ≡ None = cc in
      cc (scan_past position (c - 1 - position) position (omega arith) low, scan_over (c - 1 - position) (omega arith), g refl)

  -- a place that is found is one of the c
  scan_in : (t : Bool) (k : ℕ) (x : Option ℕ) → k < c → Within c x → Within c (pick t (Some k) x)
  scan_in true k x b h = b
  scan_in false k x b h = h

  pub scan_within : (n i : ℕ) → i ≤ c → 0 < c → Within c (scan f c l n i)
  unfolding scan
  scan_within zero i b o = tt
  scan_within (suc n) i b o =
      let k : back c i 1 < c = ⊎_elim (λ (z : 0 < i). let e = back_down c i z in omega arith) (λ (z : i ≤ 0). let e : i ≡ 0 = omega arith in rw e (let d = back_over c in omega arith)) (below_or_not 0 i) in
      scan_in (f (row_at c l (back c i 1))) (back c i 1) (scan f c l n (back c i 1)) k (scan_within n (back c i 1) (omega arith) o)

------------------------------------------------------------------------
-- Rows of an address

-- a row of another address is not wanted
other_address : (includes : ℕ → Bool) (a : Address) (r : Row) → (r.address.0 ≡ a.0 → ⊥) → wanted includes a r ≡ false
other_address includes a r h = simp (ne_eqb r.address.0 a.0 h, and-false)

module _ (includes : ℕ → Bool) (a : Address) (t : Table) where
  -- rows of which none has the address
  rows_free : (from to : ℕ) → from ≤ to → ((j : ℕ) → from ≤ j → j < to → get_or t.rows.now (addresses t.c + j) 0 ≡ a.0 → ⊥)
      → None ≡ last_wanted includes a t from to
  rows_free from to o h =
      scan_free (wanted includes a) t.c t.rows.now (to - from) to (omega arith)
      (λ (j : ℕ) (x : j < to) (y : to ≤ j + (to - from)). other_address includes a (row_at t.c t.rows.now j) (h j (omega arith) x))

  -- no rows
  pub rest_none : (from to : ℕ) → to ≤ from → None ≡ last_wanted includes a t from to
  rest_none from to h = sym (scan_none (wanted includes a) t.c t.rows.now (to - from) to (omega arith))

-- the address stands n times in the block of the addresses, x, from `low` on
module _ (a : Address) (t : Table) (low n : ℕ) (x : List ℕ) (ex : x ≡ column (addresses t.c) t.c t.rows.now) (b : low + block ≤ t.c)
    (f : n ≡ times a.0 (mid_of low (low + block - low) x)) where
  x_long : length x ≡ t.c
  x_long = let h = t.long in column_long (addresses t.c) t.c t.rows.now x (omega arith) ex

  x_at : (j : ℕ) → j < low + block → get_or t.rows.now (addresses t.c + j) 0 ≡ a.0 → get_or x j 0 ≡ a.0
  x_at j h e = let g = t.long in column_at (addresses t.c) t.c t.rows.now x (omega arith) ex j (omega arith) ∙ e

  -- not at all: its rows have none
  pub block_free : (includes : ℕ → Bool) (from to : ℕ) → low ≤ from → from ≤ to → to ≤ low + block → n ≡ 0 → None ≡ last_wanted includes a t from to
  block_free includes from to o p e z =
      let m = x_long in
      rows_free includes a t from to p (λ j u v q.
      part_free low (low + block) x (omega arith) a.0 j n f z (omega arith) (omega arith) (x_at j (omega arith) q))

  -- not at all, or at the position alone
  module _ (position : ℕ) (o : low ≤ position) (p : position < low + block) where
    pub near_none : ltb 0 n ≡ false → Alone t position low a
    near_none h j u v d q =
        let m = x_long in
        let z : n ≤ 0 = ltb-false 0 n h in
        part_free low (low + block) x (omega arith) a.0 j n f (omega arith) (omega arith) (omega arith) (x_at j v q)

    pub near_own : get_or x position 0 ≡ a.0 → ltb 1 n ≡ false → Alone t position low a
    near_own e h j u v d q =
        let m = x_long in
        let z : n ≤ 1 = ltb-false 1 n h in
        part_alone low (low + block) x (omega arith) a.0 j position n f z (omega arith) (omega arith) (omega arith) (omega arith) (λ s. d (omega arith)) e (x_at j v q)

-- the rows of the block with the position, then those of the blocks below; those of the blocks above, then those of the block.
-- r is what the first gave, q what the second gave
module _ (includes : ℕ → Bool) (a : Address) (t : Table) (position low : ℕ) (near : Bool) (g : Nearby t position low a near) where
  module _ (r : Option ℕ) (h : r ≡ last_wanted includes a t low position) where
    pub below_found : (j : ℕ) → r ≡ Some j → Some j ≡ last_wanted includes a t 0 position
    below_found j e = upper_found (wanted includes a) t.c t.rows.now 0 low position r (omega arith) g.from h j e

    pub below_on : (q : Option ℕ) → r ≡ None → q ≡ last_wanted includes a t 0 low → q ≡ last_wanted includes a t 0 position
    below_on q e p = lower_rest (wanted includes a) t.c t.rows.now 0 low position r (omega arith) g.from h q e p

  module _ (r : Option ℕ) (h : r ≡ last_wanted includes a t (low + block) t.c) where
    pub above_found : (j : ℕ) → r ≡ Some j → Some j ≡ last_wanted includes a t (position + 1) t.c
    above_found j e = let o = g.to in upper_found (wanted includes a) t.c t.rows.now (position + 1) (low + block) t.c r (omega arith) g.within h j e

    pub above_on : (q : Option ℕ) → r ≡ None → q ≡ last_wanted includes a t (position + 1) (low + block) → q ≡ last_wanted includes a t (position + 1) t.c
    above_on q e p = let o = g.to in lower_rest (wanted includes a) t.c t.rows.now (position + 1) (low + block) t.c r (omega arith) g.within h q e p

  -- where the address stands at the position alone, the block gives nothing
  module _ (n : near ≡ false) where
    pub below_rest : (q : Option ℕ) → q ≡ last_wanted includes a t 0 low → q ≡ last_wanted includes a t 0 position
    below_rest q p =
        let o = g.from in
        let e = g.to in
        below_on None (rows_free includes a t low position o (λ j x y. g.alone n j x (omega arith) (λ z. omega arith))) q refl p

    pub above_rest : (r : Option ℕ) → r ≡ last_wanted includes a t (low + block) t.c → r ≡ None → None ≡ last_wanted includes a t (position + 1) t.c
    above_rest r h e =
        let o = g.from in
        let d = g.to in
        above_on r h None e (rows_free includes a t (position + 1) (low + block) (omega arith) (λ j x y. g.alone n j (omega arith) y (λ z. omega arith)))
