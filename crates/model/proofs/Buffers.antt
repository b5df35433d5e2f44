-- The buffers stay good: what waits once an entry is taken or placed. Assumes nothing.
use Prim.Native.Nat.{ℕ, ◌+◌, ◌-◌, ◌*◌, ◌≤◌, ◌<◌}
use native.Mathlib.Nat.{eq-zero-or-pos}
use native.Mathlib.Omega.{arith}
use mathlib.Core.Path.{◌≡◌, refl, sym, ap, subst, ◌∙◌}
use mathlib.Core.Logic.{⊎_elim}
use mathlib.Core.Bool.{Bool, true, false}
use lib.Dec.{eqb}
use lib.ListN.{length}
use borrow.Author.Tests.{eq-eqb, ne_eqb, eqb-false}
use Rattle.setup.specs.Setup.{map_of, words_of, banks_of}
use Rattle.setup.specs.declared.Setup.{Setup}
use Rattle.map.specs.Map.{bank_of}
use Rattle.map.proofs.Split.{bank_below}
use Rattle.model.specs.declared.Entry.{Entry}
use Rattle.rings.specs.Places.{onward}
use Rattle.model.specs.Lent.{Buffers, entry_numbers, head_numbers, buffers_in, entry_at, oldest_of, count_of}
use Rattle.model.specs.Range.{entry_ok, waiting_entry, head_ok, GoodBuffers}
use Rattle.model.specs.Cycle.{oldest_entry, popped, placed_at, placed}
use Rattle.choice.proofs.Tests.{pick_either, same_or_not, below_or_not}
use Rattle.model.proofs.Lent.{length-put_entry, entry_put_same, entry_put_other, length-put_head, oldest_put_same, oldest_put_other, count_put_same, count_put_other}
use Rattle.rings.proofs.Rings.{onward_none, onward-below, onward-next, onward_differ, part_within, parts_differ}
use Rattle.model.proofs.Range.{head_ok_lem, head_oldest, head_count}

module _ (s : Setup) (q : Buffers) (g : GoodBuffers s q) (b : ℕ) (h : b < banks_of s) where
  pub oldest_below : oldest_of q.heads b < s.k
  oldest_below = head_oldest s q.heads b (g.heads_ok b h)

  pub count_most : count_of q.heads b ≤ s.k
  count_most = head_count s q.heads b (g.heads_ok b h)

  head_within : head_numbers * b + 1 < length q.heads
  head_within = omega (arith, g.room.heads_long)

-- the buffers q' are good where only bank b's differs from q, and that one is in range
module _ (s : Setup) (q q' : Buffers) (b : ℕ) where
  pub changed_good : GoodBuffers s q
      → length q'.entries ≡ length q.entries
      → length q'.heads ≡ length q.heads
      → head_ok s q'.heads b ≡ true
      → ((i : ℕ) → i < count_of q'.heads b → entry_ok (words_of s) s.c (waiting_entry s q' b i) ≡ true)
      → ((j : ℕ) → (j ≡ b → ⊥) → oldest_of q'.heads j ≡ oldest_of q.heads j)
      → ((j : ℕ) → (j ≡ b → ⊥) → count_of q'.heads j ≡ count_of q.heads j)
      → ((j i : ℕ) → (j ≡ b → ⊥) → j < banks_of s → i < count_of q.heads j → waiting_entry s q' j i ≡ waiting_entry s q j i)
      → GoodBuffers s q'
  changed_good g entries heads head waiting oldest count others =
      record {
        room = record { entries_long = entries ∙ g.room.entries_long; heads_long = heads ∙ g.room.heads_long };
        heads_ok =
            λ j l. ⊎_elim
            (λ e. subst (λ (k : ℕ). head_ok s q'.heads k ≡ true) (sym e) head)
            (λ n. head_ok_lem s q'.heads j
            (omega (arith, oldest j n, oldest_below s q g j l))
            (omega (arith, count j n, count_most s q g j l)))
            (same_or_not j b);
        waiting =
            λ j i l m. ⊎_elim
            (λ e. subst (λ (k : ℕ). i < count_of q'.heads k → entry_ok (words_of s) s.c (waiting_entry s q' k i) ≡ true) (sym e)
            (waiting i)
            m)
            (λ n. let m' : i < count_of q.heads j = omega (arith, count j n) in
            ap (entry_ok (words_of s) s.c) (others j i n l m') ∙ g.waiting j i l m')
            (same_or_not j b);
      }

-- the oldest entry is the first of those that wait
pub waiting_first : (s : Setup) (q : Buffers) (b : ℕ) → oldest_of q.heads b < s.k → waiting_entry s q b 0 ≡ oldest_entry s b q
waiting_first s q b h =
    ap (λ (p : ℕ). entry_at q.entries (b * s.k + p)) (onward_none s.k (oldest_of q.heads b) h)

pub oldest_ok : (s : Setup) (q : Buffers) → GoodBuffers s q → (b : ℕ) → b < banks_of s → (count_of q.heads b ≡ 0 → ⊥)
    → entry_ok (words_of s) s.c (oldest_entry s b q) ≡ true
oldest_ok s q g b h n =
    ⊎_elim
    (λ e. absurd (n e))
    (λ l. ap (entry_ok (words_of s) s.c) (sym (waiting_first s q b (oldest_below s q g b h))) ∙ g.waiting b 0 h l)
    (eq-zero-or-pos (count_of q.heads b))

------------------------------------------------------------------------
-- The oldest entry of bank b is taken

-- the buffers then
abbrev pub with_popped : Setup → ℕ → Buffers → Buffers
with_popped s b q = buffers_in q.entries (popped s b q.heads)

module _ (s : Setup) (q : Buffers) (b : ℕ) where
  pub oldest_popped_other : (j : ℕ) → (j ≡ b → ⊥) → oldest_of (popped s b q.heads) j ≡ oldest_of q.heads j
  oldest_popped_other = oldest_put_other q.heads b _ _

  pub count-popped_other : (j : ℕ) → (j ≡ b → ⊥) → count_of (popped s b q.heads) j ≡ count_of q.heads j
  count-popped_other = count_put_other q.heads b _ _

  pub waiting_popped_other : (j i : ℕ) → (j ≡ b → ⊥) → waiting_entry s (with_popped s b q) j i ≡ waiting_entry s q j i
  waiting_popped_other j i n =
      ap (λ (o : ℕ). entry_at q.entries (j * s.k + onward s.k o i)) (oldest_popped_other j n)

  module _ (g : GoodBuffers s q) (h : b < banks_of s) where
    pub oldest_popped : oldest_of (popped s b q.heads) b ≡ onward s.k (oldest_of q.heads b) 1
    oldest_popped = oldest_put_same q.heads b _ _ (head_within s q g b h)

    pub count-popped : count_of (popped s b q.heads) b ≡ count_of q.heads b - 1
    count-popped = count_put_same q.heads b _ _ (head_within s q g b h)

    pub waiting_popped : (i : ℕ) → i < s.k → waiting_entry s (with_popped s b q) b i ≡ waiting_entry s q b (i + 1)
    waiting_popped i l =
        ap (λ (o : ℕ). entry_at q.entries (b * s.k + onward s.k o i)) oldest_popped
        ∙ ap (λ (p : ℕ). entry_at q.entries (b * s.k + p))
        (onward-next s.k (oldest_of q.heads b) i (oldest_below s q g b h) l)

    pub popped_good : GoodBuffers s (with_popped s b q)
    popped_good =
        changed_good s q (with_popped s b q) b g refl (length-put_head q.heads b _ _)
        (head_ok_lem s (popped s b q.heads) b
        (rw oldest_popped (onward-below s.k (oldest_of q.heads b) 1 (oldest_below s q g b h) (omega (arith, oldest_below s q g b h))))
        (omega (arith, count-popped, count_most s q g b h)))
        (λ i l. let m : i + 1 < count_of q.heads b = omega (arith, count-popped) in
        ap (entry_ok (words_of s) s.c) (waiting_popped i (omega (arith, count_most s q g b h))) ∙ g.waiting b (i + 1) h m)
        oldest_popped_other
        count-popped_other
        (λ j i n l m. waiting_popped_other j i n)

------------------------------------------------------------------------
-- An entry is placed behind the last of bank b's buffer

-- the place that it gets
abbrev pub next_place : Setup → ℕ → Buffers → ℕ
next_place s b q = b * s.k + onward s.k (oldest_of q.heads b) (count_of q.heads b)

module _ (s : Setup) (q : Buffers) (b : ℕ) (e : Entry) where
  pub oldest_placed_other : (j : ℕ) → (j ≡ b → ⊥) → oldest_of (placed_at s b e q).heads j ≡ oldest_of q.heads j
  oldest_placed_other = oldest_put_other q.heads b _ _

  pub count-placed_other : (j : ℕ) → (j ≡ b → ⊥) → count_of (placed_at s b e q).heads j ≡ count_of q.heads j
  count-placed_other = count_put_other q.heads b _ _

  module _ (g : GoodBuffers s q) (h : b < banks_of s) where
    pub oldest_placed : oldest_of (placed_at s b e q).heads b ≡ oldest_of q.heads b
    oldest_placed = oldest_put_same q.heads b _ _ (head_within s q g b h)

    pub count-placed : count_of (placed_at s b e q).heads b ≡ count_of q.heads b + 1
    count-placed = count_put_same q.heads b _ _ (head_within s q g b h)

    pub next-within : entry_numbers * next_place s b q + entry_numbers ≤ length q.entries
    next-within =
        omega (
          arith,
          onward-below s.k (oldest_of q.heads b) (count_of q.heads b) (oldest_below s q g b h) (count_most s q g b h),
          part_within b (banks_of s) s.k h,
          g.room.entries_long,
        )

    pub waiting_placed_last : waiting_entry s (placed_at s b e q) b (count_of q.heads b) ≡ e
    waiting_placed_last =
        ap (λ (o : ℕ). entry_at (placed_at s b e q).entries (b * s.k + onward s.k o (count_of q.heads b))) oldest_placed
        ∙ entry_put_same q.entries (next_place s b q) e next-within

    pub waiting_placed_other : (j i : ℕ) → (j ≡ b → ⊥) → j < banks_of s → i < count_of q.heads j
        → waiting_entry s (placed_at s b e q) j i ≡ waiting_entry s q j i
    waiting_placed_other j i n l m =
        ap (λ (o : ℕ). entry_at (placed_at s b e q).entries (j * s.k + onward s.k o i)) (oldest_placed_other j n)
        ∙ entry_put_other q.entries (next_place s b q) e (j * s.k + onward s.k (oldest_of q.heads j) i)
        (parts_differ j b s.k (onward s.k (oldest_of q.heads j) i) (onward s.k (oldest_of q.heads b) (count_of q.heads b))
        (onward-below s.k (oldest_of q.heads j) i (oldest_below s q g j l) (omega (arith, count_most s q g j l)))
        (onward-below s.k (oldest_of q.heads b) (count_of q.heads b) (oldest_below s q g b h) (count_most s q g b h))
        n)

    -- the next free place is none of the waiting ones
    module _ (room : count_of q.heads b < s.k) where
      pub waiting_placed_below : (i : ℕ) → i < count_of q.heads b → waiting_entry s (placed_at s b e q) b i ≡ waiting_entry s q b i
      waiting_placed_below i l =
          ap (λ (o : ℕ). entry_at (placed_at s b e q).entries (b * s.k + onward s.k o i)) oldest_placed
          ∙ entry_put_other q.entries (next_place s b q) e (b * s.k + onward s.k (oldest_of q.heads b) i)
          (λ p. onward_differ s.k (oldest_of q.heads b) i (count_of q.heads b) (oldest_below s q g b h) l room (omega arith))

      pub placed-at_good : entry_ok (words_of s) s.c e ≡ true → GoodBuffers s (placed_at s b e q)
      placed-at_good ok =
          changed_good s q (placed_at s b e q) b g
          (length-put_entry q.entries (next_place s b q) e)
          (length-put_head q.heads b _ _)
          (head_ok_lem s (placed_at s b e q).heads b (rw oldest_placed (oldest_below s q g b h)) (rw count-placed (omega arith)))
          (λ i l. ⊎_elim
          (λ m. ap (entry_ok (words_of s) s.c) (waiting_placed_below i m) ∙ g.waiting b i h m)
          (λ m. let p : i ≡ count_of q.heads b = omega (arith, count-placed) in
          ap (λ (j : ℕ). entry_ok (words_of s) s.c (waiting_entry s (placed_at s b e q) b j)) p
          ∙ ap (entry_ok (words_of s) s.c) waiting_placed_last
          ∙ ok)
          (below_or_not i (count_of q.heads b)))
          oldest_placed_other
          count-placed_other
          waiting_placed_other

------------------------------------------------------------------------
-- An entry is placed where there is a place

module _ (s : Setup) (e : Entry) (q : Buffers) where
  pub placed-full : count_of q.heads (bank_of (map_of s) e.cell) ≡ s.k → placed s e q ≡ (false, q)
  unfolding placed
  placed-full h = rw (eq-eqb (count_of q.heads (bank_of (map_of s) e.cell)) s.k h)

  pub placed-room : (count_of q.heads (bank_of (map_of s) e.cell) ≡ s.k → ⊥) → placed s e q ≡ (true, placed_at s (bank_of (map_of s) e.cell) e q)
  unfolding placed
  placed-room h = rw (ne_eqb (count_of q.heads (bank_of (map_of s) e.cell)) s.k h)

  pub placed_good : GoodBuffers s q → entry_ok (words_of s) s.c e ≡ true → GoodBuffers s (placed s e q).1
  unfolding placed
  placed_good g ok =
      let b : ℕ = bank_of (map_of s) e.cell in
      pick_either (λ (r : Bool × Buffers). GoodBuffers s r.1) (eqb (count_of q.heads b) s.k)
      (λ t. g)
      (λ t. let n : count_of q.heads b ≡ s.k → ⊥ = eqb-false (count_of q.heads b) s.k t in
      placed-at_good s q b e g (bank_below (map_of s) e.cell) (omega (arith, count_most s q g b (bank_below (map_of s) e.cell))) ok)
