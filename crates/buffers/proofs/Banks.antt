-- The functions on a bank's buffer: what they ask follows from what their callers know, and what they leave. Assumes nothing.
use Prim.Native.Nat.{ℕ, ◌+◌, ◌-◌, ◌*◌, ◌<◌}
use mathlib.Core.Bool.{Bool, true, false}
use mathlib.Core.List.{List}
use mathlib.Core.Path.{◌≡◌, ap, sym, ◌∙◌}
use native.Mathlib.Omega.{arith}
use lib.Dec.{eqb}
use borrow.Author.Tests.{eqb-true, eqb-false}
use borrow.Rule.Slice.PartMut.{mid_of, put_mid}
use Rattle.setup.specs.Setup.{Ranges, map_of, banks_of}
use Rattle.setup.specs.declared.Setup.{Setup}
use Rattle.map.specs.Map.{bank_of}
use Rattle.map.specs.declared.Map.{Map}
use Rattle.model.proofs.Buffers.{placed-full, placed-room}
use Rattle.model.proofs.Range.{head_oldest, head_count}
use Rattle.rings.proofs.Rings.{onward-below, part_within}
use Rattle.model.specs.Cycle.{oldest_entry, placed_at, placed}
use Rattle.rings.specs.Places.{onward}
use Rattle.model.specs.Lent.{Buffers, entry_numbers, buffers_in, put_entry, oldest_of, count_of, put_head, entry_with, entry_at}
use Rattle.model.specs.Range.{head_ok, GoodBuffers}
use Rattle.model.specs.declared.Entry.{Entry}
use Rattle.model.specs.declared.Head.{Head}
use Rattle.buffers.specs.Bank.{part_start, Buffer}
use Rattle.buffers.proofs.Parts.{four_part, put_part}

------------------------------------------------------------------------
-- What they ask

pub good_buffer : (s : Setup) (entries heads : List ℕ) → Ranges s → GoodBuffers s (buffers_in entries heads) → (b : ℕ) → b < banks_of s → Buffer s b (buffers_in entries heads)
good_buffer s entries heads r g b l =
    let h : head_ok s heads b ≡ true = g.heads_ok b l in
    record {
      head = record { sizes = r.sizes; head_there = omega (arith, g.room.heads_long); oldest_below = head_oldest s heads b h; count_most = head_count s heads b h };
      part_within = omega (arith, g.room.entries_long, part_within b (banks_of s) s.k l);
    }

------------------------------------------------------------------------
-- What they leave

-- head is bank b's, and its part is cut out from start up to end
module _ (s : Setup) (b : ℕ) (entries heads : List ℕ) (asked : Buffer s b (buffers_in entries heads)) (head : Head) (o : head.oldest ≡ oldest_of heads b) where
  pub oldest_left : (e : Entry) (start end : ℕ) → start ≡ part_start s b → end ≡ part_start s b + entry_numbers * s.k
      → e ≡ entry_at (mid_of start (end - start) entries) head.oldest → e ≡ oldest_entry s b (buffers_in entries heads)
  oldest_left e start end es ee r =
      let m : ℕ = part_start s b + entry_numbers * s.k - part_start s b in
      let below : oldest_of heads b < s.k = asked.head.oldest_below in
      r ∙ rw (o, es, ee) (four_part (b * s.k) m entries (oldest_of heads b) (omega arith) entry_with)

  -- the part and the heads once the entry is placed
  pub placed_left : (e : Entry) (start end : ℕ) (part heads' : List ℕ) → head.count ≡ count_of heads b → count_of heads b < s.k
      → start ≡ part_start s b → end ≡ part_start s b + entry_numbers * s.k
      → part ≡ put_entry (mid_of start (end - start) entries) (onward s.k head.oldest head.count) e
      → heads' ≡ put_head heads b head.oldest (head.count + 1)
      → buffers_in (put_mid start (end - start) entries part) heads' ≡ placed_at s b e (buffers_in entries heads)
  placed_left e start end part heads' n l es ee p h =
      let j : ℕ = onward s.k (oldest_of heads b) (count_of heads b) in
      let i : j < s.k = onward-below s.k (oldest_of heads b) (count_of heads b) asked.head.oldest_below asked.head.count_most in
      let m : ℕ = part_start s b + entry_numbers * s.k - part_start s b in
      rw (p, h, o, n, es, ee)
      (ap (λ (x : List ℕ). buffers_in x (put_head heads b (oldest_of heads b) (count_of heads b + 1)))
      (put_part (b * s.k) m entries j (omega arith) e.kind e.row e.cell.0 e.word (omega (arith, asked.part_within))))

-- map is the setup's, b the bank of the entry's cell, count its buffer's count, and t says whether that is K
module _ (s : Setup) (e : Entry) (entries heads : List ℕ) (map : Map) (own : map ≡ map_of s) (b : ℕ) (named : b ≡ bank_of map e.cell) where
  a : b ≡ bank_of (map_of s) e.cell
  a = named ∙ ap (λ (x : Map). bank_of x e.cell) own

  module _ (count : ℕ) (n : count ≡ count_of heads b) (t : Bool) (f : t ≡ eqb count s.k) where
    pub place_full : t ≡ true → (false, buffers_in entries heads) ≡ placed s e (buffers_in entries heads)
    place_full h = sym (placed-full s e (buffers_in entries heads) (rw (← a, ← n) (eqb-true count s.k (sym f ∙ h))))

    pub place_free : (q : Buffers) → t ≡ false → q ≡ placed_at s b e (buffers_in entries heads) → (true, q) ≡ placed s e (buffers_in entries heads)
    place_free q h r =
        ap (λ (x : Buffers). (true, x)) (r ∙ ap (λ (i : ℕ). placed_at s i e (buffers_in entries heads)) a)
        ∙ sym (placed-room s e (buffers_in entries heads) (rw (← a, ← n) (eqb-false count s.k (sym f ∙ h))))
