-- `Good` where the buffers alone changed, and what it tells of a bank's oldest entry. Assumes nothing.
use Prim.Native.Nat.{ℕ, ◌≤◌, ◌<◌}
use native.Mathlib.Omega.{arith}
use mathlib.Core.Path.{◌≡◌, ap, ◌∙◌}
use mathlib.Core.Bool.{true}
use mathlib.Core.List.{List}
use lib.ListN.{length}
use Rattle.setup.specs.Setup.{words_of, banks_of}
use Rattle.setup.specs.declared.Setup.{Setup}
use Rattle.model.specs.declared.Entry.{Entry}
use Rattle.model.specs.Lent.{Lent, Buffers, lent, buffers_in, read_entry, write_entry, count_of}
use Rattle.model.specs.Range.{entry_ok, GoodBuffers, Good}
use Rattle.model.specs.Cycle.{oldest_entry}
use Rattle.model.proofs.Range.{entry_kind, entry_cell, entry_row}
use Rattle.model.proofs.Buffers.{oldest_ok}

-- the buffers alone changed
abbrev pub with_buffers : Buffers → Lent → Lent
with_buffers q x = record { memory = x.memory; rows = x.rows; buffers = q }

pub with_buffers_good : (s : Setup) (x : Lent) (q : Buffers) → Good s x → GoodBuffers s q → Good s (with_buffers q x)
with_buffers_good s x q g h = record { ranges = g.ranges; memory_long = g.memory_long; rows = g.rows; buffers = h }

------------------------------------------------------------------------
-- Where something waits at bank b, the oldest entry's numbers are in range. e is that entry, as it was read

module _ (s : Setup) (memory rows entries heads : List ℕ) (g : Good s (lent memory rows entries heads)) (b : ℕ) (h : b < banks_of s) (n : count_of heads b ≡ 0 → ⊥)
    {e : Entry} (p : e ≡ oldest_entry s b (buffers_in entries heads)) where
  oldest_at_ok : entry_ok (words_of s) s.c e ≡ true
  oldest_at_ok = ap (entry_ok (words_of s) s.c) p ∙ oldest_ok s (buffers_in entries heads) g.buffers b h n

  pub oldest_at_cell : e.cell.0 < length memory
  oldest_at_cell = omega (arith, entry_cell (words_of s) s.c e oldest_at_ok, g.memory_long)

  pub oldest_at_row : (e.kind ≡ write_entry → ⊥) → e.row < s.c
  oldest_at_row w =
      let k : e.kind ≤ write_entry = entry_kind (words_of s) s.c e oldest_at_ok in
      let r : e.kind ≡ read_entry = omega arith in
      entry_row (words_of s) s.c e oldest_at_ok r
