-- The waiting entries: how the tests of a buffer and of all go on and end, and that a bank's part has what waits at the bank. Assumes nothing.
use Prim.Native.Nat.{ℕ, zero, suc, ◌+◌, ◌-◌, ◌*◌, ◌/◌, ◌≤◌, ◌<◌}
use mathlib.Core.Bool.{Bool, true, false, ◌&&◌}
use mathlib.Core.Logic.{⊎_elim}
use mathlib.Core.List.{List}
use mathlib.Core.Path.{◌≡◌, refl, sym, ap, ◌∙◌}
use native.Mathlib.Omega.{arith}
use borrow.Rule.Slice.PartMut.{mid_of}
use Rattle.setup.specs.Setup.{words_of, banks_of}
use Rattle.setup.specs.declared.Setup.{Setup}
use Rattle.rings.proofs.Rings.{onward_either, onward_none, onward-below, part_within}
use Rattle.model.proofs.Range.{head_ok_lem, head_oldest, head_count, buffer_ok_lem, buffer_head, buffers_each}
use Rattle.model.proofs.Range as range
use Rattle.choice.proofs.Tests.{below_or_not}
use Rattle.lanes.specs.Lanes.{pairs_below, pairs_look, fours_below}
use Rattle.lanes.specs.declared.Look.{Look}
use Rattle.lanes.proofs.Lanes.{pairs_each, pairs_every, fours_each}
use Rattle.rings.specs.Places.{onward}
use Rattle.model.specs.Lent.{Buffers, entry_numbers, write_entry, buffers_in, entry_with, entry_at, oldest_of, count_of}
use Rattle.model.specs.Range.{lengths_of, entry_ok, waiting_entry, entries_ok, buffer_ok, buffers_ok, Room, HeadsOk}
use Rattle.model.specs.declared.Entry.{Entry}
use Rattle.flat.proofs.Below.{said_no, below_more, below_out, below_all}
use lib.ListN.{length}
use Rattle.model.specs.declared.Head.{Head}
use Rattle.buffers.specs.Bank.{part_start, Buffer}
use Rattle.entries.specs.Entries.{part_ok}
use Rattle.heads.specs.Heads.{Quiet}
use Rattle.buffers.proofs.Parts.{four_part}

------------------------------------------------------------------------
-- The entries of a part, from the oldest on. The place of entry i is at, and t says whether it is in range

one_on : (c i n : ℕ) → i < c → n < c → onward c (onward c i n) 1 ≡ onward c i (n + 1)
one_on c i n h l =
    ⊎_elim
    (λ u. ⊎_elim
    (λ v. ⊎_elim (λ w. omega arith) (λ w. omega arith) (onward_either c i (n + 1)))
    (λ v. ⊎_elim (λ w. omega arith) (λ w. omega arith) (onward_either c i (n + 1)))
    (onward_either c (onward c i n) 1))
    (λ u. ⊎_elim
    (λ v. ⊎_elim (λ w. omega arith) (λ w. omega arith) (onward_either c i (n + 1)))
    (λ v. ⊎_elim (λ w. omega arith) (λ w. omega arith) (onward_either c i (n + 1)))
    (onward_either c (onward c i n) 1))
    (onward_either c i n)

pub at_first : (k oldest : ℕ) → oldest < k → oldest ≡ onward k oldest 0
at_first k oldest h = sym (onward_none k oldest h)

pub at_next : (k oldest count i at next : ℕ) → oldest < k → count ≤ k → i < count → at ≡ onward k oldest i → next ≡ onward k at 1 → next ≡ onward k oldest (i + 1)
at_next k oldest count i at next h g l e n = n ∙ ap (λ (x : ℕ). onward k x 1) e ∙ one_on k oldest i h (omega arith)

module _ (n c k oldest : ℕ) (part : List ℕ) where
  pub part_more : (i at : ℕ) (t : Bool) → part_ok n c k oldest part i ≡ true → at ≡ onward k oldest i → t ≡ entry_ok n c (entry_at part at) → t ≡ true
      → part_ok n c k oldest part (i + 1) ≡ true
  unfolding part_ok
  part_more i at t h q e x = below_more (λ (j : ℕ). entry_ok n c (entry_at part (onward k oldest j))) (part_ok n c k oldest part) (λ j. refl) i h (cc)

  pub part_out : (i m at : ℕ) (t : Bool) → i < m → at ≡ onward k oldest i → t ≡ entry_ok n c (entry_at part at) → t ≡ false
      → false ≡ part_ok n c k oldest part m
  unfolding part_ok
  part_out i m at t h q e x = below_out (λ (j : ℕ). entry_ok n c (entry_at part (onward k oldest j))) (part_ok n c k oldest part) (λ j. refl) i m h (cc)

  pub part_all : (i m : ℕ) → m ≤ i → i ≤ m → part_ok n c k oldest part i ≡ true → true ≡ part_ok n c k oldest part m
  unfolding part_ok
  part_all = below_all (λ (j : ℕ). entry_ok n c (entry_at part (onward k oldest j))) (part_ok n c k oldest part) (λ j. refl)

------------------------------------------------------------------------
-- The buffers of the k banks, from the first on, where every head is in range. t says whether what waits at bank b is

module _ (s : Setup) (q : Buffers) (g : HeadsOk s q.heads) where
  waited : (b : ℕ) (t : Bool) → b < banks_of s → t ≡ entries_ok s q b (count_of q.heads b) → buffer_ok s q b ≡ t
  waited b t l e = rw (g b l, e)

  quiet : (b r : ℕ) → Quiet q.heads b r → r ≤ banks_of s → (i : ℕ) → b ≤ i → i < r → buffer_ok s q i ≡ true
  unfolding entries_ok
  quiet b r z l i h j = rw (g i (omega arith), z i h j)

  -- and the banks up to r, where nothing waits
  buffers_quiet : (b r : ℕ) → buffers_ok s q b ≡ true → Quiet q.heads b r → r ≤ banks_of s → buffers_ok s q r ≡ true
  buffers_quiet b r h z l =
      range.buffers_all s q r (λ i j. ⊎_elim (λ x. buffers_each s q b h i x) (λ x. quiet b r z l i x j) (below_or_not i b))

  pub buffers_first : (r k : ℕ) → k ≡ banks_of s → Quiet q.heads 0 r → r ≤ k → buffers_ok s q r ≡ true
  unfolding buffers_ok
  buffers_first r k e z l = buffers_quiet 0 r refl z (omega arith)

  pub buffers_on : (b r k : ℕ) (t : Bool) → k ≡ banks_of s → buffers_ok s q b ≡ true → b < k → t ≡ entries_ok s q b (count_of q.heads b) → t ≡ true
      → Quiet q.heads (b + 1) r → r ≤ k → buffers_ok s q r ≡ true
  unfolding buffers_ok
  buffers_on b r k t e h l n x z m =
      buffers_quiet (b + 1) r (below_more (buffer_ok s q) (buffers_ok s q) (λ j. refl) b h (waited b t (omega arith) n ∙ x)) z (omega arith)

  pub buffers_out : (b k : ℕ) (t : Bool) → k ≡ banks_of s → b < k → t ≡ entries_ok s q b (count_of q.heads b) → t ≡ false → false ≡ buffers_ok s q (banks_of s)
  unfolding buffers_ok
  buffers_out b k t e l n x = below_out (buffer_ok s q) (buffers_ok s q) (λ j. refl) b (banks_of s) (omega arith) (waited b t (omega arith) n ∙ x)

pub buffers_all : (s : Setup) (q : Buffers) (b k : ℕ) → k ≡ banks_of s → k ≤ b → b ≤ k → buffers_ok s q b ≡ true → true ≡ buffers_ok s q (banks_of s)
unfolding buffers_ok
buffers_all s q b k e l h = below_all (buffer_ok s q) (buffers_ok s q) (λ j. refl) b (banks_of s) (omega arith) (omega arith)

------------------------------------------------------------------------
-- What flat looks tell: of the heads, and of the whole entry room

module _ (s : Setup) (entries heads : List ℕ) (k banks : ℕ) (ek : k ≡ s.k) (eb : banks ≡ banks_of s) where
  -- a head is in range where its pair is
  heads_each : (m : ℕ) → m ≤ k + 1 → pairs_below k m heads banks ≡ true → HeadsOk s heads
  heads_each m n h b l = let p = pairs_each k m heads banks h b (omega arith) in head_ok_lem s heads b (omega arith) (omega arith)

  -- nothing waits, by whatever bound on the counts the heads were looked at
  pub told_none : (r : Look) (m : ℕ) → r ≡ pairs_look k m heads banks → r.none ≡ true → true ≡ buffers_ok s (buffers_in entries heads) (banks_of s)
  told_none r m e h =
      let z : pairs_below k 1 heads banks ≡ true = sym (ap (λ (x : Look). x.none) e) ∙ h in
      sym (range.buffers_all s (buffers_in entries heads) (banks_of s) (λ b l.
      let p = pairs_each k 1 heads banks z b (omega arith) in
      buffer_ok_lem s (buffers_in entries heads) b (heads_each 1 (omega arith) z b l) (λ i g. absurd (omega arith))))

  module _ (r : Look) (e : r ≡ pairs_look k (k + 1) heads banks) where
    -- every head is in range
    pub told_below : r.below ≡ true → HeadsOk s heads
    told_below h = heads_each (k + 1) (omega arith) (sym (ap (λ (x : Look). x.below) e) ∙ h)

    -- one is not
    pub told_out : r.below ≡ false → false ≡ buffers_ok s (buffers_in entries heads) (banks_of s)
    told_out h = out (buffers_ok s (buffers_in entries heads) (banks_of s)) refl
      where
        out : (t : Bool) → buffers_ok s (buffers_in entries heads) (banks_of s) ≡ t → false ≡ t
        out false x = refl
        out true x =
            let y : pairs_below k (k + 1) heads banks ≡ true =
            pairs_every k (k + 1) heads banks (λ b l.
            let o = buffer_head s (buffers_in entries heads) b (buffers_each s (buffers_in entries heads) (banks_of s) x b (omega arith)) in
            let c = head_oldest s heads b o in
            let d = head_count s heads b o in
            (omega arith, omega arith)) in
            let z : pairs_below k (k + 1) heads banks ≡ false = sym (ap (λ (x : Look). x.below) e) ∙ h in
            said_no (sym z ∙ y)

-- every place of the entry room is in range
pub all_plain : (s : Setup) (entries heads : List ℕ) (words : ℕ) (u : Bool) → Room s (buffers_in entries heads) → HeadsOk s heads → words ≡ words_of s
    → u ≡ fours_below (write_entry + 1) s.c words entries (length entries / entry_numbers) → u ≡ true → true ≡ buffers_ok s (buffers_in entries heads) (banks_of s)
all_plain s entries heads words u room g ew eu hu =
    let long : length entries ≡ (lengths_of s).entries = room.entries_long in
    sym (range.buffers_all s (buffers_in entries heads) (banks_of s) (λ b l.
    buffer_ok_lem s (buffers_in entries heads) b (g b l) (λ i h.
    let o = head_oldest s heads b (g b l) in
    let c = head_count s heads b (g b l) in
    let j : ℕ = onward s.k (oldest_of heads b) i in
    let y : j < s.k = onward-below s.k (oldest_of heads b) i o (omega arith) in
    let w = part_within b (banks_of s) s.k l in
    let p = fours_each (write_entry + 1) s.c words entries (length entries / entry_numbers) (sym eu ∙ hu) (b * s.k + j) (omega arith) in
    range.entry_ok_lem (words_of s) s.c (waiting_entry s (buffers_in entries heads) b i) (omega arith) (omega arith) (λ r. omega arith))))

------------------------------------------------------------------------
-- In the bank's part, which has m numbers

module _ (s : Setup) (entries heads : List ℕ) (b m : ℕ) (wide : entry_numbers * s.k ≤ m) (below : oldest_of heads b < s.k) where
  -- the entries that wait there are those that wait at the bank
  pub part_entries : (i : ℕ) → i ≤ s.k
      → part_ok (words_of s) s.c s.k (oldest_of heads b) (mid_of (entry_numbers * (b * s.k)) m entries) i ≡ entries_ok s (buffers_in entries heads) b i
  unfolding part_ok entries_ok
  part_entries zero h = refl
  part_entries (suc i) h =
      let j : ℕ = onward s.k (oldest_of heads b) i in
      let l : j < s.k = onward-below s.k (oldest_of heads b) i below (omega arith) in
      rw (part_entries i (omega arith))
      (ap (λ (e : Entry). entries_ok s (buffers_in entries heads) b i && entry_ok (words_of s) s.c e) (four_part (b * s.k) m entries j (omega arith) entry_with))

------------------------------------------------------------------------
-- A bank's buffer: head is the bank's, its part is cut out from start up to end, and t is what the test of the waiting entries in the part answered

pub waiting_left : (s : Setup) (b : ℕ) (entries heads : List ℕ) → Buffer s b (buffers_in entries heads) → (head : Head) → head.oldest ≡ oldest_of heads b → head.count ≡ count_of heads b
    → (start end words : ℕ) (t : Bool) → start ≡ part_start s b → end ≡ part_start s b + entry_numbers * s.k → words ≡ words_of s
    → t ≡ part_ok words s.c s.k head.oldest (mid_of start (end - start) entries) head.count
    → t ≡ entries_ok s (buffers_in entries heads) b (count_of heads b)
waiting_left s b entries heads asked head o n start end words t es ee w r =
    r ∙ rw (o, n, w, es, ee) (part_entries s entries heads b (part_start s b + entry_numbers * s.k - part_start s b) (omega arith) asked.head.oldest_below (count_of heads b) asked.head.count_most)
