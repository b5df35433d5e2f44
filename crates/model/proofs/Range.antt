-- What the answers 2 and 3 establish, test by test: a test is true exactly when what it looks at is in range. Assumes nothing.
use Prim.Native.Nat.{ℕ, ◌≤◌, ◌<◌}
use mathlib.Core.Path.{◌≡◌, refl, sym, ◌∙◌}
use mathlib.Core.Bool.{Bool, true}
use mathlib.Core.List.{List}
use borrow.Author.Tests.{ltb-true, lt-ltb, leb-true, le-leb, eqb-true, eq-eqb, eqb-false, ne_eqb}
use Rattle.setup.specs.Setup.{Ranges, words_of, banks_of}
use Rattle.setup.specs.declared.Setup.{Setup}
use Rattle.setup.proofs.Ranges.{and_l, and_r}
use Rattle.model.specs.declared.State.{State}
use Rattle.model.specs.declared.Row.{Row}
use Rattle.model.specs.declared.Entry.{Entry}
use Rattle.model.specs.Lent.{Lent, Buffers, empty_kind, waiting_kind, row_at, read_entry, write_entry, oldest_of, count_of}
use Rattle.model.specs.Range.{lengths_ok, row_ok, rows_ok, entry_ok, waiting_entry, entries_ok, head_ok, buffer_ok, buffers_ok, numbers_ok, Exact, Good, Ready}
use Rattle.model.specs.Refusals.{NumbersFit, NumbersExactly}
use Rattle.choice.proofs.Tests.{and_true, or_true, or_r, not-or_true, not-or_r}
use Rattle.flat.proofs.Below.{each_below, all_below_lem}

------------------------------------------------------------------------
-- A row

module _ (n c : ℕ) (r : Row) where
  pub row_ok_lem : r.kind ≤ waiting_kind → ((r.kind ≡ empty_kind → ⊥) → r.address.0 < n) → (r.kind ≡ waiting_kind → r.link < c)
      → row_ok n c r ≡ true
  row_ok_lem kind address link =
      search (and_true, or_true, not-or_true, le-leb, lt-ltb, eqb-false, eqb-true, address, link)

  module _ (h : row_ok n c r ≡ true) where
    pub row_kind : r.kind ≤ waiting_kind
    row_kind = search (and_l, and_r, leb-true)

    pub row_address : (r.kind ≡ empty_kind → ⊥) → r.address.0 < n
    row_address k = search (and_l, and_r, or_r, ltb-true, ne_eqb)

    pub row_link : r.kind ≡ waiting_kind → r.link < c
    row_link k = search (and_l, and_r, not-or_r, ltb-true, eq-eqb)

------------------------------------------------------------------------
-- A waiting entry

module _ (n c : ℕ) (e : Entry) where
  pub entry_ok_lem : e.kind ≤ write_entry → e.cell.0 < n → (e.kind ≡ read_entry → e.row < c) → entry_ok n c e ≡ true
  entry_ok_lem kind cell row = search (and_true, not-or_true, le-leb, lt-ltb, eqb-true, row)

  module _ (h : entry_ok n c e ≡ true) where
    pub entry_kind : e.kind ≤ write_entry
    entry_kind = search (and_l, and_r, leb-true)

    pub entry_cell : e.cell.0 < n
    entry_cell = search (and_l, and_r, ltb-true)

    pub entry_row : e.kind ≡ read_entry → e.row < c
    entry_row k = search (and_l, and_r, not-or_r, ltb-true, eq-eqb)

------------------------------------------------------------------------
-- A head

module _ (s : Setup) (heads : List ℕ) (b : ℕ) where
  pub head_ok_lem : oldest_of heads b < s.k → count_of heads b ≤ s.k → head_ok s heads b ≡ true
  head_ok_lem oldest count = search (and_true, lt-ltb, le-leb)

  module _ (h : head_ok s heads b ≡ true) where
    pub head_oldest : oldest_of heads b < s.k
    head_oldest = search (and_l, ltb-true)

    pub head_count : count_of heads b ≤ s.k
    head_count = search (and_r, leb-true)

------------------------------------------------------------------------
-- Every row, every waiting entry of a buffer, every buffer

module _ (n c : ℕ) (rows : List ℕ) (k : ℕ) where
  pub rows_each : rows_ok n c rows k ≡ true → (i : ℕ) → i < k → row_ok n c (row_at c rows i) ≡ true
  unfolding rows_ok
  rows_each = each_below (λ (i : ℕ). row_ok n c (row_at c rows i)) (rows_ok n c rows) (λ i. refl) k

  pub rows_all : ((i : ℕ) → i < k → row_ok n c (row_at c rows i) ≡ true) → rows_ok n c rows k ≡ true
  unfolding rows_ok
  rows_all = all_below_lem (λ (i : ℕ). row_ok n c (row_at c rows i)) (rows_ok n c rows) (λ i. refl) refl k

module _ (s : Setup) (q : Buffers) (b k : ℕ) where
  pub entries_each : entries_ok s q b k ≡ true → (i : ℕ) → i < k → entry_ok (words_of s) s.c (waiting_entry s q b i) ≡ true
  unfolding entries_ok
  entries_each =
      each_below (λ (i : ℕ). entry_ok (words_of s) s.c (waiting_entry s q b i)) (entries_ok s q b) (λ i. refl) k

  pub entries_all : ((i : ℕ) → i < k → entry_ok (words_of s) s.c (waiting_entry s q b i) ≡ true) → entries_ok s q b k ≡ true
  unfolding entries_ok
  entries_all =
      all_below_lem (λ (i : ℕ). entry_ok (words_of s) s.c (waiting_entry s q b i)) (entries_ok s q b) (λ i. refl) refl k

module _ (s : Setup) (q : Buffers) (k : ℕ) where
  pub buffers_each : buffers_ok s q k ≡ true → (b : ℕ) → b < k → buffer_ok s q b ≡ true
  unfolding buffers_ok
  buffers_each = each_below (buffer_ok s q) (buffers_ok s q) (λ b. refl) k

  pub buffers_all : ((b : ℕ) → b < k → buffer_ok s q b ≡ true) → buffers_ok s q k ≡ true
  unfolding buffers_ok
  buffers_all = all_below_lem (buffer_ok s q) (buffers_ok s q) (λ b. refl) refl k

-- a buffer is in range where its head and each of its waiting entries is
module _ (s : Setup) (q : Buffers) (b : ℕ) where
  pub buffer_ok_lem : head_ok s q.heads b ≡ true
      → ((i : ℕ) → i < count_of q.heads b → entry_ok (words_of s) s.c (waiting_entry s q b i) ≡ true)
      → buffer_ok s q b ≡ true
  buffer_ok_lem head entries = and_true _ _ head (entries_all s q b (count_of q.heads b) entries)

  module _ (h : buffer_ok s q b ≡ true) where
    pub buffer_head : head_ok s q.heads b ≡ true
    buffer_head = and_l _ _ h

    pub buffer_entries : (i : ℕ) → i < count_of q.heads b → entry_ok (words_of s) s.c (waiting_entry s q b i) ≡ true
    buffer_entries = entries_each s q b (count_of q.heads b) (and_r (head_ok s q.heads b) _ h)

------------------------------------------------------------------------
-- The test of 3 is past exactly when every number that it looks at fits

module _ (s : Setup) (t : State) (rows : List ℕ) (q : Buffers) where
  numbers_fit : numbers_ok s t rows q ≡ true → NumbersFit s t rows q
  numbers_fit h =
      let row : (i : ℕ) → i < s.c → row_ok (words_of s) s.c (row_at s.c rows i) ≡ true
      = rows_each (words_of s) s.c rows s.c (search (and_l, and_r)) in
      let buffer : (b : ℕ) → b < banks_of s → buffer_ok s q b ≡ true = buffers_each s q (banks_of s) (search (and_l, and_r)) in
      let entry : (b i : ℕ) → b < banks_of s → i < count_of q.heads b → entry_ok (words_of s) s.c (waiting_entry s q b i) ≡ true
      = λ b i l. buffer_entries s q b (buffer b l) i in
      record {
        turn = search (and_l, and_r, ltb-true);
        position = search (and_l, and_r, ltb-true);
        count = λ b l. head_count s q.heads b (buffer_head s q b (buffer b l));
        oldest = λ b l. head_oldest s q.heads b (buffer_head s q b (buffer b l));
        link = λ i l. row_link (words_of s) s.c (row_at s.c rows i) (row i l);
        row = λ b i l k. entry_row (words_of s) s.c (waiting_entry s q b i) (entry b i l k);
        address = λ i l. row_address (words_of s) s.c (row_at s.c rows i) (row i l);
        cell = λ b i l k. entry_cell (words_of s) s.c (waiting_entry s q b i) (entry b i l k);
        row_kind = λ i l. row_kind (words_of s) s.c (row_at s.c rows i) (row i l);
        entry_kind = λ b i l k. entry_kind (words_of s) s.c (waiting_entry s q b i) (entry b i l k);
      }

  fit_numbers : NumbersFit s t rows q → numbers_ok s t rows q ≡ true
  fit_numbers f =
      let every-row : rows_ok (words_of s) s.c rows s.c ≡ true
      = rows_all (words_of s) s.c rows s.c
      (λ i l. row_ok_lem (words_of s) s.c (row_at s.c rows i) (f.row_kind i l) (f.address i l) (f.link i l)) in
      let every-buffer : buffers_ok s q (banks_of s) ≡ true
      = buffers_all s q (banks_of s)
      (λ b l. buffer_ok_lem s q b (head_ok_lem s q.heads b (f.oldest b l) (f.count b l))
      (λ i k. entry_ok_lem (words_of s) s.c (waiting_entry s q b i) (f.entry_kind b i l k) (f.cell b i l k) (f.row b i l k))) in
      let turn : t.turn < s.m = f.turn in
      let position : t.position < s.c = f.position in
      search (and_true, lt-ltb, every-row, every-buffer)

pub numbers_exactly : NumbersExactly
numbers_exactly s t rows q = (numbers_fit s t rows q, fit_numbers s t rows q)

------------------------------------------------------------------------
-- The tests of 2 and 3 are past exactly when the lent slices are good and turn and position in range

pub tests_good : (s : Setup) (x : Lent) → Ranges s → lengths_ok s x ≡ true → rows_ok (words_of s) s.c x.rows s.c ≡ true
    → buffers_ok s x.buffers (banks_of s) ≡ true
    → Good s x
tests_good s x g lengths rows buffers =
    record {
      ranges = g;
      memory_long = search (and_l, and_r, eqb-true);
      rows = record { long = search (and_l, and_r, eqb-true); ok = rows_each _ _ _ _ rows };
      buffers =
          record {
            room = record { entries_long = search (and_l, and_r, eqb-true); heads_long = search (and_l, and_r, eqb-true) };
            heads_ok = λ b l. buffer_head s x.buffers b (buffers_each s x.buffers (banks_of s) buffers b l);
            waiting = λ b i l. buffer_entries s x.buffers b (buffers_each s x.buffers (banks_of s) buffers b l) i;
          };
    }

pub lengths_true : (s : Setup) (x : Lent) → Good s x → lengths_ok s x ≡ true
lengths_true s x g = search (and_true, eq-eqb)

pub rows_true : (s : Setup) (x : Lent) → Good s x → rows_ok (words_of s) s.c x.rows s.c ≡ true
rows_true s x g = rows_all _ _ _ _ g.rows.ok

pub buffers_true : (s : Setup) (x : Lent) → Good s x → buffers_ok s x.buffers (banks_of s) ≡ true
buffers_true s x g =
    buffers_all s x.buffers (banks_of s) (λ b l. buffer_ok_lem s x.buffers b (g.buffers.heads_ok b l) (λ i. g.buffers.waiting b i l))

pub ready : (s : Setup) (t : State) (x : Lent) → Ranges s → lengths_ok s x ≡ true → numbers_ok s t x.rows x.buffers ≡ true → Ready s t x
ready s t x g lengths numbers =
    record {
      good = tests_good s x g lengths (search (and_l, and_r)) (search (and_l, and_r));
      turn = search (and_l, and_r, ltb-true);
      position = search (and_l, and_r, ltb-true);
    }

-- b is what the tests of 2 and of 3 answered
module _ (s : Setup) (x : Lent) (b : Bool) where
  pub exact_shown : Ranges s → b ≡ lengths_ok s x → b ≡ true → Exact s x
  exact_shown r e h =
      let l : lengths_ok s x ≡ true = sym e ∙ h in
      record {
        ranges = r;
        memory_long = search (and_l, and_r, eqb-true) depth 12;
        rows_long = search (and_l, and_r, eqb-true) depth 12;
        room = record {
          entries_long = search (and_l, and_r, eqb-true) depth 12;
          heads_long = search (and_l, and_r, eqb-true) depth 12;
        };
      }

  pub ready_shown : (t : State) → Exact s x → b ≡ numbers_ok s t x.rows x.buffers → b ≡ true → Ready s t x
  ready_shown t g e h = ready s t x g.ranges (search (and_true, eq-eqb)) (sym e ∙ h)

pub ready_lengths : (s : Setup) (t : State) (x : Lent) → Ready s t x → lengths_ok s x ≡ true
ready_lengths s t x r = lengths_true s x r.good

pub ready_numbers : (s : Setup) (t : State) (x : Lent) → Ready s t x → numbers_ok s t x.rows x.buffers ≡ true
ready_numbers s t x r = search (and_true, lt-ltb, rows_true s x r.good, buffers_true s x r.good)
